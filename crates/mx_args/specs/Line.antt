-- What clap reads of the program's command line.
use Rattle.std.specs.Prelude.{Bool, true, false, Some, [], codes}
use Rattle.clap.specs.Words.{App, Rule, Text, new_app, new_rule, with_rule, with_subcommand}
use Rattle.clap.specs.declared.builder.ArgAction.TheVariants.{SetTrue}

-- a word that stands by itself
abbrev pub word_rule : Text → Bool → Rule
word_rule id required = record (new_rule id) { required = required }

-- `--NAME VALUE`
abbrev pub option_rule : Text → Bool → Rule
option_rule name required = record (new_rule name) {
  long = Some name;
  value_names = 1;
  required = required;
}

-- `--NAME`, which may be left out
abbrev pub flag_rule : Text → Rule
flag_rule name = record (new_rule name) { long = Some name; action = Some SetTrue }

-- `run [FILE] [--memory] [--token HEX]`: which of them go together is not clap's to say
abbrev pub run_app : App
run_app = with_rule (with_rule (with_rule (new_app (codes "run")) (word_rule (codes "FILE") false))
    (flag_rule (codes "memory"))) (option_rule (codes "token") false)

-- `init FILE --token HEX`
abbrev pub init_app : App
init_app = with_rule (with_rule (new_app (codes "init")) (word_rule (codes "FILE") true))
    (option_rule (codes "token") true)

-- `serve FILE --port N --count K [--copy PATH] [--every SECONDS]`: that the last two go together is not clap's to say
abbrev pub serve_app : App
serve_app = with_rule (with_rule (with_rule (with_rule (with_rule (new_app (codes "serve")) (word_rule (codes "FILE") true))
    (option_rule (codes "port") true)) (option_rule (codes "count") true)) (option_rule (codes "copy") false))
    (option_rule (codes "every") false)

-- `import FILE ROLL`
abbrev pub import_app : App
import_app = with_rule (with_rule (new_app (codes "import")) (word_rule (codes "FILE") true))
    (word_rule (codes "ROLL") true)

-- `report FILE [--purse P] [--statements]`: that not both go together is not clap's to say
abbrev pub report_app : App
report_app = with_rule (with_rule (with_rule (new_app (codes "report")) (word_rule (codes "FILE") true))
    (option_rule (codes "purse") false)) (flag_rule (codes "statements"))

-- `check FILE`
abbrev pub check_app : App
check_app = with_rule (new_app (codes "check")) (word_rule (codes "FILE") true)

-- `copy FILE TO`
abbrev pub copy_app : App
copy_app = with_rule (with_rule (new_app (codes "copy")) (word_rule (codes "FILE") true))
    (word_rule (codes "TO") true)

-- `migrate FILE`
abbrev pub migrate_app : App
migrate_app = with_rule (new_app (codes "migrate")) (word_rule (codes "FILE") true)

-- the program, which is called by its words alone, without its name, and tells its version
abbrev pub program_app : App
program_app = record {
  top = record (new_app (codes "purse-office")).top {
    no_binary_name = true;
    subcommand_required = true;
    has_version = true;
  };
  subs = [];
}

-- the program with its commands
abbrev pub line_app : App
line_app = with_subcommand (with_subcommand (with_subcommand (with_subcommand (with_subcommand (with_subcommand
    (with_subcommand (with_subcommand program_app run_app.top) init_app.top) serve_app.top) import_app.top)
    report_app.top) check_app.top) copy_app.top) migrate_app.top
