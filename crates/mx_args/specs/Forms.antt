-- What clap reads of the forms of commands.
use Rattle.std.specs.Prelude.{Bool, List, [], ◌∷◌}
use Rattle.clap.specs.Words.{App, Rule, Text, new_app, with_rule, with_subcommand}
use Rattle.mx_args.specs.Line.{flag_rule, option_rule, word_rule}
use Rattle.mx_args.specs.declared.commands.Argument.{Argument}
use Rattle.mx_args.specs.declared.commands.Form.{Form}
use Rattle.mx_args.specs.declared.commands.Kind.{Kind}
use Rattle.mx_args.specs.declared.commands.Kind.TheVariants.{Word, Value, Flag}

-- an argument with this id that is written so
abbrev pub rule_of_kind : Kind → Text → Bool → Rule
rule_of_kind Word id required = word_rule id required
rule_of_kind (Value _) id required = option_rule id required
rule_of_kind Flag id required = record (flag_rule id) { required = required }

-- what clap reads of an argument
abbrev pub rule_from : Argument → Rule
rule_from a = rule_of_kind a.kind a.id.now a.required

-- a command with these arguments more
abbrev pub app_with : App → List Argument → App
app_with app [] = app
app_with app (a ∷ arguments) = app_with (with_rule app (rule_from a)) arguments

-- the command of a form
abbrev pub form_app : Form → App
form_app form = app_with (new_app form.name.now) form.arguments.now

-- a program with these commands more
abbrev pub app_with_forms : App → List Form → App
app_with_forms app [] = app
app_with_forms app (form ∷ forms) = app_with_forms (with_subcommand app (form_app form).top) forms
