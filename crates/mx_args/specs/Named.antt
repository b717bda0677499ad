-- Which task a command line names.
use Rattle.std.specs.Prelude.{◌≡◌, ◌≤◌, ℕ, List, [], Option, Some, None, true, codes, decimal}
use Rattle.clap.specs.Words.{Row, Text, fault_of, first_of, subcommand_of}
use Rattle.mx_pay.specs.Names.{is_name_text}
use Rattle.mx_pay.specs.Tokens.{token_of}
use Rattle.mx_args.specs.Line.{line_app}
use Rattle.mx_args.specs.declared.task.AskedCopies.{AskedCopies}
use Rattle.mx_args.specs.declared.task.AskedReport.{AskedReport}
use Rattle.mx_args.specs.declared.task.AskedReport.TheVariants.{Reconciliation, Statement, Statements}
use Rattle.mx_args.specs.declared.task.Task.{Task}
use Rattle.mx_args.specs.declared.task.Task.TheVariants.{RunMemory, RunFile, Init, Serve, Import, Report, Check, Copy, Migrate}

-- the text is 32 hexadecimal digits, which spell these bytes
abbrev pub IsToken : List ℕ → Text → Type 0
IsToken token text = token_of text ≡ Some token

-- the text is this number in decimal, with no sign and no leading zeros, and the number is from 1 to most
abbrev pub IsNumber : ℕ → ℕ → Text → Type 0
IsNumber most number text = (text ≡ decimal number) × (1 ≤ number) × (number ≤ most)

-- among the rows `id` has this value
abbrev pub Given : List Row → Text → Text → Type 0
Given rows id value = first_of id rows ≡ Some value

-- among the rows `id` has no value
abbrev pub Absent : List Row → Text → Type 0
Absent rows id = first_of id rows ≡ None

-- among the rows `id` has a value, of which P holds
abbrev pub HasValue : List Row → Text → (Text → Type 0) → Type 0
HasValue rows id P = (value : Text) × Given rows id value × P value

-- `--statements` is there
abbrev pub OfAll : List Row → Type 0
OfAll rows = Given rows (codes "statements") (codes "true")

-- the report that is asked for: `--purse` and `--statements` are left out; or `--purse` has a name as its value; or
-- `--statements` is there; and not both
abbrev pub AsksFor : List Row → AskedReport → Type 0
AsksFor rows Reconciliation = ¬ OfAll rows × Absent rows (codes "purse")
AsksFor rows (Statement purse) = ¬ OfAll rows × Given rows (codes "purse") purse × (is_name_text purse ≡ true)
AsksFor rows Statements = OfAll rows × Absent rows (codes "purse")

-- the copies that are asked for: `--copy` and `--every` are left out; or `--copy` is there, and the value of `--every` is a number of
-- seconds
abbrev pub AsksCopies : List Row → Option AskedCopies → Type 0
AsksCopies rows None = Absent rows (codes "copy") × Absent rows (codes "every")
AsksCopies rows (Some copies) = Given rows (codes "copy") copies.to
    × HasValue rows (codes "every") (IsNumber 86400 copies.every)

-- the command of this name with these rows is this task
abbrev pub Names : Text → List Row → Task → Type 0
Names name rows (RunMemory token) = (name ≡ codes "run") × Given rows (codes "memory") (codes "true")
    × Absent rows (codes "FILE") × HasValue rows (codes "token") (IsToken token)
Names name rows (RunFile file) = (name ≡ codes "run") × Given rows (codes "memory") (codes "false")
    × Given rows (codes "FILE") file × Absent rows (codes "token")
Names name rows (Init file token) = (name ≡ codes "init") × Given rows (codes "FILE") file
    × HasValue rows (codes "token") (IsToken token)
Names name rows (Serve file port count copies) = (name ≡ codes "serve") × Given rows (codes "FILE") file
    × HasValue rows (codes "port") (IsNumber 65535 port)
    × HasValue rows (codes "count") (IsNumber 1000000 count)
    × AsksCopies rows copies
Names name rows (Import file roll) = (name ≡ codes "import") × Given rows (codes "FILE") file
    × Given rows (codes "ROLL") roll
Names name rows (Report file report) = (name ≡ codes "report") × Given rows (codes "FILE") file
    × AsksFor rows report
Names name rows (Check file) = (name ≡ codes "check") × Given rows (codes "FILE") file
Names name rows (Copy file to) = (name ≡ codes "copy") × Given rows (codes "FILE") file
    × Given rows (codes "TO") to
Names name rows (Migrate file) = (name ≡ codes "migrate") × Given rows (codes "FILE") file

-- the command of this name with these rows is no task
abbrev pub NamesNone : Text → List Row → Type 0
NamesNone name rows = (task : Task) → ¬ Names name rows task

-- the command that was found, with its rows, is this task
abbrev pub IsFoundBy : Option (Text × List Row) → Task → Type 0
IsFoundBy found task = (name : Text) × (rows : List Row) × (found ≡ Some (name, rows))
    × Names name rows task

-- clap finds no fault in the words, and its matches of them name this task
abbrev pub IsNamedBy : List Text → Task → Type 0
IsNamedBy words task = (fault_of line_app words ≡ [])
    × ((name : Text) × (rows : List Row) × (subcommand_of line_app words ≡ Some (name, rows))
    × Names name rows task)
