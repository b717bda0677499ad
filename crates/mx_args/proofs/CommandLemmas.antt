-- What clap finds at the command of the program.
use Rattle.std.proofs.Common.{◌≡◌, ◌∙◌, ◌+◌, ◌<◌, ◌≤◌, ℕ, List, [], Option, Some, None, true, false, refl, ap, sym, subst, inl, inr, length, get_or, drop, drop-cons, add-one, suc, option_map, arith}
use Rattle.std.proofs.lemmas.List.{drop_all}
use Rattle.clap.specs.Words.{AddsArg, AddsSubcommand, App, HasKind, Kinds, Row, Text, app_of, is_simple, is_simple_and_free, kind_of, rule_of, subcommand_name_of, subcommand_rows_of, with_rule, with_subcommand}
use Rattle.clap.specs.declared.builder.arg.Arg.{Arg}
use Rattle.clap.specs.declared.builder.command.Command.{Command}
use Rattle.clap.specs.declared.Command.TheViews.{out-Command}
use Rattle.clap.specs.declared.ArgMatches.{ArgMatches}
use Rattle.clap.specs.declared.Error.{Error}
use Rattle.clap.specs.declared.error.ErrorKind.TheVariants.{OutOfMemory}
use Rattle.clap.specs.declared.ArgMatches.TheViews.{out-ArgMatches}
use Rattle.mx_args.specs.declared.commands.Argument.{Argument}
use Rattle.mx_args.specs.declared.commands.Form.{Form}
use Rattle.mx_args.specs.Forms.{app_with, app_with_forms, form_app, rule_from}
use Rattle.mx_args.specs.Line.{line_app}

-- one argument more
pub argument_more : (arguments : List Argument) (i : ℕ) (d : Argument) {app : App} {old new : Command} {a : Arg} → i < length arguments
    → app_with (app_of old) (drop i arguments) ≡ app → rule_of a ≡ rule_from (get_or arguments i d) → a.global ≡ false → AddsArg old a new
    → app_with (app_of new) (drop (i + 1) arguments) ≡ app
argument_more arguments i d {old = old} low before rule local adds =
    rw add-one (ap (λ x. app_with x (drop (suc i) arguments)) (adds.shape local ∙ ap (with_rule (app_of old)) rule)
    ∙ ap (app_with (app_of old)) (sym (drop-cons arguments i d low)) ∙ before)

-- all arguments
pub arguments_done : (arguments : List Argument) (i : ℕ) (command : Command) {app : App} → length arguments ≤ i
    → app_with (app_of command) (drop i arguments) ≡ app → app_of command ≡ app
arguments_done arguments i command over has = ap (app_with (app_of command)) (sym (drop_all i arguments over)) ∙ has

-- one command more
pub form_more : (forms : List Form) (i : ℕ) (d : Form) {app : App} {old new sub : Command} → i < length forms
    → app_with_forms (app_of old) (drop i forms) ≡ app → app_of sub ≡ form_app (get_or forms i d) → (out-Command sub).has_globals ≡ false
    → AddsSubcommand old sub new → app_with_forms (app_of new) (drop (i + 1) forms) ≡ app
form_more forms i d {old = old} low before form local adds =
    rw add-one (ap (λ x. app_with_forms x (drop (suc i) forms)) (adds.shape local ∙ ap (λ (a : App). with_subcommand (app_of old) a.top) form)
    ∙ ap (app_with_forms (app_of old)) (sym (drop-cons forms i d low)) ∙ before)

-- all commands
pub forms_done : (forms : List Form) (i : ℕ) (program : Command) {app : App} → length forms ≤ i
    → app_with_forms (app_of program) (drop i forms) ≡ app → app_of program ≡ app
forms_done forms i program over has = ap (app_with_forms (app_of program)) (sym (drop_all i forms over)) ∙ has

-- clap's matches of the command are a function of the words
pub line_is_simple : is_simple line_app ≡ true
line_is_simple = refl

-- no argument has a rule on another, so clap's clause `kinds` is exact here
pub line_is_free : is_simple_and_free line_app ≡ true
line_is_free = refl

pair_of : {A B : Type 0} (o : Option (A × B)) (a : A) (b : B) → Some a ≡ option_map (λ p. p.0) o
    → Some b ≡ option_map (λ p. p.1) o → o ≡ Some (a, b)
pair_of None a b h k = absurd (grind (arith, h))
pair_of (Some p) a b h k = grind (arith, h, k)

abbrev first : (A B : Type 0) → A × B → A
first A B p = p.0

module _ {X A B : Type 0} where
  firsts_are : (f : X → A) (g : X → B) (o : Option X)
      → option_map f o ≡ option_map (first A B) (option_map (λ x. (f x, g x)) o)
  firsts_are f g None = refl
  firsts_are f g (Some x) = refl

-- the name of the subcommand is that of its rows
pub names_are : (m : ArgMatches) → subcommand_name_of m ≡ option_map (λ p. p.0) (subcommand_rows_of m)
names_are m = firsts_are _ _ (out-ArgMatches m).subcommand

-- the name and the rows of the subcommand are those that its reader gives
pub found_named : (m : ArgMatches) (name : Text) (rows : List Row) → Some name ≡ subcommand_name_of m
    → Some rows ≡ option_map (λ p. p.1) (subcommand_rows_of m) → subcommand_rows_of m ≡ Some (name, rows)
found_named m name rows h k = pair_of (subcommand_rows_of m) name rows (h ∙ names_are m) k

only : (e : Error) → HasKind [] e → kind_of e ≡ OutOfMemory
only e (inl h) = h
only e (inr h) = absurd h

-- an error of a line in which clap finds no fault is want of memory
pub only_memory : (kinds : Kinds) (e : Error) → kinds ≡ [] → HasKind kinds e → kind_of e ≡ OutOfMemory
only_memory kinds e none has = only e (subst (λ (k : Kinds). HasKind k e) none has)
