-- The rows of a command name one task at most, and none where a word is missing or means nothing.
use Rattle.std.proofs.Common.{◌≡◌, ◌≤◌, ◌<◌, ◌^◌, ◌∙◌, ◌⊎◌, inl, inr, ℕ, List, Option, Some, None, cond, refl, sym, ap, ap₂, subst, option_map, codes, slice_index, arith}
use Rattle.std.specs.Prelude.{decimal}
use Rattle.std.specs.Option.{option_and_then}
use Rattle.std.proofs.lemmas.Bool.{le-leb}
use Rattle.std.proofs.lemmas.Option.{cond_some}
use Rattle.clap.specs.Words.{Row, Text, first_of}
use Rattle.mx_pay.specs.Limits.{most_number}
use Rattle.mx_pay.specs.Reading.{limited, number_of, up_to}
use Rattle.mx_pay.specs.Tokens.{token_of}
use Rattle.mx_pay.proofs.EntryLemmas.{bind_some, number_again, number_takes}
use Rattle.mx_args.specs.Misfits.{Has, HasMisfit, IsCopyMisfit, IsServe}
use Rattle.mx_args.specs.Named.{Absent, AsksCopies, AsksFor, Given, HasValue, IsFoundBy, IsNumber, IsToken, Names, NamesNone}
use Rattle.mx_args.specs.declared.line.Misfit.{Misfit}
use Rattle.mx_args.specs.declared.line.Misfit.TheVariants.{CopyAndEvery, Every}
use Rattle.mx_args.specs.declared.task.AskedCopies.{AskedCopies}
use Rattle.mx_args.specs.declared.task.AskedReport.{AskedReport}
use Rattle.mx_args.specs.declared.task.AskedReport.TheVariants.{Reconciliation, Statement, Statements}
use Rattle.mx_args.specs.declared.task.Task.{Task}
use Rattle.mx_args.specs.declared.task.Task.TheVariants.{RunMemory, RunFile, Init, Serve, Import, Report, Check, Copy, Migrate}

-- ---- numbers

-- what is read as a number is its decimal
pub limited_takes : (most : ℕ) (text : Text) (n : ℕ) → limited most text ≡ Some n → text ≡ decimal n
limited_takes most text n h =
    let b = bind_some (up_to most) (number_of text) n h in
    let s = cond_some _ _ _ b.1.1 in
    let e : b.0 ≡ n = s.1 in
    subst (λ (k : ℕ). text ≡ decimal k) e (number_takes text b.0 b.1.0).0

-- a decimal is read as its number
limited_again : (n : ℕ) → n < 2 ^ 32 → limited most_number (decimal n) ≡ Some n
limited_again n small =
    let low : n < 2 ^ 64 = omega arith in
    let within : n ≤ most_number = omega arith in
    ap (option_and_then (up_to most_number)) (number_again n low) ∙ ap (λ b. cond b (Some n) None) (le-leb _ _ within)

-- a number that the text is, is read of it
pub number_read : (most n : ℕ) (text : Text) → most < 2 ^ 32 → IsNumber most n text → limited most_number text ≡ Some n
number_read most n text small is =
    let low : n ≤ most = is.2 in
    ap (limited most_number) is.0 ∙ limited_again n (omega arith)

-- a text is one number
number_once : (most m n : ℕ) (text : Text) → most < 2 ^ 32 → IsNumber most m text → IsNumber most n text → m ≡ n
number_once most m n text small is also =
    let a = number_read most m text small is in
    let b = number_read most n text small also in
    cc

-- ---- values

-- a value among the rows is one
value_once : (rows : List Row) (id v w : Text) → Given rows id v → Given rows id w → v ≡ w
value_once rows id v w h k = cc

-- the value of `id` is a number that is read of it
pub number_given : (rows : List Row) (id text : Text) (most n : ℕ) → Given rows id text → limited most_number text ≡ Some n → 1 ≤ n → n ≤ most
    → HasValue rows id (IsNumber most n)
number_given rows id text most n given read low high = (text, given, (limited_takes most_number text n read, low, high))

-- the value of `id` is no number
pub no_number : (rows : List Row) (id text : Text) (most : ℕ) → most < 2 ^ 32 → Given rows id text → limited most_number text ≡ None
    → (n : ℕ) → ¬ HasValue rows id (IsNumber most n)
no_number rows id text most small given none n h =
    let a = number_read most n h.0 small h.2 in
    let same = value_once rows id h.0 text h.1 given in
    let b = ap (limited most_number) same in
    cc

-- the value of `id` is a number that is too small or too large
pub number_outside : (rows : List Row) (id text : Text) (most k : ℕ) → most < 2 ^ 32 → Given rows id text → limited most_number text ≡ Some k
    → (1 ≤ k → k ≤ most → ⊥) → (n : ℕ) → ¬ HasValue rows id (IsNumber most n)
number_outside rows id text most k small given read outside n h =
    let a = number_read most n h.0 small h.2 in
    let same = value_once rows id h.0 text h.1 given in
    let b = ap (limited most_number) same in
    let is : n ≡ k = cc in
    let low : 1 ≤ n = h.2.1 in
    let high : n ≤ most = h.2.2 in
    outside (omega arith) (omega arith)

-- what `--token` spells
token_read : (rows : List Row) (token : List ℕ) → HasValue rows (codes "token") (IsToken token)
    → option_and_then token_of (first_of (codes "token") rows) ≡ Some token
token_read rows token h = ap (option_and_then token_of) h.1 ∙ h.2

numbers_once : (rows : List Row) (id : Text) (most m n : ℕ) → most < 2 ^ 32 → HasValue rows id (IsNumber most m)
    → HasValue rows id (IsNumber most n) → m ≡ n
numbers_once rows id most m n small h k =
    number_once most m n k.0 small (subst (IsNumber most m) (value_once rows id h.0 k.0 h.1 k.1) h.2) k.2

report_once : (rows : List Row) (a b : AskedReport) → AsksFor rows a → AsksFor rows b → a ≡ b
report_once rows Reconciliation Reconciliation h k = refl
report_once rows Reconciliation (Statement q) h k = cc
report_once rows Reconciliation Statements h k = absurd (h.0 k.0)
report_once rows (Statement p) Reconciliation h k = cc
report_once rows (Statement p) (Statement q) h k = cc
report_once rows (Statement p) Statements h k = absurd (h.0 k.0)
report_once rows Statements Reconciliation h k = absurd (k.0 h.0)
report_once rows Statements (Statement q) h k = absurd (k.0 h.0)
report_once rows Statements Statements h k = refl

copies_once : (rows : List Row) (a b : Option AskedCopies) → AsksCopies rows a → AsksCopies rows b → a ≡ b
copies_once rows None None h k = refl
copies_once rows None (Some d) h k = cc
copies_once rows (Some c) None h k = cc
copies_once rows (Some c) (Some d) h k =
    let to = value_once rows (codes "copy") c.to d.to h.0 k.0 in
    let every = numbers_once rows (codes "every") 86400 c.every d.every (omega arith) h.1 k.1 in
    ap₂ (λ t e. Some (record { to = t; every = e })) to every

-- ---- one task at most

-- names of commands that have the same length
import_report : codes "import" ≡ codes "report" → ⊥
import_report e = let first : ◌≡◌ {A = ℕ} 105 114 = ap (λ (t : Text). slice_index t 0) e in absurd (omega arith)

serve_check : codes "serve" ≡ codes "check" → ⊥
serve_check e = let first : ◌≡◌ {A = ℕ} 115 99 = ap (λ (t : Text). slice_index t 0) e in absurd (omega arith)

init_copy : codes "init" ≡ codes "copy" → ⊥
init_copy e = let first : ◌≡◌ {A = ℕ} 105 99 = ap (λ (t : Text). slice_index t 0) e in absurd (omega arith)

-- two tasks that the rows name are one
pub names_once : (name : Text) (rows : List Row) (a b : Task) → Names name rows a → Names name rows b → a ≡ b
names_once name rows (RunMemory t) (RunMemory u) h k =
    let a = token_read rows t h.3 in
    let b = token_read rows u k.3 in
    cc
names_once name rows (RunFile f) (RunFile g) h k = cc
names_once name rows (Init f t) (Init g u) h k =
    let a = token_read rows t h.2 in
    let b = token_read rows u k.2 in
    cc
names_once name rows (Serve f p m c) (Serve g q n d) h k =
    let port = numbers_once rows (codes "port") 65535 p q (omega arith) h.2 k.2 in
    let count = numbers_once rows (codes "count") 1000000 m n (omega arith) h.3 k.3 in
    let copies = copies_once rows c d h.4 k.4 in
    cc
names_once name rows (Import f r) (Import g s) h k = cc
names_once name rows (Report f p) (Report g q) h k =
    let report = report_once rows p q h.2 k.2 in
    cc
names_once name rows (Check f) (Check g) h k = cc
names_once name rows (Copy f t) (Copy g u) h k = cc
names_once name rows (Migrate f) (Migrate g) h k = cc
names_once name rows (Init f t) (Copy g u) h k = absurd (init_copy (sym h.0 ∙ k.0))
names_once name rows (Copy f t) (Init g u) h k = absurd (init_copy (sym k.0 ∙ h.0))
names_once name rows (Import f r) (Report g p) h k = absurd (import_report (sym h.0 ∙ k.0))
names_once name rows (Report f p) (Import g r) h k = absurd (import_report (sym k.0 ∙ h.0))
names_once name rows (Serve f p m c) (Check g) h k = absurd (serve_check (sym h.0 ∙ k.0))
names_once name rows (Check f) (Serve g q n c) h k = absurd (serve_check (sym k.0 ∙ h.0))
names_once name rows a b h k = cc

-- two tasks that the command which was found names are one
pub found_once : (found : Option (Text × List Row)) (a b : Task) → IsFoundBy found a → IsFoundBy found b → a ≡ b
found_once found a b h k =
    let both : ◌≡◌ {A = Option (Text × List Row)} (Some (h.0, h.1)) (Some (k.0, k.1)) = sym h.2 ∙ k.2 in
    let first : ◌≡◌ {A = Option Text} (Some h.0) (Some k.0) = ap (option_map (λ (p : Text × List Row). p.0)) both in
    let second : ◌≡◌ {A = Option (List Row)} (Some h.1) (Some k.1) = ap (option_map (λ (p : Text × List Row). p.1)) both in
    let names : h.0 ≡ k.0 = cc in
    let same : h.1 ≡ k.1 = cc in
    names_once k.0 k.1 a b (subst (λ (r : List Row). Names k.0 r a) same (subst (λ (n : Text). Names n h.1 a) names h.3)) k.3

-- a command that was found and is no task names none
pub found_none : (found : Option (Text × List Row)) (name : Text) (rows : List Row) → found ≡ Some (name, rows) → NamesNone name rows → (task : Task) → ¬ IsFoundBy found task
found_none found name rows is none task h =
    let both : ◌≡◌ {A = Option (Text × List Row)} (Some (h.0, h.1)) (Some (name, rows)) = sym h.2 ∙ is in
    let first : ◌≡◌ {A = Option Text} (Some h.0) (Some name) = ap (option_map (λ (p : Text × List Row). p.0)) both in
    let second : ◌≡◌ {A = Option (List Row)} (Some h.1) (Some rows) = ap (option_map (λ (p : Text × List Row). p.1)) both in
    let names : h.0 ≡ name = cc in
    let same : h.1 ≡ rows = cc in
    none task (subst (λ (r : List Row). Names name r task) same (subst (λ (n : Text). Names n h.1 task) names h.3))

-- ---- no task

-- `serve` takes a port and a count
pub no_port : (rows : List Row) → ((n : ℕ) → ¬ HasValue rows (codes "port") (IsNumber 65535 n)) → NamesNone (codes "serve") rows
no_port rows none (Serve file port count copies) h = none port h.2
no_port rows none (Check file) h = absurd (serve_check h.0)
no_port rows none task h = cc

pub no_count : (rows : List Row) → ((n : ℕ) → ¬ HasValue rows (codes "count") (IsNumber 1000000 n)) → NamesNone (codes "serve") rows
no_count rows none (Serve file port count copies) h = none count h.3
no_count rows none (Check file) h = absurd (serve_check h.0)
no_count rows none task h = cc

pub no_copies : (rows : List Row) → ((copies : Option AskedCopies) → ¬ AsksCopies rows copies) → NamesNone (codes "serve") rows
no_copies rows none (Serve file port count copies) h = none copies h.4
no_copies rows none (Check file) h = absurd (serve_check h.0)
no_copies rows none task h = cc

-- `--copy` or `--every` is there alone
pub copy_alone : (rows : List Row) → ((Has rows (codes "copy") × Absent rows (codes "every")) ⊎ (Absent rows (codes "copy") × Has rows (codes "every")))
    → (copies : Option AskedCopies) → ¬ AsksCopies rows copies
copy_alone rows (inl alone) None asks = cc
copy_alone rows (inl alone) (Some copies) asks = cc
copy_alone rows (inr alone) None asks = cc
copy_alone rows (inr alone) (Some copies) asks = cc

-- the value of `--every` is no number of seconds
pub no_every : (rows : List Row) → Has rows (codes "copy") → ((n : ℕ) → ¬ HasValue rows (codes "every") (IsNumber 86400 n))
    → (copies : Option AskedCopies) → ¬ AsksCopies rows copies
no_every rows has none None asks = cc
no_every rows has none (Some copies) asks = none copies.every asks.1

-- what is wrong with the copies of a `serve`
pub serve_misfit : (rows : List Row) (misfit : Misfit) → IsServe (codes "serve") rows → IsCopyMisfit rows misfit → HasMisfit (codes "serve") rows misfit
serve_misfit rows CopyAndEvery serves is = (serves, is)
serve_misfit rows Every serves is = (serves, is)
serve_misfit rows misfit serves is = absurd is
