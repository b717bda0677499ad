-- The rows of the tray of a purse are read as a log.
use Rattle.mx_tables.proofs.Common.{◌≡◌, ◌≤◌, ◌<◌, ◌+◌, ℕ, Bool, true, false, ◌&&◌, List, [], ◌∷◌, ◌++◌, length, take, refl, ◌∙◌, arith, AllByRecursion, IsPermutation, length-map, Row, column, Text, Name, Rows, is_name}
use Rattle.std.proofs.Common.{suc, zero, not, ◌||◌, get_or, map, sym, ap, subst, length-take-le, length-append}
use Rattle.std.specs.FinMap as fmap
use Rattle.std.specs.List.{list_any}
use Rattle.std.specs.Prelude.{nat_le}
use Rattle.std.proofs.lemmas.Bool.Decides.{nat_tests}
use Rattle.std.proofs.lemmas.List.Folds.{list_any-append}
use Rattle.std.proofs.lemmas.List.Sorted.{length_permutation}
use Rattle.std.proofs.Math.Bool.{and-true}
use Rattle.sqlite_trees.proofs.ListLemmas.{all-filter, all-map, all-permutation, map-map, pull_back}
use Rattle.mx_pay.specs.Codes.{entry_text}
use Rattle.mx_pay.specs.Details.{Details, IsDetails, is_details}
use Rattle.mx_pay.specs.Limits.{most_entries}
use Rattle.mx_pay.specs.Log.{Entries, has_logged, log_len, logged, with_entry}
use Rattle.mx_pay.specs.Orders.{details_exact}
use Rattle.mx_pay.proofs.LogLemmas.{details_total}
use Rattle.mx_pay.proofs.SameLemmas.{has-with_entry, len-with_entry}
use Rattle.mx_pay.specs.Names.{name_cmp}
use Rattle.mx_book.specs.RowEdits.{row_tray_of}
use Rattle.mx_book.specs.RowReads.{of_name}
use Rattle.mx_book.specs.Spells as book
use Rattle.mx_book.specs.World.{World}
use Rattle.mx_book.proofs.LogLemmas.{same_members, under_has}
use Rattle.mx_book.proofs.MapLemmas.{all_entries}
use Rattle.mx_book.proofs.NameLemmas.{name_itself, names_total}
use Rattle.mx_book.proofs.ReadLemmas.{those_are}
use Rattle.mx_book.proofs.ResultLemmas.{results_total}
use Rattle.mx_book.proofs.UnderLemmas.{len-under}
use Rattle.mx_pay.specs.Details as pay
use Rattle.mx_tables.specs.Results.{Shows, ShowsOnce, details_shown, first_one}
use Rattle.mx_tables.proofs.ResultLemmas.{Result, among_tray, any_second, same_shown, second}
use Rattle.mx_tables.proofs.SoundLemmas.{own, tray_valid}

-- ---- a log with more details

abbrev with_all : Entries → List Details → Entries
with_all log [] = log
with_all log (d ∷ ds) = with_all (with_entry log d) ds

has-with_all : (log : Entries) (ds : List Details) (e : Details) → has_logged (with_all log ds) e ≡ (has_logged log e || list_any (is_details e) ds)
has-with_all log [] e = grind arith
has-with_all log (d ∷ ds) e = grind (arith, has-with_all (with_entry log d) ds e, has-with_entry log d e)

-- each more makes it longer by one at most
one_longer : (log : Entries) (d : Details) → (log_len log ≤ log_len (with_entry log d)) × (log_len (with_entry log d) ≤ log_len log + 1)
one_longer log d = let it = fmap.len-insert details_total log d tt in (grind (arith, it), grind (arith, it))

len-with_all : (log : Entries) (ds : List Details) → (log_len log ≤ log_len (with_all log ds)) × (log_len (with_all log ds) ≤ log_len log + length ds)
len-with_all log [] = (omega arith, omega arith)
len-with_all log (d ∷ ds) = let more = len-with_all (with_entry log d) ds in let one = one_longer log d in (omega (arith, more.0, one.0), omega (arith, more.1, one.1))

-- a log within another isn't longer
len_within : (s t : Entries) → ((d : Details) → has_logged s d ≡ true → has_logged t d ≡ true) → log_len s ≤ log_len t
len_within s t within =
    let all : with_all s (logged t) ≡ t = same_members details_total details_exact (with_all s (logged t)) t (λ d.
    let has = has-with_all s (logged t) d in
    let keys = fmap.contains_key-keys t d in
    let in_t = within d in
    grind (arith, has, keys, in_t)) in
    let low = (len-with_all s (logged t)).0 in
    subst (λ log. log_len s ≤ log_len log) all low

-- what has as many details as a list has each of them once
no_second : (log tray : Entries) (d : Details) (before rest : List Details) → ((e : Details) → has_logged log e ≡ list_any (is_details e) before)
    → ((e : Details) → has_logged tray e ≡ list_any (is_details e) (before ++ d ∷ rest)) → log_len log ≡ length before → log_len tray ≡ length (before ++ d ∷ rest) → has_logged log d ≡ true → ⊥
no_second log tray d before rest some all size many twice =
    let same : with_all log (d ∷ rest) ≡ tray = same_members details_total details_exact (with_all log (d ∷ rest)) tray (λ e.
    has-with_all log (d ∷ rest) e ∙ ap (λ b. b || list_any (is_details e) (d ∷ rest)) (some e) ∙ sym (list_any-append (is_details e) before (d ∷ rest)) ∙ sym (all e)) in
    let kept : log_len (with_entry log d) ≡ log_len log = (let it = fmap.len-insert details_total log d tt in grind (arith, it, twice)) in
    let most = (len-with_all (with_entry log d) rest).1 in
    let whole : log_len (with_all (with_entry log d) rest) ≡ log_len tray = ap log_len same in
    let parts = length-append before (d ∷ rest) in
    omega (arith, kept, most, whole, size, many, parts)

-- ---- rows that show details

-- the details of the rows before, of the row, and of those after
split_at : (rows : List Row) (at : ℕ) (row : Row) (d : Details) (before all : List Details) → at < length rows → row ≡ get_or rows at row → column row 0 ≡ Text (entry_text d) → IsDetails d
    → AllByRecursion IsDetails before → AllByRecursion IsDetails all → map first_one (take at rows) ≡ map details_shown before → map first_one rows ≡ map details_shown all → (rest : List Details) × (all ≡ before ++ d ∷ rest)
split_at [] at row d before all within is shown valid one two first whole = absurd (omega (arith, within))
split_at (x ∷ rows) zero row d [] [] within is shown valid one two first whole = absurd (let n = ap length whole in omega (arith, n))
split_at (x ∷ rows) zero row d [] (e ∷ es) within is shown valid one two first whole =
    let front : first_one x ≡ details_shown e = cc in
    let same : d ≡ e = same_shown d e valid two.0 (ap (λ v. v ∷ []) (sym shown) ∙ ap first_one is ∙ front) in
    (es, ap (λ z. z ∷ es) (sym same))
split_at (x ∷ rows) zero row d (b ∷ bs) all within is shown valid one two first whole = absurd (let n = ap length first in omega (arith, n))
split_at (x ∷ rows) (suc at) row d [] all within is shown valid one two first whole = absurd (let n = ap length first in omega (arith, n))
split_at (x ∷ rows) (suc at) row d (b ∷ bs) [] within is shown valid one two first whole = absurd (let n = ap length whole in omega (arith, n))
split_at (x ∷ rows) (suc at) row d (b ∷ bs) (e ∷ es) within is shown valid one two first whole =
    let front : first_one x ≡ details_shown e = cc in
    let mine : first_one x ≡ details_shown b = cc in
    let same : b ≡ e = same_shown b e one.0 two.0 (sym mine ∙ front) in
    let more : (rest : List Details) × (es ≡ bs ++ d ∷ rest) = split_at rows at row d bs es (omega (arith, within)) is shown valid one.1 two.1 (cc) (cc) in
    (more.0, ap (λ z. z ∷ es) (sym same) ∙ ap (λ zs. b ∷ zs) more.1)

-- each row shows details
pub row_details : (rows : List Row) (ds : List Details) (at : ℕ) (row : Row) → at < length rows → row ≡ get_or rows at row → map first_one rows ≡ map details_shown ds → AllByRecursion IsDetails ds
    → (d : Details) × IsDetails d × (column row 0 ≡ Text (entry_text d))
row_details [] ds at row within is shown valid = absurd (omega (arith, within))
row_details (x ∷ rows) [] at row within is shown valid = absurd (let n = ap length shown in omega (arith, n))
row_details (x ∷ rows) (d ∷ ds) zero row within is shown valid = let front : first_one x ≡ details_shown d = cc in (d, valid.0, ap (λ r. column r 0) is ∙ ap (λ r. column r 0) front)
row_details (x ∷ rows) (d ∷ ds) (suc at) row within is shown valid = row_details rows ds at row (omega (arith, within)) is (cc) valid.1

-- such a log is one longer with details that are added
pub len_added : (b : Bool) (new old : Entries) (d : Details) → b ≡ true → b ≡ not (nat_le most_entries (log_len old) || has_logged old d) → new ≡ with_entry old d → log_len new ≡ log_len old + 1
len_added b new old d is answer made = ap log_len made ∙ len-with_entry old d (grind (arith, is, answer))

-- and it takes the details of the next row
pub never_full : (rows : List Row) (at : ℕ) (row : Row) (log tray : Entries) (d : Details) (b : Bool) → at < length rows → row ≡ get_or rows at row → column row 0 ≡ Text (entry_text d) → IsDetails d
    → Shows log (take at rows) → log_len log ≡ at → ShowsOnce tray rows → b ≡ false → b ≡ not (nat_le most_entries (log_len log) || has_logged log d) → ⊥
never_full rows at row log tray d b within is shown valid some size once refused answer =
    let all = once.shows in
    let parts = split_at rows at row d some.details all.details within is shown valid some.valid all.valid some.shown all.shown in
    let twice : has_logged log d ≡ true = (let room = once.room in let many = once.once in grind (arith, nat_tests, refused, answer, size, within, room, many)) in
    let before : length some.details ≡ at = sym (length-map some.details details_shown) ∙ ap length (sym some.shown) ∙ length-map (take at rows) first_one ∙ length-take-le at rows (omega (arith, within)) in
    let whole : length all.details ≡ length rows = sym (length-map all.details details_shown) ∙ ap length (sym all.shown) ∙ length-map rows first_one in
    no_second log tray d some.details parts.0 some.has (λ e. all.has e ∙ ap (list_any (is_details e)) parts.1) (size ∙ sym before) (sym once.once ∙ sym whole ∙ ap length parts.1) twice

-- ---- the tray of a purse

module _ (r : Rows) (w : World) (h : book.Spells r w) (p : Name) where
  abbrev tray : Entries
  tray = row_tray_of r p

  -- it is within the log of the purse, which has room for it
  tray_room : log_len (row_tray_of r p) ≤ most_entries
  tray_room = by (fmap.entries (row_tray_of r p)) refl
    where
      by : (es : List (Details × Unit {0})) → fmap.entries tray ≡ es → log_len tray ≤ most_entries
      by [] none = let size = fmap.len-entries tray in let n = ap length none in omega (arith, size, n)
      by (e ∷ es) some =
          let laid = λ (d : Details) (has : has_logged tray d ≡ true). (own r w h).results.logged p d (sym (under_has p r.tray d) ∙ has) in
          let first = laid e.0 (let find = fmap.get-entries tray e.0 in grind (arith, find, some, details_total)) in
          let purse = (own r w h).purses.each p first.0 first.1 in
          let fits = len_within tray first.0.holding.purse.log (λ d has. let it = laid d has in let same = sym first.1 ∙ it.1 in grind (arith, same, it.2)) in
          let room = purse.purse.log.room in
          omega (arith, fits, room)

  pub tray_once : (rows items : List Row) → rows ≡ items → IsPermutation (map (λ (e : Result). details_shown e.0.1) (of_name p (fmap.entries r.tray))) items → ShowsOnce (row_tray_of r p) rows
  tray_once rows items is same =
      let of = pull_back (λ (e : Result). details_shown e.0.1) _ items same (of_name p (fmap.entries r.tray)) refl in
      let zs = of.0 in
      let own_ones = all-filter (λ e. IsDetails (second e)) (λ (e : Result). is_name p e.0.0) (fmap.entries r.tray) (all_entries results_total (λ k x. IsDetails k.1) r.tray (tray_valid r w h)) in
      record {
        shows = record {
          details = map second zs;
          shown = ap (map first_one) (is ∙ of.2) ∙ map-map first_one (λ (e : Result). details_shown e.0.1) zs ∙ sym (map-map details_shown second zs);
          valid = all-map IsDetails second zs (all-permutation (λ e. IsDetails (second e)) (of_name p (fmap.entries r.tray)) zs of.1 own_ones);
          has = λ d.
              under_has p r.tray d ∙ sym (and-true (fmap.contains_key r.tray (p, d))) ∙ sym (ap (λ b. fmap.contains_key r.tray (p, d) && b) (name_itself p))
              ∙ sym (among_tray p (p, d) r.tray zs of.1) ∙ sym (any_second p d zs);
        };
        once = ap length is ∙ length_permutation _ _ same ∙ length-map (of_name p (fmap.entries r.tray)) (λ (e : Result). details_shown e.0.1)
            ∙ sym (len-under name_cmp pay.details_cmp names_total p r.tray ∙ ap length (those_are p (fmap.entries r.tray)) ∙ length-map (of_name p (fmap.entries r.tray)) _);
        room = tray_room;
      }
