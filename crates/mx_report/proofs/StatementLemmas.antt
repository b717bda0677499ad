-- Pages of lines that are read one after the other are the lines of a purse.
use Rattle.std.proofs.Common.{◌≡◌, ℕ, zero, suc, ◌+◌, ◌<◌, true, false, List, [], ◌∷◌, ◌++◌, Option, Some, None, refl, sym, ◌∙◌, ap, arith, append_assoc, length, take, drop, option_map}
use Rattle.std.specs.Prelude.{filter, nat_lt, is_some}
use Rattle.std.proofs.lemmas.List.{length-take, take_all, take-append-drop}
use Rattle.std.proofs.Math.Seq.{drop-append_seam}
use Rattle.std.specs.FinMap as fmap
use Rattle.mx_book.specs.Conditions.{IsWorld, AreNumbered}
use Rattle.mx_book.specs.Limits.{most_lines}
use Rattle.mx_book.specs.declared.values.Line.{Line}
use Rattle.mx_book.specs.Reads.{has_purse, from_row, lines_of, page}
use Rattle.mx_book.specs.World.{World, Row, Name}
use Rattle.mx_report.specs.Statement.{own_lines, statement_of}

-- lines that are numbered from n on are all above a smaller number
all_above : (k n : ℕ) (ls : List Line) → k < n → AreNumbered n ls → filter (λ (l : Line). nat_lt k l.number) ls ≡ ls
all_above k n [] less are = refl
all_above k n (l ∷ ls) less are =
    let above : nat_lt k l.number ≡ true = rw are.0 (grind arith) in
    let later : k < n + 1 = omega arith in
    rw above (ap (λ xs. l ∷ xs) (all_above k (n + 1) ls later are.1))

-- of lines that are numbered from k + 1 on, those above k + n come after the first n
above_drops : (n k t : ℕ) (ls : List Line) → t ≡ k + n → AreNumbered (k + 1) ls → filter (λ (l : Line). nat_lt t l.number) ls ≡ drop n ls
above_drops zero k t ls is are = all_above t (k + 1) ls (omega arith) are
above_drops (suc n) k t [] is are = refl
above_drops (suc n) k t (l ∷ ls) is are =
    let below : nat_lt t l.number ≡ false = rw are.0 (grind arith) in
    rw below (above_drops n (k + 1) t ls (omega arith) are.1)

-- these lines are the first of those
pub record AreRead (ls read : List Line) : Type 0 where
  pub rest : List Line
  pub whole : ls ≡ read ++ rest

page_of_rest : (ls read rest : List Line) → AreNumbered 1 ls → ls ≡ read ++ rest → page (length read) most_lines ls ≡ take most_lines rest
page_of_rest ls read rest are whole =
    ap (take most_lines) (above_drops (length read) 0 (length read) ls (omega arith) are ∙ ap (drop (length read)) whole ∙ drop-append_seam read rest)

-- with the page after them, these are the first too
pub next_page : (ls read : List Line) → AreNumbered 1 ls → AreRead ls read → AreRead ls (read ++ page (length read) most_lines ls)
next_page ls read are so_far = record {
  rest = drop most_lines so_far.rest;
  whole = so_far.whole ∙ rw (page_of_rest ls read so_far.rest are so_far.whole) (rw append_assoc (ap (λ xs. read ++ xs) (sym (take-append-drop most_lines so_far.rest))));
}

short_page : (xs : List Line) → length (take most_lines xs) < most_lines → take most_lines xs ≡ xs
short_page xs less =
    let long = length-take most_lines xs in
    take_all most_lines xs (omega (arith, long))

-- a page that isn't full is the last
pub last_page : (ls read : List Line) → AreNumbered 1 ls → AreRead ls read → length (page (length read) most_lines ls) < most_lines → read ++ page (length read) most_lines ls ≡ ls
last_page ls read are so_far less =
    let same = page_of_rest ls read so_far.rest are so_far.whole in
    let few = rw same at less in
    rw same (ap (λ xs. read ++ xs) (short_page so_far.rest few) ∙ sym so_far.whole)

numbered_in : (w : World) (p : Name) (o : Option Row) → IsWorld w → fmap.get w.rows p ≡ o → AreNumbered 1 (from_row [] (λ r. r.holding.lines) o)
numbered_in w p None is at = tt
numbered_in w p (Some r) is at = (is.lines.each p r at).numbered

-- the lines of a purse are numbered from 1
pub own_numbered : (w : World) (p : Name) → IsWorld w → AreNumbered 1 (own_lines w p)
own_numbered w p is = numbered_in w p (fmap.get w.rows p) is refl

-- with a page more of a purse's lines, they are the first of them
pub more_read : (w : World) (p : Name) (read more now : List Line) (n : ℕ) → IsWorld w → AreRead (own_lines w p) read → n ≡ length read → more ≡ lines_of w p n most_lines → now ≡ read ++ more → AreRead (own_lines w p) now
more_read w p read more now n is so_far count page last =
    rw (last, page, count) (next_page (own_lines w p) read (own_numbered w p is) so_far)

-- with a page that isn't full, they are all of them
pub all_read : (w : World) (p : Name) (read more now : List Line) (n : ℕ) → IsWorld w → AreRead (own_lines w p) read → n ≡ length read → more ≡ lines_of w p n most_lines → now ≡ read ++ more → length more < most_lines → now ≡ own_lines w p
all_read w p read more now n is so_far count page last few =
    let same : more ≡ lines_of w p (length read) most_lines = rw (← count) page in
    last ∙ rw same (last_page (own_lines w p) read (own_numbered w p is) so_far (rw same at few))

statement_case : (o : Option Row) → is_some o ≡ true → Some (from_row [] (λ r. r.holding.lines) o) ≡ option_map (λ (r : Row). r.holding.lines) o
statement_case None there = cc
statement_case (Some r) there = refl

-- the lines of a purse that is there are its statement
pub whole_statement : (w : World) (p : Name) → has_purse w p ≡ true → Some (own_lines w p) ≡ statement_of w p
whole_statement w p there = statement_case (fmap.get w.rows p) there
