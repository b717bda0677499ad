-- The next line comes last.
use Rattle.std.proofs.Common.{◌≡◌, ℕ, ◌+◌, ◌≤◌, List, [], ◌∷◌, ◌++◌, map, refl, ◌∙◌, ap, arith}
use Rattle.std.specs.Ordering.{nat_cmp}
use Rattle.std.specs.Cmp.{nat_cmp_total}
use Rattle.std.proofs.lemmas.Bool.Decides.{nat_tests}
use Rattle.std.specs.FinMap.{FinMap, insert, entries, entries-insert}
use Rattle.std.specs.FinMap.Entries.{put}
use Rattle.mx_book.specs.declared.values.Line.{Line}
use Rattle.mx_book.specs.Conditions.{AreNumbered}
use Rattle.mx_book.specs.declared.values.LineRow.{LineRow}
use Rattle.mx_book.specs.Rows.{line_at, line_row, lines_from}

last_number : (j : ℕ) (ls : List Line) (l : Line) → AreNumbered j (ls ++ l ∷ []) → j ≤ l.number
last_number j [] l h = omega (arith, h.0)
last_number j (x ∷ ls) l h = omega (arith, last_number (j + 1) ls l h.1)

put_last : (j : ℕ) (es : List (ℕ × LineRow)) (l : Line) → AreNumbered j (map line_at es ++ l ∷ []) → put nat_cmp l.number (line_row l) es ≡ es ++ (l.number, line_row l) ∷ []
put_last j [] l h = refl
put_last j (e ∷ es) l h = grind (arith, nat_tests, last_number (j + 1) (map line_at es) l, put_last (j + 1) es l)

map_last : (es : List (ℕ × LineRow)) (l : Line) → map line_at (es ++ (l.number, line_row l) ∷ []) ≡ map line_at es ++ l ∷ []
map_last [] l = refl
map_last (e ∷ es) l = ap (λ xs. line_at e ∷ xs) (map_last es l)

-- a line under the next number joins the lines at their end
pub lines-insert : (m : FinMap nat_cmp LineRow) (l : Line) → AreNumbered 1 (lines_from m ++ l ∷ []) → lines_from (insert m l.number (line_row l)) ≡ lines_from m ++ l ∷ []
lines-insert m l h = ap (map line_at) (entries-insert nat_cmp_total m l.number (line_row l) ∙ put_last 1 (entries m) l h) ∙ map_last (entries m) l
