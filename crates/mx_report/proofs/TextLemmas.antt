-- Texts that are made line by line.
use Rattle.std.proofs.Common.{◌≡◌, ◌∙◌, ◌+◌, ◌<◌, ◌≤◌, ◌++◌, ℕ, List, ap, sym, length, get_or, drop, drop-cons, add-one, suc, flat_map}
use Rattle.std.proofs.lemmas.List.{append-nil, append_assoc, drop_all}

module _ {T : Type 0} (line_of : T → List ℕ) where
  -- the line of one row more
  pub row_more : (rows : List T) (i : ℕ) (d : T) (before line : List ℕ) {after all : List ℕ} → i < length rows
      → before ++ flat_map line_of (drop i rows) ≡ all → line ≡ line_of (get_or rows i d) → after ≡ before ++ line
      → after ++ flat_map line_of (drop (i + 1) rows) ≡ all
  row_more rows i d before line low lines is grown =
      rw add-one (ap (λ t. t ++ flat_map line_of (drop (suc i) rows)) (grown ∙ ap (λ l. before ++ l) is)
      ∙ append_assoc before (line_of (get_or rows i d)) (flat_map line_of (drop (suc i) rows))
      ∙ ap (λ rs. before ++ flat_map line_of rs) (sym (drop-cons rows i d low)) ∙ lines)

  -- the lines of all rows
  pub rows_done : (rows : List T) (i : ℕ) (text : List ℕ) {all : List ℕ} → length rows ≤ i → text ++ flat_map line_of (drop i rows) ≡ all → text ≡ all
  rows_done rows i text over lines = sym (append-nil text) ∙ ap (λ rs. text ++ flat_map line_of rs) (sym (drop_all i rows over)) ∙ lines
