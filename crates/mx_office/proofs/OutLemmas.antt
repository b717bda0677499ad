-- The value of each payment that is under way, and what a change of one row does to the scheme's equation.
use Rattle.std.proofs.Common.{◌≡◌, ℕ, ◌+◌, Bool, true, false, cond, refl, sym, ◌∙◌, ap, Option, Some, arith}
use Rattle.std.specs.FinMap as fmap
use Rattle.mx_pay.specs.Details.{Details, details_cmp, is_details}
use Rattle.mx_pay.specs.Log.{Entries}
use Rattle.mx_pay.proofs.LogLemmas.{details_total}
use Rattle.mx_pay.proofs.SameLemmas.{same_details}
use Rattle.mx_book.specs.Sums.{sum_values}
use Rattle.mx_book.specs.Totals.{balance_row, issued_row, redeemed_row, of_all}
use Rattle.mx_book.specs.World.{World, Row, Name, set_row}
use Rattle.mx_book.proofs.NameLemmas.{names_total}
use Rattle.mx_book.proofs.SumLemmas.{value_of, sum_values-insert}
use Rattle.mx_office.proofs.EntrySumLemmas.{number}
use Rattle.mx_office.proofs.SoundLemmas.{details_turned}
use Rattle.mx_office.proofs.SeenWorldLemmas.{flowing}

-- the value of each payment that is under way, and the scheme's equation
pub record Books (w : World) : Type 0 where
  pub out : fmap.FinMap details_cmp ℕ
  pub covers : (d : Details) → number (fmap.get out d) ≡ cond (flowing w d) d.value 0
  pub equal : (of_all w balance_row + sum_values (λ n. n) out) + of_all w redeemed_row ≡ of_all w issued_row

module _ (w : World) (p : Name) (o : Option Row) (s : Row) (at : fmap.get w.rows p ≡ o) (b : Books w) where
  changed_sum : (f : Row → ℕ) → sum_values f (set_row w p s).rows + value_of f o ≡ sum_values f w.rows + f s
  changed_sum f = ap (λ x. sum_values f (set_row w p s).rows + value_of f x) (sym at) ∙ sum_values-insert names_total f w.rows p s

  module _ (settled : Entries) where
    -- the row is set, and so is what is settled
    abbrev turned_world : World
    turned_world = record (set_row w p s) { settled = settled }

    covers_case : (e : Details) (v : ℕ) (d : Details) → ((d : Details) → is_details e d ≡ false → flowing turned_world d ≡ flowing w d) → v ≡ cond (flowing turned_world e) e.value 0
        → (x : Bool) → is_details d e ≡ x → number (cond x (Some v) (fmap.get b.out d)) ≡ cond (flowing turned_world d) d.value 0
    covers_case e v d other is true t = is ∙ ap (λ y. cond (flowing turned_world y) y.value 0) (sym (same_details d e t))
    covers_case e v d other is false t = b.covers d ∙ ap (λ y. cond y d.value 0) (sym (other d (details_turned e d ∙ t)))

    -- one payment begins or ends to be under way
    pub books_turn : (e : Details) → ((d : Details) → is_details e d ≡ false → flowing turned_world d ≡ flowing w d)
        → (v u : ℕ) → v ≡ cond (flowing turned_world e) e.value 0 → u ≡ cond (flowing w e) e.value 0
        → ((balance_row s + redeemed_row s) + value_of issued_row o) + v ≡ ((value_of balance_row o + value_of redeemed_row o) + issued_row s) + u → Books turned_world
    books_turn e other v u after before money = record {
      out = fmap.insert b.out e v;
      covers = λ d. ap number (fmap.get-insert details_total b.out e v d) ∙ covers_case e v d other after (is_details d e) refl;
      equal =
          let x1 : of_all (set_row w p s) balance_row + value_of balance_row o ≡ of_all w balance_row + balance_row s = changed_sum balance_row in
          let x2 : of_all (set_row w p s) redeemed_row + value_of redeemed_row o ≡ of_all w redeemed_row + redeemed_row s = changed_sum redeemed_row in
          let x3 : of_all (set_row w p s) issued_row + value_of issued_row o ≡ of_all w issued_row + issued_row s = changed_sum issued_row in
          let x4 : (of_all w balance_row + sum_values (λ n. n) b.out) + of_all w redeemed_row ≡ of_all w issued_row = b.equal in
          let x5 : sum_values (λ n. n) (fmap.insert b.out e v) + number (fmap.get b.out e) ≡ sum_values (λ n. n) b.out + v = sum_values-insert details_total (λ n. n) b.out e v in
          let x6 : number (fmap.get b.out e) ≡ u = b.covers e ∙ sym before in
          omega (arith, money, x1, x2, x3, x4, x5, x6);
    }

  pub books_move : (e : Details) → ((d : Details) → is_details e d ≡ false → flowing (set_row w p s) d ≡ flowing w d)
      → (v u : ℕ) → v ≡ cond (flowing (set_row w p s) e) e.value 0 → u ≡ cond (flowing w e) e.value 0
      → ((balance_row s + redeemed_row s) + value_of issued_row o) + v ≡ ((value_of balance_row o + value_of redeemed_row o) + issued_row s) + u → Books (set_row w p s)
  books_move = books_turn w.settled

  -- and none does
  pub books_keep : ((d : Details) → flowing (set_row w p s) d ≡ flowing w d) → (balance_row s + redeemed_row s) + value_of issued_row o ≡ (value_of balance_row o + value_of redeemed_row o) + issued_row s → Books (set_row w p s)
  books_keep same money =
      let e : Details = record { from = p; to = p; value = 0; from_seq = 0; to_seq = 0 } in
      let u : ℕ = cond (flowing w e) e.value 0 in
      books_move e (λ d _. same d) u u (ap (λ x. cond x e.value 0) (sym (same e))) refl (omega (arith, money))
