-- What was issued and what was redeemed stays, but for loads and redemptions.
use Rattle.std.proofs.Common.{◌≡◌, ℕ, ◌+◌, ◌≤◌, Bool, true, false, refl, sym, ◌∙◌, ap, subst, Some, None, arith}
use Rattle.std.specs.FinMap as fmap
use Rattle.mx_book.specs.declared.values.Caller.{Caller}
use Rattle.mx_book.specs.Sums.{sum_values}
use Rattle.mx_book.specs.Totals.{of_all, issued_row, redeemed_row}
use Rattle.mx_book.specs.World.{World, Row, Holding, Name, set_row, new_row}
use Rattle.mx_book.proofs.NameLemmas.{names_total}
use Rattle.mx_book.proofs.SumLemmas.{value_of, sum_values-insert}
use Rattle.mx_command.specs.declared.values.Command.{Command}
use Rattle.mx_office.specs.Conservation.{is_load as loads, is_redemption as redeems, is_settlement as settles}
use Rattle.mx_office.specs.Step.{loaded_row, settled_row, base, step}
use Rattle.mx_office.proofs.BalanceCommandLemmas.{loaded_redemptions, settled_redemptions}
use Rattle.mx_office.proofs.CaseLemmas.{by_after}
use Rattle.mx_office.proofs.MoveCaseLemmas.{by_moves}
use Rattle.mx_office.proofs.EntrySumLemmas.{sum_values-new, sum_values-empty}
use Rattle.mx_office.proofs.RuleLemmas.{Redeems, Same, More, EachKeeps, each_keeps}
use Rattle.mx_office.proofs.SaneLemmas.{Sane}
use Rattle.mx_office.proofs.SaneMoneyLemmas.{same_sum}
use Rattle.mx_office.proofs.SeenLemmas.{clash}

-- what was issued stays but for a load, what was redeemed stays but for a redemption, and it never falls; what is settled
-- stays but for a settlement
pub record IsMoved (w v : World) (c : Command) : Type 0 where
  pub issued : loads c ≡ false → of_all v issued_row ≡ of_all w issued_row
  pub redeemed : redeems c ≡ false → of_all v redeemed_row ≡ of_all w redeemed_row
  pub grows : of_all w redeemed_row ≤ of_all v redeemed_row
  pub settled : settles c ≡ false → v.settled ≡ w.settled

no_less : (m n : ℕ) → n ≡ m → m ≤ n
no_less m n e = omega (arith, e)

-- all stay
stays_moved : (w v : World) (c : Command) → v.settled ≡ w.settled → of_all v issued_row ≡ of_all w issued_row → of_all v redeemed_row ≡ of_all w redeemed_row → IsMoved w v c
stays_moved w v c settled issued redeemed = record { issued = λ _. issued; redeemed = λ _. redeemed; grows = no_less _ _ redeemed; settled = λ _. settled }

-- after that all stay
then_stays : (w v u : World) (c : Command) → IsMoved w v c → u.settled ≡ v.settled → of_all u issued_row ≡ of_all v issued_row → of_all u redeemed_row ≡ of_all v redeemed_row → IsMoved w u c
then_stays w v u c m settled issued redeemed =
    let grows : of_all w redeemed_row ≤ of_all v redeemed_row = m.grows in
    record { issued = λ e. issued ∙ m.issued e; redeemed = λ e. redeemed ∙ m.redeemed e; grows = omega (arith, grows, redeemed); settled = λ e. settled ∙ m.settled e }

-- ---- a row that is set

row_sum : (w : World) (p : Name) (r s : Row) (f : Row → ℕ) → fmap.get w.rows p ≡ Some r → of_all (set_row w p s) f + f r ≡ of_all w f + f s
row_sum w p r s f at = ap (λ o. of_all (set_row w p s) f + value_of f o) (sym at) ∙ sum_values-insert names_total f w.rows p s

row_same : (w : World) (p : Name) (r s : Row) (f : Row → ℕ) → fmap.get w.rows p ≡ Some r → f s ≡ f r → of_all (set_row w p s) f ≡ of_all w f
row_same w p r s f at same = let sum = row_sum w p r s f at in omega (arith, sum, same)

row_more : (w : World) (p : Name) (r s : Row) (f : Row → ℕ) → fmap.get w.rows p ≡ Some r → f r ≤ f s → of_all w f ≤ of_all (set_row w p s) f
row_more w p r s f at more = let sum = row_sum w p r s f at in omega (arith, sum, more)

new_same : (w : World) (p h : Name) (f : Row → ℕ) → fmap.get w.rows p ≡ None → f (new_row h p) ≡ 0 → of_all (set_row w p (new_row h p)) f ≡ of_all w f
new_same w p h f none zero = let sum = sum_values-new f w.rows p (new_row h p) none in omega (arith, sum, zero)

-- ---- the rules on a purse

-- a rule that is no redemption leaves the redemptions
redeems_none : {one : Bool} (a b : Holding) → Redeems one a b → one ≡ false → b.redemptions ≡ a.redemptions
redeems_none a b (Same same) never = same
redeems_none a b (More may reference amount gone is) never = clash _ may never

redeems_more : {may : Bool} (r : Row) (b : Holding) → Redeems may r.holding b → redeemed_row r ≤ redeemed_row (record r { holding = b })
redeems_more r b (Same same) = no_less _ _ (ap (sum_values (λ n. n)) same)
redeems_more r b (More may reference amount gone is) =
    let e1 : redeemed_row (record r { holding = b }) ≡ sum_values (λ n. n) (fmap.insert r.holding.redemptions reference amount) = ap (sum_values (λ n. n)) is in
    let e2 : sum_values (λ n. n) (fmap.insert r.holding.redemptions reference amount) ≡ redeemed_row r + amount = sum_values-new (λ n. n) r.holding.redemptions reference amount gone in
    omega (arith, e1, e2)

-- ---- each command

base_moved : (w : World) → Sane w → (caller : Caller) (c : Command) → IsMoved w (base w caller c).state c
base_moved w s = by_moves w (λ _ c d. IsMoved w d.state c) (record {
  told = λ caller c x is. stays_moved w w c refl refl refl;
  member = λ m t none free. stays_moved w _ _ refl refl refl;
  grant = λ m amount row there small room. stays_moved w _ _ refl refl refl;
  holder = λ m h t row there none free. stays_moved w _ _ refl refl refl;
  purse = λ m p h there none few. stays_moved w _ _ refl (new_same w p h issued_row none (sum_values-empty (λ n. n))) (new_same w p h redeemed_row none (sum_values-empty (λ n. n)));
  load = λ m p amount reference l.
      let same : of_all (set_row w p (loaded_row amount reference l.row)) redeemed_row ≡ of_all w redeemed_row =
      row_same w p l.row _ redeemed_row l.at (ap (sum_values (λ n. n)) (loaded_redemptions l.row.holding amount reference)) in
      record { issued = λ never. clash true refl never; redeemed = λ _. same; grows = no_less _ _ same; settled = λ _. refl };
  collect = λ m row there room. stays_moved w _ _ refl (same_sum w m s issued_row (λ r. refl)) (same_sum w m s redeemed_row (λ r. refl));
  archive = λ p. stays_moved w _ _ refl refl refl;
  clear = λ p set may. stays_moved w w _ refl refl refl;
  settle = λ d m.
      let same : of_all (set_row w d.from (settled_row d m.row)) redeemed_row ≡ of_all w redeemed_row = row_same w d.from m.row _ redeemed_row m.at (ap (sum_values (λ n. n)) (settled_redemptions m.row.holding d)) in
      record { issued = λ _. row_same w d.from m.row (settled_row d m.row) issued_row m.at refl; redeemed = λ _. same; grows = no_less _ _ same; settled = λ never. clash true refl never };
  own = λ h c p f r e at owned.
      let keeps : Redeems (redeems c) r.holding (f r.holding).state = (subst (EachKeeps c) e (each_keeps c) r.holding).redeems in
      record {
        issued = λ never. row_same w p r _ issued_row at refl;
        redeemed = λ never. row_same w p r _ redeemed_row at (ap (sum_values (λ n. n)) (redeems_none _ _ keeps never));
        grows = row_more w p r _ redeemed_row at (redeems_more r (f r.holding).state keeps);
        settled = λ _. refl;
      };
})

pub step_moved : (w : World) → Sane w → (caller : Caller) (c : Command) → IsMoved w (step w caller c).world c
unfolding step
step_moved w s caller c =
    let d = base w caller c in
    let left = base_moved w s caller c in
    by_after (λ v. IsMoved w v c) d left (λ m r e at. then_stays w d.state _ c left refl (row_same d.state m.0 r _ issued_row at refl) (row_same d.state m.0 r _ redeemed_row at refl)) (λ v x now e f. then_stays w v _ c now refl refl refl)
