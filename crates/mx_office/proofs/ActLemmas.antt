-- An operation of the abstract world, and the change of one row that it is.
use Rattle.std.proofs.Common.{◌≡◌, ℕ, ◌+◌, ◌-◌, ◌≤◌, Bool, true, false, cond, not, refl, sym, ◌∙◌, ap, subst, Option, Some, None, option_map, ◌&&◌, arith, is_some}
use Rattle.std.specs.Prelude.{nat_le}
use Rattle.std.specs.FinMap as fmap
use Rattle.mx_pay.specs.Names.{name_cmp, is_name}
use Rattle.mx_pay.specs.Log.{Entries}
use Rattle.mx_pay.specs.Details.{Details, is_details}
use Rattle.mx_book.specs.World.{World, Row, Name, set_row}
use Rattle.mx_book.proofs.NameLemmas.{names_total, names_exact, same_name, name_itself}
use Rattle.mx_book.proofs.UnderLemmas.{get-remake}
use Rattle.mx_command.specs.declared.values.Command.{Command}
use Rattle.mx_command.specs.declared.values.Reply.{Reply}
use Rattle.mx_office.specs.Abstract.{AbstractPurse, AbstractWorld, Act, ChosenLost, IsAct, allows, perform, performed, changed, change, has_funds, may_transfer, gains, pays, loses, recovers, counts_lost, counts_received, received_by, losses_of, abstract_purse, abstract_of}
use Rattle.mx_office.proofs.FateLemmas as fate
use Rattle.mx_office.proofs.ConservedLemmas.{maybe_is}
use Rattle.mx_office.proofs.FateLemmas.{share, never_received, never_lost, one_of_two}
use Rattle.mx_office.proofs.SeenLemmas.{Step, clash}
use Rattle.mx_office.proofs.SeenWorldLemmas.{Invariant, seen, flowing}

-- ---- what is found after an operation

-- what becomes of each purse
abbrev pub Effect : Type 0
Effect = Name → AbstractPurse → AbstractPurse

-- the purse of a name is changed
abbrev pub turned : Name → (AbstractPurse → AbstractPurse) → Effect
turned p f q x = cond (is_name q p) (f x) x

pub map_same : {X : Type 0} (o : Option X) → option_map (λ x. x) o ≡ o
map_same None = refl
map_same (Some x) = refl

map_twice : {X Y Z : Type 0} (f : X → Y) (g : Y → Z) (o : Option X) → option_map g (option_map f o) ≡ option_map (λ x. g (f x)) o
map_twice f g None = refl
map_twice f g (Some x) = refl

module _ (a : AbstractWorld) (p : Name) (f : AbstractPurse → AbstractPurse) (q : Name) where
  none_case : (b : Bool) → is_name q p ≡ b → fmap.get a p ≡ None → fmap.get a q ≡ option_map (λ x. cond b (f x) x) (fmap.get a q)
  none_case true t at = let e : fmap.get a q ≡ None = ap (fmap.get a) (same_name q p t) ∙ at in e ∙ sym (ap (option_map f) e)
  none_case false t at = sym (map_same (fmap.get a q))

  some_case : (x : AbstractPurse) (b : Bool) → is_name q p ≡ b → fmap.get a p ≡ Some x → cond b (Some (f x)) (fmap.get a q) ≡ option_map (λ y. cond b (f y) y) (fmap.get a q)
  some_case x true t at = sym (ap (option_map f) (ap (fmap.get a) (same_name q p t) ∙ at))
  some_case x false t at = sym (map_same (fmap.get a q))

  found_changed : (o : Option AbstractPurse) → fmap.get a p ≡ o → fmap.get (changed a p f o) q ≡ option_map (turned p f q) (fmap.get a q)
  found_changed None at = none_case (is_name q p) refl at
  found_changed (Some x) at = fmap.get-insert names_total a p (f x) q ∙ some_case x (is_name q p) refl at

  pub get-change : fmap.get (change a p f) q ≡ option_map (turned p f q) (fmap.get a q)
  get-change = found_changed (fmap.get a p) refl

pub get-abstract : (w : World) (c : ChosenLost) (q : Name) → fmap.get (abstract_of w c) q ≡ option_map (abstract_purse w c q) (fmap.get w.rows q)
get-abstract w c q = get-remake name_cmp (abstract_purse w c) names_exact w.rows q

-- ---- from one World to another

-- what is asked in a World and answered so, with another World and a choice after it
pub record Simulated (w : World) (asked : Command) (v : World) (x : Reply) (chosen : ChosenLost) : Type 0 where
  pub before : ChosenLost
  pub act : Act
  pub is : IsAct w asked x act
  pub leads : perform (abstract_of w before) act ≡ Some (abstract_of v chosen)

-- what an operation that is allowed leads to
pub act_leads : (a b : AbstractWorld) (act : Act) → allows a act ≡ true → ((q : Name) → fmap.get (performed a act) q ≡ fmap.get b q) → perform a act ≡ Some b
act_leads a b act allowed each = ap (λ x. cond x (Some (performed a act)) None) allowed ∙ ap Some (fmap.same_map names_total names_exact (performed a act) b each)

module _ (w v : World) (b c : ChosenLost) where
  pub leads_to : (act : Act) (E : Effect) → allows (abstract_of w b) act ≡ true → ((a : AbstractWorld) (q : Name) → fmap.get (performed a act) q ≡ option_map (E q) (fmap.get a q))
      → ((q : Name) → option_map (E q) (option_map (abstract_purse w b q) (fmap.get w.rows q)) ≡ option_map (abstract_purse v c q) (fmap.get v.rows q))
      → perform (abstract_of w b) act ≡ Some (abstract_of v c)
  leads_to act E allowed gets each =
      act_leads (abstract_of w b) (abstract_of v c) act allowed (λ q. gets (abstract_of w b) q ∙ ap (option_map (E q)) (get-abstract w b q) ∙ each q ∙ sym (get-abstract v c q))

purses_are : (m n k l : ℕ) → m ≡ n → k ≡ l → (let x : AbstractPurse = record { balance = m; lost = k } in x) ≡ (let y : AbstractPurse = record { balance = n; lost = l } in y)
purses_are m n k l e f = λ i. record { balance = e i; lost = f i }

-- ---- one row

module _ (w : World) (p : Name) (r s : Row) (at : fmap.get w.rows p ≡ Some r) (b c : ChosenLost) where
  module _ (settled : Entries) where
    -- the row is set, and so is what is settled
    abbrev turned_to : World
    turned_to = record (set_row w p s) { settled = settled }

    pub row_each : (E : Effect) → ((q : Name) → is_name q p ≡ false → (x : Row) → E q (abstract_purse w b q x) ≡ abstract_purse turned_to c q x) → E p (abstract_purse w b p r) ≡ abstract_purse turned_to c p s
        → (q : Name) → option_map (E q) (option_map (abstract_purse w b q) (fmap.get w.rows q)) ≡ option_map (abstract_purse turned_to c q) (fmap.get turned_to.rows q)
    row_each E each one q = row_case (is_name q p) refl ∙ ap (option_map (abstract_purse turned_to c q)) (sym (fmap.get-insert names_total w.rows p s q))
      where
        other_case : (o : Option Row) → is_name q p ≡ false → option_map (E q) (option_map (abstract_purse w b q) o) ≡ option_map (abstract_purse turned_to c q) o
        other_case None t = refl
        other_case (Some x) t = ap Some (each q t x)

        row_case : (t : Bool) → is_name q p ≡ t → option_map (E q) (option_map (abstract_purse w b q) (fmap.get w.rows q)) ≡ option_map (abstract_purse turned_to c q) (cond t (Some s) (fmap.get w.rows q))
        row_case true t =
            subst (λ y. option_map (E y) (option_map (abstract_purse w b y) (fmap.get w.rows y)) ≡ option_map (abstract_purse turned_to c y) (Some s)) (sym (same_name q p t))
            (ap (λ o. option_map (E p) (option_map (abstract_purse w b p) o)) at ∙ ap Some one)
        row_case false t = other_case (fmap.get w.rows q) t

  -- the abstract purse of the row
  pub found_at : fmap.get (abstract_of w b) p ≡ Some (abstract_purse w b p r)
  found_at = get-abstract w b p ∙ ap (option_map (abstract_purse w b p)) at

pub le_true : (m n : ℕ) → m ≤ n → nat_le m n ≡ true
le_true m n h = grind arith

some_map : {X Y : Type 0} (f : X → Y) (o : Option X) → is_some (option_map f o) ≡ is_some o
some_map f None = refl
some_map f (Some x) = refl

-- ---- what a purse has of a payment

-- `to` and `from` say what the purse is in the payment; it had m, of which R more counted as received and L as lost, and has
-- n, Q and K
module _ (e : Details) (m n R L Q K : ℕ) where
  abbrev had : AbstractPurse
  had = record { balance = m + R; lost = L }

  abbrev has : AbstractPurse
  has = record { balance = n + Q; lost = K }

  transfer_case : (to from : Bool) → (from ≡ true → (to ≡ false) × (e.value ≤ m)) → n ≡ cond from (m - e.value) m → Q + share to false e ≡ R + share to true e → K + share from false e ≡ L + share from false e
      → cond to (gains e.value (cond from (pays e.value had) had)) (cond from (pays e.value had) had) ≡ has
  transfer_case true true sides money received lost = clash true refl (sides refl).0
  transfer_case true false sides money received lost = purses_are _ _ _ _ (omega (arith, money, received)) (omega (arith, lost))
  transfer_case false true sides money received lost = let enough : e.value ≤ m = (sides refl).1 in purses_are _ _ _ _ (omega (arith, money, received, enough)) (omega (arith, lost))
  transfer_case false false sides money received lost = purses_are _ _ _ _ (omega (arith, money, received)) (omega (arith, lost))

  lose_case : (to from : Bool) → (from ≡ true → (to ≡ false) × (e.value ≤ m)) → n ≡ cond from (m - e.value) m → Q + share to false e ≡ R + share to false e → K + share from false e ≡ L + share from true e
      → cond from (loses e.value had) had ≡ has
  lose_case true true sides money received lost = clash true refl (sides refl).0
  lose_case true false sides money received lost = purses_are _ _ _ _ (omega (arith, money, received)) (omega (arith, lost))
  lose_case false true sides money received lost = let enough : e.value ≤ m = (sides refl).1 in purses_are _ _ _ _ (omega (arith, money, received, enough)) (omega (arith, lost))
  lose_case false false sides money received lost = purses_are _ _ _ _ (omega (arith, money, received)) (omega (arith, lost))

  value_case : (to from : Bool) → n ≡ cond to (m + e.value) m → Q + share to true e ≡ R + share to false e → K + share from false e ≡ L + share from false e → had ≡ has
  value_case true true money received lost = purses_are _ _ _ _ (omega (arith, money, received)) (omega (arith, lost))
  value_case true false money received lost = purses_are _ _ _ _ (omega (arith, money, received)) (omega (arith, lost))
  value_case false true money received lost = purses_are _ _ _ _ (omega (arith, money, received)) (omega (arith, lost))
  value_case false false money received lost = purses_are _ _ _ _ (omega (arith, money, received)) (omega (arith, lost))

  pub recover_case : (from : Bool) → n ≡ cond from (m + e.value) m → Q ≡ R → K + share from true e ≡ L + share from false e → cond from (recovers e.value had) had ≡ has
  recover_case true money received lost = purses_are _ _ _ _ (omega (arith, money, received)) (omega (arith, lost))
  recover_case false money received lost = purses_are _ _ _ _ (omega (arith, money, received)) (omega (arith, lost))

-- ---- what a change of one row is

module _ (w : World) (p : Name) (r s : Row) (at : fmap.get w.rows p ≡ Some r) (i : Invariant w) (j : Invariant (set_row w p s)) (step : Step (seen w) (seen (set_row w p s))) (c : ChosenLost) where
  abbrev with_row : World
  with_row = set_row w p s

  -- the choice before
  abbrev choice_before : ChosenLost
  choice_before = counts_lost with_row c

  module _ (asked : Command) (x : Reply) where
    simulated : (act : Act) (E : Effect) → IsAct w asked x act → allows (abstract_of w choice_before) act ≡ true → ((a : AbstractWorld) (q : Name) → fmap.get (performed a act) q ≡ option_map (E q) (fmap.get a q))
        → ((q : Name) → is_name q p ≡ false → (y : Row) → E q (abstract_purse w choice_before q y) ≡ abstract_purse with_row c q y) → E p (abstract_purse w choice_before p r) ≡ abstract_purse with_row c p s
        → Simulated w asked with_row x c
    simulated act E is allowed gets each one = record { before = choice_before; act = act; is = is; leads = leads_to w with_row choice_before c act E allowed gets (row_each w p r s at choice_before c w.settled E each one) }

    -- ---- what is under way stays

    module _ (flow : (d : Details) → flowing with_row d ≡ flowing w d) where
      received : (q : Name) → received_by w choice_before q ≡ received_by with_row c q
      received q = sym (fate.still_received w with_row i j step c flow q)

      lost : (q : Name) → losses_of w choice_before q ≡ losses_of with_row c q
      lost q = sym (fate.losses_stay w with_row i j step c flow q)

      pub still_nothing : s.holding.purse.balance ≡ r.holding.purse.balance → IsAct w asked x Act.Ignore → Simulated w asked with_row x c
      still_nothing money is = simulated Act.Ignore (λ q y. y) is refl (λ a q. sym (map_same (fmap.get a q)))
          (λ q t y. purses_are _ _ _ _ (ap (λ n. y.holding.purse.balance + n) (received q)) (lost q))
          (purses_are _ _ _ _ (λ k. sym money k + received p k) (lost p))

      -- the purse is changed
      still_turned : (act : Act) (f : AbstractPurse → AbstractPurse) → IsAct w asked x act → allows (abstract_of w choice_before) act ≡ true → ((a : AbstractWorld) (q : Name) → fmap.get (performed a act) q ≡ option_map (turned p f q) (fmap.get a q))
          → f (abstract_purse w choice_before p r) ≡ abstract_purse w choice_before p s → Simulated w asked with_row x c
      still_turned act f is allowed gets one = simulated act (turned p f) is allowed gets
          (λ q t y. ap (λ b. cond b (f (abstract_purse w choice_before q y)) (abstract_purse w choice_before q y)) t ∙ purses_are _ _ _ _ (ap (λ n. y.holding.purse.balance + n) (received q)) (lost q))
          (ap (λ b. cond b (f (abstract_purse w choice_before p r)) (abstract_purse w choice_before p r)) (name_itself p) ∙ one ∙ purses_are _ _ _ _ (ap (λ n. s.holding.purse.balance + n) (received p)) (lost p))

      pub still_load : (n : ℕ) → s.holding.purse.balance ≡ r.holding.purse.balance + n → IsAct w asked x (Act.Load p n) → Simulated w asked with_row x c
      still_load n money is = still_turned (Act.Load p n) (gains n) is (ap is_some (found_at w p r s at choice_before c)) (λ a q. get-change a p (gains n) q) (purses_are _ _ _ _ (omega (arith, money)) refl)

      pub still_redeem : (n : ℕ) → n ≤ r.holding.purse.balance → s.holding.purse.balance ≡ r.holding.purse.balance - n → IsAct w asked x (Act.Redeem p n) → Simulated w asked with_row x c
      still_redeem n enough money is =
          still_turned (Act.Redeem p n) (pays n) is
          (ap (λ o. has_funds o n) (found_at w p r s at choice_before c) ∙ le_true n (r.holding.purse.balance + received_by w choice_before p) (omega (arith, enough))) (λ a q. get-change a p (pays n) q)
          (purses_are _ _ _ _ (omega (arith, enough, money)) refl)

    -- ---- one payment begins or ends to be under way

    module _ (e : Details) (other : (d : Details) → is_details e d ≡ false → flowing with_row d ≡ flowing w d) where
      -- a request is accepted
      module _ (own : e.from ≡ p) (rests : flowing w e ≡ false) (flows : flowing with_row e ≡ true) (there : is_some (fmap.get w.rows e.to) ≡ true) (apart : is_name e.from e.to ≡ false)
          (enough : e.value ≤ r.holding.purse.balance) (money : s.holding.purse.balance ≡ r.holding.purse.balance - e.value) where
        pays_allowed : may_transfer (abstract_of w choice_before) e ≡ true
        pays_allowed =
            let from : fmap.get (abstract_of w choice_before) e.from ≡ Some (abstract_purse w choice_before e.from r) =
            get-abstract w choice_before e.from ∙ ap (option_map (abstract_purse w choice_before e.from)) (ap (fmap.get w.rows) own ∙ at) in
            let covered : has_funds (fmap.get (abstract_of w choice_before) e.from) e.value ≡ true =
            ap (λ o. has_funds o e.value) from ∙ le_true e.value (r.holding.purse.balance + received_by w choice_before e.from) (omega (arith, enough)) in
            let to : is_some (fmap.get (abstract_of w choice_before) e.to) ≡ true = ap is_some (get-abstract w choice_before e.to) ∙ some_map (abstract_purse w choice_before e.to) (fmap.get w.rows e.to) ∙ there in
            (λ k. covered k && (to k && not (apart k)))

        received_as : (y : Bool) → counts_received with_row c e ≡ y → (q : Name) → received_by with_row c q + share (is_name q e.to) false e ≡ received_by w choice_before q + share (is_name q e.to) y e
        received_as y now = fate.received_now w with_row i j step c e other false y (never_received w i choice_before e rests) now

        lost_as : (y : Bool) → counts_lost with_row c e ≡ y → (q : Name) → losses_of with_row c q + share (is_name q e.from) false e ≡ losses_of w choice_before q + share (is_name q e.from) y e
        lost_as y now = fate.lost_now w with_row i j step c e other false y (never_lost w i choice_before e rests) now

        -- another purse doesn't pay, and this one does
        elsewhere : (q : Name) → is_name q p ≡ false → is_name q e.from ≡ false
        elsewhere q t = ap (is_name q) own ∙ t

        others_stay : (q : Name) → is_name q p ≡ false → (y : Row) → y.holding.purse.balance ≡ cond (is_name q e.from) (y.holding.purse.balance - e.value) y.holding.purse.balance
        others_stay q t y = ap (λ b. cond b (y.holding.purse.balance - e.value) y.holding.purse.balance) (sym (elsewhere q t))

        falls : s.holding.purse.balance ≡ cond (is_name p e.from) (r.holding.purse.balance - e.value) r.holding.purse.balance
        falls = money ∙ ap (λ b. cond b (r.holding.purse.balance - e.value) r.holding.purse.balance) (sym (ap (is_name p) own ∙ name_itself p))

        pays_alone : is_name p e.to ≡ false
        pays_alone = ap (λ q. is_name q e.to) (sym own) ∙ apart

        request_case : IsAct w asked x (Act.TransferOkay e) → IsAct w asked x (Act.TransferLost e) → (y : Bool) → counts_received with_row c e ≡ y → Simulated w asked with_row x c
        request_case moves loses_it true now =
            let lost : counts_lost with_row c e ≡ false = one_of_two with_row j c e flows ∙ ap not now in
            simulated (Act.TransferOkay e) (λ q y. turned e.to (gains e.value) q (turned e.from (pays e.value) q y)) moves pays_allowed
            (λ a q. get-change (change a e.from (pays e.value)) e.to (gains e.value) q ∙ ap (option_map (turned e.to (gains e.value) q)) (get-change a e.from (pays e.value) q)
            ∙ map_twice (turned e.from (pays e.value) q) (turned e.to (gains e.value) q) (fmap.get a q))
            (λ q t y. transfer_case e _ _ _ _ _ _ (is_name q e.to) (is_name q e.from) (λ own. clash _ own (elsewhere q t)) (others_stay q t y) (received_as true now q) (lost_as false lost q))
            (transfer_case e _ _ _ _ _ _ (is_name p e.to) (is_name p e.from) (λ _. (pays_alone, enough)) falls (received_as true now p) (lost_as false lost p))
        request_case moves loses_it false now =
            let lost : counts_lost with_row c e ≡ true = one_of_two with_row j c e flows ∙ ap not now in
            simulated (Act.TransferLost e) (turned e.from (loses e.value)) loses_it pays_allowed (λ a q. get-change a e.from (loses e.value) q)
            (λ q t y. lose_case e _ _ _ _ _ _ (is_name q e.to) (is_name q e.from) (λ own. clash _ own (elsewhere q t)) (others_stay q t y) (received_as false now q) (lost_as true lost q))
            (lose_case e _ _ _ _ _ _ (is_name p e.to) (is_name p e.from) (λ _. (pays_alone, enough)) falls (received_as false now p) (lost_as true lost p))

        pub request_simulated : IsAct w asked x (Act.TransferOkay e) → IsAct w asked x (Act.TransferLost e) → Simulated w asked with_row x c
        request_simulated moves loses_it = request_case moves loses_it (counts_received with_row c e) refl

      -- a value is accepted
      module _ (own : e.to ≡ p) (flows : flowing w e ≡ true) (waits : (seen w).epv e ≡ true) (rests : flowing with_row e ≡ false) (money : s.holding.purse.balance ≡ r.holding.purse.balance + e.value) where
        was_received : counts_received w choice_before e ≡ true
        was_received = (λ k. (maybe_is w i e ∙ (λ l. flows l && waits l)) k && not (never_lost with_row j c e rests k))

        received_then : (q : Name) → received_by with_row c q + share (is_name q e.to) true e ≡ received_by w choice_before q + share (is_name q e.to) false e
        received_then = fate.received_now w with_row i j step c e other true false was_received (never_received with_row j c e rests)

        lost_then : (q : Name) → losses_of with_row c q + share (is_name q e.from) false e ≡ losses_of w choice_before q + share (is_name q e.from) false e
        lost_then = fate.lost_now w with_row i j step c e other false false (one_of_two w i choice_before e flows ∙ ap not was_received) (never_lost with_row j c e rests)

        pub value_simulated : IsAct w asked x Act.Ignore → Simulated w asked with_row x c
        value_simulated is = simulated Act.Ignore (λ q y. y) is refl (λ a q. sym (map_same (fmap.get a q)))
            (λ q t y. value_case e _ _ _ _ _ _ (is_name q e.to) (is_name q e.from) (ap (λ b. cond b (y.holding.purse.balance + e.value) y.holding.purse.balance) (sym (ap (is_name q) own ∙ t))) (received_then q) (lost_then q))
            (value_case e _ _ _ _ _ _ (is_name p e.to) (is_name p e.from) (money ∙ ap (λ b. cond b (r.holding.purse.balance + e.value) r.holding.purse.balance) (sym (ap (is_name p) own ∙ name_itself p))) (received_then p) (lost_then p))
