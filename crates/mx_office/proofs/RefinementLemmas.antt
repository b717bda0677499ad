-- Each command is an operation of the abstract world, and so are runs of commands.
use Rattle.std.proofs.Common.{◌≡◌, ℕ, ◌+◌, ◌≤◌, Bool, true, false, cond, not, List, [], ◌∷◌, refl, sym, ◌∙◌, ap, subst, Option, Some, None, option_map, option_and_then, ◌&&◌, arith, is_none, map}
use Rattle.std.specs.Prelude.{sum_by}
use Rattle.std.specs.FinMap as fmap
use Rattle.mx_pay.specs.Names.{name_cmp, is_name}
use Rattle.mx_pay.specs.Details.{Details, details_cmp}
use Rattle.mx_pay.specs.Log.{Entries, none_logged}
use Rattle.mx_purse.specs.declared.refusals.LoadRefusal.{LoadRefusal}
use Rattle.mx_purse.specs.declared.refusals.CreditRefusal.{CreditRefusal}
use Rattle.mx_purse.specs.Operations.{expects_val, expects_ack, load_refusal, loaded, credit_refusal}
use Rattle.mx_book.specs.declared.contract.StoreFault.{StoreFault}
use Rattle.mx_book.specs.declared.values.Caller.{Caller}
use Rattle.mx_book.specs.declared.values.LineKind.TheVariants as kind
use Rattle.mx_book.specs.declared.values.MemberRow.{MemberRow}
use Rattle.mx_book.specs.Reads.{from_row, is_archived, is_settled, load_of}
use Rattle.mx_book.specs.Totals.{occurring, value_where}
use Rattle.mx_book.specs.World.{World, Row, Name, Token, set_row, new_row, is_of_member, with_archived, opening}
use Rattle.mx_book.proofs.NameLemmas.{names_total, names_exact, same_name, name_itself}
use Rattle.mx_book.proofs.UnderLemmas.{entries_empty}
use Rattle.mx_command.specs.declared.values.Command.{Command}
use Rattle.mx_command.specs.declared.values.Command.TheVariants.{Archive, NewPurse, Load, Settle}
use Rattle.mx_office.specs.declared.values.Outcome.{Outcome}
use Rattle.mx_command.specs.declared.values.Refusal.TheVariants.{NoSuchPurse}
use Rattle.mx_command.specs.declared.values.Reply.{Reply}
use Rattle.mx_command.specs.declared.values.Reply.TheVariants as reply
use Rattle.mx_office.specs.Abstract.{recovers, has_lost, AbstractPurse, AbstractRun, Act, ChosenLost, IsAct, Refines, RefinesFromNone, Simulates, perform_all, counts_lost, counts_received, received_by, losses_of, abstract_purse, abstract_of}
use Rattle.mx_office.specs.Reachable.{IsReachable}
use Rattle.mx_office.specs.Run.{IsRun, answered}
use Rattle.mx_command.specs.Commands.{Asked}
use Rattle.mx_office.specs.Step.{Deed, idle, with_purse, money_line, loaded_holding, loaded_row, settled_holding, settled_row, with_settled, new_load_refusal, idle_load, idle_load_at, base, step, steps}
use Rattle.mx_office.proofs.ActLemmas.{Simulated, map_same, get-abstract, get-change, act_leads, leads_to, turned, row_each, found_at, le_true, recover_case, still_load}
use Rattle.mx_office.proofs.AlikeLemmas.{purse_of, alike_itself, alike_simulated, row_alike, then_alike, apart_alike}
use Rattle.mx_office.proofs.CaseLemmas.{by_after, collected_same}
use Rattle.mx_office.proofs.MoveCaseLemmas.{IsSettlement, IsTold, Refuses, Names, Sums, Idles, by_moves}
use Rattle.mx_office.proofs.DeedLemmas.{not_some, idle_told}
use Rattle.mx_office.proofs.FateLemmas.{share, value_moves, received_now, lost_now, one_of_two, still_received, losses_stay, never_received, never_lost}
use Rattle.mx_office.proofs.ConservedLemmas.{maybe_is}
use Rattle.mx_office.proofs.LawLemmas.{run_steps}
use Rattle.mx_office.proofs.RuleActLemmas.{EachActs, each_acts}
use Rattle.mx_office.proofs.SaneLemmas.{Sane, IsNextSane}
use Rattle.mx_office.proofs.SaneCommandLemmas.{opening_sane, reachable_sane, step_sane}
use Rattle.mx_office.proofs.SaneMoneyLemmas.{load_sane, credited_by_guard, settled_by_guard, settle_turns, settle_flowed, settle_rests, others_flow, settle_sane}
use Rattle.mx_office.proofs.SaneRowLemmas.{new_sane, new_gone, new_due, new_step, no_archive, archive_sane, archive_step, side_same}
use Rattle.mx_office.proofs.SeenLemmas.{Step, clash, neither}
use Rattle.mx_office.proofs.SeenWorldLemmas.{Invariant, seen, side, flowing, flow-same, kept_rests, turn_step, turn_flow}
use Rattle.mx_office.proofs.SoundLemmas.{Turns, none_moves, still}

-- ---- what is told changes nothing

told_act : (w : World) (asked : Command) (x : Reply) (c : ChosenLost) → IsAct w asked x Act.Ignore → Simulated w asked w x c
told_act w asked x c is = alike_simulated w w asked x c (alike_itself w) is

-- ---- a load

load_known : (w : World) (p : Name) (r : Row) → fmap.get w.rows p ≡ Some r → (reference : Name) → load_of w p reference ≡ fmap.get r.loads reference
load_known w p r at reference = ap (from_row None (λ (x : Row). fmap.get x.loads reference)) at

module _ (w : World) (p : Name) (r : Row) (at : fmap.get w.rows p ≡ Some r) (s : Sane w) (m : Name) (amount : ℕ) (reference : Name) (c : ChosenLost) where
  abbrev by_guard : Option LoadRefusal → Row
  by_guard o = record r {
    holding = cond (is_none o) (with_purse r.holding (loaded r.holding.purse amount) (Some (money_line (loaded r.holding.purse amount) kind.Loaded amount reference))) r.holding;
    loads = fmap.insert r.loads reference amount;
  }

  guard_act : (o : Option LoadRefusal) → o ≡ None → fmap.get r.loads reference ≡ None → IsNextSane w (set_row w p (by_guard o)) → Simulated w (Load p amount reference) (set_row w p (by_guard o)) reply.Loaded c
  guard_act (Some x) e new next = not_some x (sym e)
  guard_act None e new next =
      let i : Invariant w = s.invariant in
      let t : Row = by_guard None in
      let q : Turns (seen w) (is_archived w p) none_moves r.holding.purse t.holding.purse = still (seen w) (is_archived w p) r.holding.purse (r.holding.purse.balance + amount) (r.holding.purse.lines + 1) (omega arith) (i.sound p r at) in
      still_load w p r t at i next.sane.invariant (turn_step w p r t at i none_moves q) c (Load p amount reference) reply.Loaded (λ d. turn_flow w p r t at i none_moves q d refl) amount
      refl (ap (λ y. cond (is_none y) (Act.Load p amount) Act.Ignore) (sym (load_known w p r at reference ∙ new)))

  row_act : load_refusal r.holding.purse amount ≡ None → fmap.get r.loads reference ≡ None → IsNextSane w (set_row w p (loaded_row amount reference r)) → Simulated w (Load p amount reference) (set_row w p (loaded_row amount reference r)) reply.Loaded c
  unfolding loaded_holding
  row_act free new next = guard_act (load_refusal r.holding.purse amount) free new next

-- ---- a settlement

module _ (w : World) (s : Sane w) (d : Details) (m : IsSettlement w d) (c : ChosenLost) where
  settle_act : (o : Option CreditRefusal) → o ≡ None → IsNextSane w (settled_by_guard w s d m o) → Simulated w (Settle d) (settled_by_guard w s d m o) reply.Settled c
  settle_act (Some x) e next = not_some x (sym e)
  settle_act None e next =
      let i : Invariant w = s.invariant in
      let t : Row = credited_by_guard w s d m None in
      let v : World = settled_by_guard w s d m None in
      let b : ChosenLost = counts_lost v c in
      let step : Step (seen w) (seen v) = turn_step w d.from m.row t m.at i none_moves (settle_turns w s d m) in
      let flows : flowing w d ≡ true = settle_flowed w s d m in
      let rests : flowing v d ≡ false = settle_rests w s d m in
      let never : counts_received w b d ≡ false = (λ k. (maybe_is w i d ∙ neither (flowing w d) _ (kept_rests w i d m.to)) k && not (b d)) in
      let was : counts_lost w b d ≡ true = one_of_two w i b d flows ∙ ap not never in
      let received : (q : Name) → received_by v c q + share (is_name q d.to) false d ≡ received_by w b q + share (is_name q d.to) false d =
      received_now w v i next.sane.invariant step c d (others_flow w s d m) false false never (never_received v next.sane.invariant c d rests) in
      let lost : (q : Name) → losses_of v c q + share (is_name q d.from) true d ≡ losses_of w b q + share (is_name q d.from) false d =
      lost_now w v i next.sane.invariant step c d (others_flow w s d m) true false was (never_lost v next.sane.invariant c d rests) in
      let same : (q : Name) → received_by v c q ≡ received_by w b q = λ q. let x = received q in omega (arith, x) in
      let own : share (is_name d.from d.from) true d ≡ d.value = ap (λ a. share a true d) (name_itself d.from) in
      let none : share (is_name d.from d.from) false d ≡ 0 = ap (λ a. share a false d) (name_itself d.from) in
      let enough : d.value ≤ losses_of w b d.from = let x = lost d.from in omega (arith, x, own, none) in
      record {
        before = b;
        act = Act.Settle d.from d.value;
        is = refl;
        leads = leads_to w v b c (Act.Settle d.from d.value) (turned d.from (recovers d.value))
            (ap (λ o. has_lost o d.value) (found_at w d.from m.row t m.at b c) ∙ le_true _ _ enough)
            (λ a q. get-change a d.from (recovers d.value) q)
            (row_each w d.from m.row t m.at b c v.settled (turned d.from (recovers d.value))
            (λ q apart y. recover_case d _ _ _ _ _ _ (is_name q d.from) (ap (λ a. cond a (y.holding.purse.balance + d.value) y.holding.purse.balance) (sym apart)) (same q) (lost q))
            (recover_case d _ _ _ _ _ _ (is_name d.from d.from) (ap (λ a. cond a (m.row.holding.purse.balance + d.value) m.row.holding.purse.balance) (sym (name_itself d.from))) (same d.from) (lost d.from)));
      }

  row_settled : IsNextSane w (with_settled (set_row w d.from (settled_row d m.row)) d) → Simulated w (Settle d) (with_settled (set_row w d.from (settled_row d m.row)) d) reply.Settled c
  unfolding settled_holding
  row_settled next = settle_act (credit_refusal m.row.holding.purse d.value) m.free next

-- a load that is idle is nothing in the abstract world
module _ (w : World) (m p : Name) (amount : ℕ) (reference : Name) where
  abbrev IsIgnored : Reply → Type 0
  IsIgnored x = IsAct w (Load p amount reference) x Act.Ignore

  none_ignored : (x : Reply) → Some (reply.Refused NoSuchPurse) ≡ Some x → IsIgnored x
  none_ignored x e = idle_told IsIgnored None amount reply.Loaded (Some NoSuchPurse) x e (λ known. clash true refl known) (λ y. refl)

  owned_ignored : (r : Row) (member : MemberRow) (b : Bool) (x : Reply) → fmap.get w.rows p ≡ Some r
      → cond b (idle (fmap.get r.loads reference) amount reply.Loaded (new_load_refusal member r amount)) (Some (reply.Refused NoSuchPurse)) ≡ Some x → IsIgnored x
  owned_ignored r member true x at e = idle_told IsIgnored (fmap.get r.loads reference) amount reply.Loaded (new_load_refusal member r amount) x e
      (λ known. ap (λ b. cond b (Act.Load p amount) Act.Ignore) (sym (ap is_none (load_known w p r at reference) ∙ known))) (λ y. refl)
  owned_ignored r member false x at e = none_ignored x e

  found_ignored : (x : Reply) (o : Option Row) (u : Option MemberRow) → fmap.get w.rows p ≡ o → idle_load_at w m amount reference o u ≡ Some x → IsIgnored x
  found_ignored x None None at e = none_ignored x e
  found_ignored x None (Some member) at e = none_ignored x e
  found_ignored x (Some r) None at e = none_ignored x e
  found_ignored x (Some r) (Some member) at e = owned_ignored r member (is_of_member w m r) x at e

  idle_ignored : (x : Reply) → idle_load w m p amount reference ≡ Some x → IsIgnored x
  unfolding idle_load
  idle_ignored x e = found_ignored x (fmap.get w.rows p) (fmap.get w.members m) refl e

told_ignored : (w : World) (caller : Caller) (asked : Command) (x : Reply) → IsTold w caller asked x → IsAct w asked x Act.Ignore
told_ignored w caller asked x (Refuses g c r) = refl
told_ignored w caller asked x (Names g c names) = refl
told_ignored w caller asked x (Sums g c sums) = refl
told_ignored w caller asked x (Idles m p amount reference y e) = idle_ignored w m p amount reference y e

-- ---- a new purse

-- nothing meets a test that always fails
none_where : (f : Details → Bool) (x : Entries) → ((d : Details) → f d ≡ false) → value_where f x ≡ 0
none_where f x fails =
    let e : Details = record { from = []; to = []; value = 0; from_seq = 0; to_seq = 0 } in
    let m : value_where f x + cond (f e) e.value 0 ≡ value_where f none_logged + cond (f e) e.value 0 =
    value_moves f f none_logged x (λ d t. clash (f d) t (fails d)) (λ d t. clash (f d) t (fails d)) e (λ d _. refl) in
    let empty : value_where f none_logged ≡ 0 = ap (λ es. sum_by (λ (d : Details). cond (f d) d.value 0) (map (λ (k : Details × Unit {0}). k.0) es)) (entries_empty {V = Unit {0}} details_cmp) in
    omega (arith, m, empty)

and_false : (a b : Bool) → (a ≡ true → b ≡ false) → (a && b) ≡ false
and_false true b h = h refl
and_false false b h = refl

module _ (w : World) (p h : Name) (none : fmap.get w.rows p ≡ None) (s : Sane w) (c : ChosenLost) where
  abbrev made : World
  made = set_row w p (new_row h p)

  abbrev chosen_before : ChosenLost
  chosen_before = counts_lost made c

  never_gone : (d : Details) → d.from ≡ p → (seen w).gone d ≡ false
  never_gone d e = ap (λ x. side expects_ack (fmap.get w.rows x) (is_archived w x d) d) e ∙ ap (λ o. side expects_ack o (is_archived w p d) d) none ∙ no_archive w p h none s d

  never_due : (d : Details) → d.to ≡ p → (seen w).due d ≡ false
  never_due d e = ap (λ x. side expects_val (fmap.get w.rows x) (is_archived w x d) d) e ∙ ap (λ o. side expects_val o (is_archived w p d) d) none ∙ no_archive w p h none s d

  no_received : received_by w chosen_before p ≡ 0
  no_received = none_where (λ d. is_name p d.to && counts_received w chosen_before d) (occurring w) (λ d. and_false (is_name p d.to) _ (λ t.
      never_received w s.invariant chosen_before d (ap (λ b. b && not (is_settled w d)) (neither _ _ (never_due d (sym (same_name p d.to t)))))))

  no_lost : losses_of w chosen_before p ≡ 0
  no_lost = none_where (λ d. is_name p d.from && counts_lost w chosen_before d) (occurring w) (λ d. and_false (is_name p d.from) _ (λ t.
      never_lost w s.invariant chosen_before d (ap (λ b. (b && (seen w).due d) && not (is_settled w d)) (never_gone d (sym (same_name p d.from t))))))

  new_act : Simulated w (NewPurse p h) made reply.Added c
  new_act =
      let next : IsNextSane w made = new_sane w p h none s in
      let flow : (d : Details) → flowing made d ≡ flowing w d = λ d. flow-same made w d (new_gone w p h none s d) (new_due w p h none s d) refl in
      let received : (q : Name) → received_by made c q ≡ received_by w chosen_before q = still_received w made s.invariant next.sane.invariant (new_step w p h none s) c flow in
      let lost : (q : Name) → losses_of made c q ≡ losses_of w chosen_before q = losses_stay w made s.invariant next.sane.invariant (new_step w p h none s) c flow in
      record {
        before = chosen_before;
        act = Act.Issue p;
        is = refl;
        leads = act_leads (abstract_of w chosen_before) (abstract_of made c) (Act.Issue p)
            (ap is_none (get-abstract w chosen_before p ∙ ap (option_map (abstract_purse w chosen_before p)) none))
            (λ q. fmap.get-insert names_total (abstract_of w chosen_before) p (record { balance = 0; lost = 0 }) q ∙ each received lost q (is_name q p) refl
            ∙ ap (option_map (abstract_purse made c q)) (sym (fmap.get-insert names_total w.rows p (new_row h p) q)) ∙ sym (get-abstract made c q));
      }
    where
      purse_case : (q : Name) → received_by made c q ≡ received_by w chosen_before q → losses_of made c q ≡ losses_of w chosen_before q → (o : Option Row) → option_map (abstract_purse w chosen_before q) o ≡ option_map (abstract_purse made c q) o
      purse_case q received lost None = refl
      purse_case q received lost (Some x) = λ k. Some (record { balance = x.holding.purse.balance + sym received k; lost = sym lost k })

      each : ((q : Name) → received_by made c q ≡ received_by w chosen_before q) → ((q : Name) → losses_of made c q ≡ losses_of w chosen_before q) → (q : Name) (b : Bool) → is_name q p ≡ b
          → cond b (Some (record { balance = 0; lost = 0 })) (fmap.get (abstract_of w chosen_before) q) ≡ option_map (abstract_purse made c q) (cond b (Some (new_row h p)) (fmap.get w.rows q))
      each received lost q false t = get-abstract w chosen_before q ∙ purse_case q (received q) (lost q) (fmap.get w.rows q)
      each received lost q true t =
          let e1 : 0 ≡ 0 + received_by made c p = let z : received_by made c p ≡ 0 = received p ∙ no_received in omega (arith, z) in
          let e2 : 0 ≡ losses_of made c p = sym (lost p ∙ no_lost) in
          subst (λ y. Some (let x : AbstractPurse = record { balance = 0; lost = 0 } in x) ≡ Some (abstract_purse made c y (new_row h p))) (sym (same_name q p t)) (λ k. Some (record { balance = e1 k; lost = e2 k }))

-- ---- results that are archived

archive_act : (w : World) (p : Name) (c : ChosenLost) (x : Reply) → Sane w → IsAct w (Archive p) x Act.Ignore → Simulated w (Archive p) (with_archived w p) x c
archive_act w p c x s is =
    let v : World = with_archived w p in
    let next : IsNextSane w v = archive_sane w p s in
    let flow : (d : Details) → flowing v d ≡ flowing w d = λ d. flow-same v w d (side_same w p s expects_ack d.from d (fmap.get w.rows d.from) refl) (side_same w p s expects_val d.to d (fmap.get w.rows d.to) refl) refl in
    let received : (q : Name) → received_by v c q ≡ received_by w (counts_lost v c) q = still_received w v s.invariant next.sane.invariant (archive_step w p s) c flow in
    let lost : (q : Name) → losses_of v c q ≡ losses_of w (counts_lost v c) q = losses_stay w v s.invariant next.sane.invariant (archive_step w p s) c flow in
    record {
      before = counts_lost v c;
      act = Act.Ignore;
      is = is;
      leads = leads_to w v (counts_lost v c) c Act.Ignore (λ q y. y) refl (λ a q. sym (map_same (fmap.get a q)))
          (λ q. map_same (option_map (abstract_purse w (counts_lost v c) q) (fmap.get w.rows q))
          ∙ (λ k. option_map (λ (r : Row). let y : AbstractPurse = record { balance = r.holding.purse.balance + sym (received q) k; lost = sym (lost q) k } in y) (fmap.get w.rows q)));
    }

-- ---- each command

base_act : (w : World) → Sane w → (c : ChosenLost) (caller : Caller) (asked : Command) → Simulated w asked (base w caller asked).state (base w caller asked).reply c
base_act w s c = by_moves w (λ _ asked d. Simulated w asked d.state d.reply c) (record {
  told = λ caller asked x is. told_act w asked x c (told_ignored w caller asked x is);
  member = λ m t none free. alike_simulated w _ _ _ c (apart_alike w _ refl refl refl) refl;
  grant = λ m amount row there small room. alike_simulated w _ _ _ c (apart_alike w _ refl refl refl) refl;
  holder = λ m h t row there none free. alike_simulated w _ _ _ c (apart_alike w _ refl refl refl) refl;
  purse = λ m p h there none few. new_act w p h none s c;
  load = λ m p amount reference l.
      let next = load_sane w p l.row l.at s amount reference l.fresh l.free in
      then_alike w (set_row w p (loaded_row amount reference l.row)) _ _ _ c (row_act w p l.row l.at s m amount reference c l.free l.fresh next) (apart_alike _ _ refl refl refl);
  collect = λ m row there room. alike_simulated w _ _ _ c (record { purses = λ q. collected_same purse_of w m q (λ r. refl); archive = refl; settled = refl }) refl;
  archive = λ p. archive_act w p c _ s refl;
  clear = λ p set may. told_act w _ _ c refl;
  settle = λ d m. row_settled w s d m c (settle_sane w s d m);
  own = λ h asked p f r e at owned. subst (EachActs w c asked) e (each_acts w s c asked) r at;
})

step_act : (w : World) → Sane w → (caller : Caller) (asked : Command) (c : ChosenLost) → Simulates w caller asked c
unfolding step
step_act w s caller asked c =
    let d : Deed World = base w caller asked in
    let left = base_act w s c caller asked in
    let x = by_after (λ v. Simulated w asked v d.reply c) d left (λ m r e at. then_alike w d.state _ asked d.reply c left (row_alike d.state m.0 r _ at refl)) (λ v x now e f. then_alike w v _ asked d.reply c now (apart_alike v _ refl refl refl)) in
    record { before = x.before; act = x.act; is = x.is; leads = x.leads }

pub step_simulates : (w : World) (caller : Caller) (asked : Command) (c : ChosenLost) → IsReachable w → Simulates w caller asked c
step_simulates w caller asked c r = step_act w (reachable_sane w r) caller asked c

-- ---- runs

run_act : (w : World) (cs : List Asked) (c : ChosenLost) → Sane w → (before : ChosenLost) × AbstractRun (abstract_of w before) w cs (steps w cs).end c
run_act w [] c s = (c, record { acts = []; are = tt; leads = refl })
run_act w (x ∷ cs) c s =
    let rest = run_act (step w x.0 x.1).world cs c (step_sane w s x.0 x.1).sane in
    let now : Simulates w x.0 x.1 rest.0 = step_act w s x.0 x.1 rest.0 in
    (now.before, record { acts = now.act ∷ rest.1.acts; are = (now.is, rest.1.are); leads = ap (option_and_then (λ b. perform_all b rest.1.acts)) now.leads ∙ rest.1.leads })

pub steps_refine : (w : World) (cs : List Asked) → IsReachable w → Refines w cs (steps w cs).end
steps_refine w cs from = λ c. run_act w cs c (reachable_sane w from)

opening_empty : (t : Token) (c : ChosenLost) → abstract_of (opening t) c ≡ fmap.empty
opening_empty t c = fmap.same_map names_total names_exact (abstract_of (opening t) c) fmap.empty
    (λ q. get-abstract (opening t) c q ∙ ap (option_map (abstract_purse (opening t) c q)) (fmap.get-empty name_cmp q) ∙ sym (fmap.get-empty name_cmp q))

pub run_refines : (t : Token) (cs : List Asked) → RefinesFromNone t cs (steps (opening t) cs).end
run_refines t cs = λ c.
    let run = run_act (opening t) cs c (opening_sane t) in
    record { acts = run.1.acts; are = run.1.are; leads = ap (λ a. perform_all a run.1.acts) (sym (opening_empty t run.0)) ∙ run.1.leads }

-- and so do the commands that a run answered
pub answered_refine : (fails : StoreFault → Type 0) (w end v : World) (cs : List Asked) (os : List Outcome) → IsRun fails w cs os end → v ≡ end → IsReachable w → Refines w (answered cs os) v
answered_refine fails w end v cs os is same from = subst (Refines w (answered cs os)) (sym (same ∙ ap (λ c. c.end) (run_steps fails w end cs os is))) (steps_refine w (answered cs os) from)
