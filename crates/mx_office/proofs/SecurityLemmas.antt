-- The security properties of the purses, for each command.
use Rattle.std.proofs.Common.{◌≡◌, ℕ, ◌+◌, ◌≤◌, true, false, not, refl, sym, ◌∙◌, ap, subst, Option, Some, None, ◌&&◌, ◌||◌, arith, is_some}
use Rattle.std.proofs.lemmas.Bool.{or_parts}
use Rattle.std.specs.FinMap as fmap
use Rattle.mx_pay.specs.Details.{Details}
use Rattle.mx_pay.specs.Log.{has_logged}
use Rattle.mx_purse.specs.declared.message.Message.{Message}
use Rattle.mx_purse.specs.declared.message.Message.TheVariants as message
use Rattle.mx_purse.specs.declared.message.Handled.{Handled}
use Rattle.mx_purse.specs.declared.message.Handled.TheVariants as took
use Rattle.mx_purse.specs.State.{State}
use Rattle.mx_purse.specs.Operations.{expects_req, expects_val, expects_ack, handled}
use Rattle.mx_book.specs.declared.values.Caller.{Caller}
use Rattle.mx_book.specs.declared.values.Caller.TheVariants.{Holder}
use Rattle.mx_book.specs.Reads.{from_row, is_archived, is_settled}
use Rattle.mx_book.specs.Totals.{of_all, balance_row, issued_row, redeemed_row, from_logged, from_in_epa, to_logged, definitely_lost, still_lost, occurring, transit, lost}
use Rattle.mx_book.specs.World.{World, Row, Holding as Held, Name, change_holding}
use Rattle.mx_command.specs.declared.values.Command.{Command}
use Rattle.mx_command.specs.declared.values.Command.TheVariants.{Handle}
use Rattle.mx_command.specs.declared.values.Refusal.TheVariants.{NoSuchPurse, NoSuchMessage}
use Rattle.mx_command.specs.declared.values.Reply.{Reply}
use Rattle.mx_command.specs.declared.values.Reply.TheVariants as reply
use Rattle.mx_office.specs.Conservation.{CreatesNoValue, AccountsAllValue, AcceptsAuthentic, IsAuthentic, PaysCovered, is_load, is_redemption, is_settlement}
use Rattle.mx_office.specs.Reachable.{IsReachable}
use Rattle.mx_office.specs.Step.{on_found, in_place, own_holding, handle, handle_message, step}
use Rattle.mx_office.proofs.ConservedLemmas.{or_turned, split_side, value_within, due_occurs, conserved}
use Rattle.mx_office.proofs.HandleLemmas.{value_left}
use Rattle.mx_office.proofs.MoveLemmas.{IsMoved, step_moved}
use Rattle.mx_office.proofs.OwnLemmas.{is_owned}
use Rattle.mx_office.proofs.SaneLemmas.{Sane, StaysLost, IsNextSane, lost_in}
use Rattle.mx_office.proofs.SaneCommandLemmas.{reachable_sane, step_sane}
use Rattle.mx_office.proofs.SeenLemmas.{clash, either_true, both_parts}
use Rattle.mx_office.proofs.SeenWorldLemmas.{Invariant, seen, side}
use Rattle.mx_office.proofs.SoundLemmas.{IsPresent, expects_req_is}

-- ---- what is lost never falls

lost_seen : (w : World) (d : Details) → definitely_lost w d ≡ lost_in (seen w) d
lost_seen w d = ap (λ b. to_logged w d && b) (or_turned (from_logged w d) (from_in_epa w d) ∙ sym (split_side expects_ack (fmap.get w.rows d.from) (is_archived w d.from d) d))

-- what is lost occurs
pub lost_occurs : (w : World) (d : Details) → definitely_lost w d ≡ true → is_some (fmap.get (occurring w) d) ≡ true
lost_occurs w d h = due_occurs w d (waits (fmap.get w.rows d.to) (both_parts _ _ h).0)
  where
    waits : (o : Option Row) → (from_row false (λ (r : Row). has_logged r.holding.purse.log d) o || is_archived w d.to d) ≡ true → side expects_val o (is_archived w d.to d) d ≡ true
    waits None t = t
    waits (Some r) t = either_true (expects_val r.holding.purse.status d) _ t

-- where nothing is settled
lost_grows : (w v : World) → StaysLost w v → v.settled ≡ w.settled → lost w ≤ lost v
lost_grows w v stays same = value_within (still_lost w) (still_lost v) (occurring w) (occurring v)
    (λ d t. let parts = both_parts (definitely_lost w d) _ t in
    let gone : definitely_lost v d ≡ true = lost_seen v d ∙ stays d (sym (lost_seen w d) ∙ parts.0) in
    let still : not (is_settled v d) ≡ true = ap (λ x. not (fmap.contains_key x d)) same ∙ parts.1 in
    (λ k. gone k && still k))
    (λ d t. lost_occurs v d (both_parts (definitely_lost v d) _ t).0)

-- ---- no value created, and all value accounted

pub creates_none : (w : World) (caller : Caller) (c : Command) → IsReachable w → CreatesNoValue w caller c
creates_none w caller c r neither =
    let s : Sane w = reachable_sane w r in
    let v : World = (step w caller c).world in
    let next : IsNextSane w v = step_sane w s caller c in
    let moved : IsMoved w v c = step_moved w s caller c in
    let e1 : ((of_all w balance_row + transit w) + lost w) + of_all w redeemed_row ≡ of_all w issued_row = conserved w s in
    let e2 : ((of_all v balance_row + transit v) + lost v) + of_all v redeemed_row ≡ of_all v issued_row = conserved v next.sane in
    let no = or_parts (is_load c) (is_settlement c) neither in
    let e3 : of_all v issued_row ≡ of_all w issued_row = moved.issued no.0 in
    let e4 : of_all w redeemed_row ≤ of_all v redeemed_row = moved.grows in
    let e5 : lost w ≤ lost v = lost_grows w v next.lost (moved.settled no.1) in
    omega (arith, e1, e2, e3, e4, e5)

pub all_accounted : (w : World) (caller : Caller) (c : Command) → IsReachable w → AccountsAllValue w caller c
all_accounted w caller c r neither =
    let s : Sane w = reachable_sane w r in
    let v : World = (step w caller c).world in
    let next : IsNextSane w v = step_sane w s caller c in
    let moved : IsMoved w v c = step_moved w s caller c in
    let no = or_parts (is_load c) (is_redemption c) neither in
    let e1 : ((of_all w balance_row + transit w) + lost w) + of_all w redeemed_row ≡ of_all w issued_row = conserved w s in
    let e2 : ((of_all v balance_row + transit v) + lost v) + of_all v redeemed_row ≡ of_all v issued_row = conserved v next.sane in
    let e3 : of_all v issued_row ≡ of_all w issued_row = moved.issued no.0 in
    let e4 : of_all v redeemed_row ≡ of_all w redeemed_row = moved.redeemed no.1 in
    omega (arith, e1, e2, e3, e4)

-- ---- a message that is accepted

-- a message in the inbox of the purse of a row, which it handles so
record IsAccepted (w : World) (p : Name) (n : ℕ) (x : Handled) : Type 0 where
  row : Row
  at : fmap.get w.rows p ≡ Some row
  message : Message
  found : fmap.get row.holding.inbox n ≡ Some message
  is : handled row.holding.purse message ≡ x

abbrev taken_as : Handled → Reply → Handled
taken_as x (reply.Handled h) = h
taken_as x r = x

module _ (w : World) (h p : Name) (n : ℕ) (x : Handled) where
  message_case : (r : Row) → fmap.get w.rows p ≡ Some r → (o : Option Message) → fmap.get r.holding.inbox n ≡ o → (on_found r.holding NoSuchMessage o (handle_message r.holding)).reply ≡ reply.Handled x → IsAccepted w p n x
  message_case r at None found e = cc
  message_case r at (Some m) found e = record { row = r; at = at; message = m; found = found; is = ap (taken_as x) e }

  own_taken : (o : Option Held) → own_holding w h p ≡ o → (on_found w NoSuchPurse o (λ a. in_place (λ b. change_holding w p (λ _. b)) (handle n a))).reply ≡ reply.Handled x → IsAccepted w p n x
  unfolding handle
  own_taken None own e = cc
  own_taken (Some a) own e =
      let r = is_owned w h p a own in
      message_case r.row r.at (fmap.get r.row.holding.inbox n) refl (subst (λ y. (handle n y).reply ≡ reply.Handled x) (sym r.holding) e)

  is_taken : (step w (Holder h) (Handle p n)).reply ≡ reply.Handled x → IsAccepted w p n x
  unfolding step
  is_taken e = own_taken (own_holding w h p) refl e

-- the message is a val with the details, for which the purse waits
record IsVal (q : State) (m : Message) (d : Details) : Type 0 where
  same : m ≡ message.Val d
  waits : expects_val q.status d ≡ true

record IsReq (q : State) (m : Message) (d : Details) : Type 0 where
  same : m ≡ message.Req d
  waits : expects_req q.status d ≡ true

module _ (q : State) (d : Details) where
  is_val : (m : Message) → handled q m ≡ took.Val d → IsVal q m d
  is_val (message.Req e) h = absurd (grind arith)
  is_val (message.Val e) h = let both : (e ≡ d) × (expects_val q.status e ≡ true) = grind arith in record { same = ap message.Val both.0; waits = ap (expects_val q.status) (sym both.0) ∙ both.1 }
  is_val (message.Ack e) h = absurd (grind arith)
  is_val (message.Clear set) h = absurd (grind arith)

  is_req : (m : Message) → handled q m ≡ took.Req d → IsReq q m d
  is_req (message.Req e) h = let both : (e ≡ d) × (expects_req q.status e ≡ true) = grind arith in record { same = ap message.Req both.0; waits = ap (expects_req q.status) (sym both.0) ∙ both.1 }
  is_req (message.Val e) h = absurd (grind arith)
  is_req (message.Ack e) h = absurd (grind arith)
  is_req (message.Clear set) h = absurd (grind arith)

-- ---- authentic purses

-- the purse of details that are gone is there
there_case : (w : World) → Invariant w → (d : Details) (o : Option Row) → fmap.get w.rows d.from ≡ o → side expects_ack o (is_archived w d.from d) d ≡ true → (from_in_epa w d || from_logged w d) ≡ true → IsAuthentic w d
there_case w i d None at gone paid = clash (is_some (fmap.get w.rows d.from)) (i.held d.from d gone) (ap is_some at)
there_case w i d (Some r) at gone paid = record { row = r; there = at; paid = paid }

pub accepts_authentic : (w : World) (h p : Name) (n : ℕ) → IsReachable w → AcceptsAuthentic w h p n
accepts_authentic w h p n reach d e =
    let s : Sane w = reachable_sane w reach in
    let i : Invariant w = s.invariant in
    let t : IsAccepted w p n (took.Val d) = is_taken w h p n (took.Val d) e in
    let r : Row = t.row in
    let v : IsVal r.holding.purse t.message d = is_val r.holding.purse d t.message t.is in
    let gone : (seen w).gone d ≡ true = (value_left w p r t.at i d v.waits (i.timely p r t.at n (message.Val d) (t.found ∙ ap Some v.same))).0 in
    there_case w i d (fmap.get w.rows d.from) refl gone (sym (split_side expects_ack (fmap.get w.rows d.from) (is_archived w d.from d) d) ∙ gone)

-- ---- sufficient funds

pub pays_covered : (w : World) (h p : Name) (n : ℕ) → IsReachable w → PaysCovered w h p n
pays_covered w h p n reach d e =
    let i : Invariant w = (reachable_sane w reach).invariant in
    let t : IsAccepted w p n (took.Req d) = is_taken w h p n (took.Req d) e in
    let r : Row = t.row in
    let v : IsReq r.holding.purse t.message d = is_req r.holding.purse d t.message t.is in
    let was = expects_req_is r.holding.purse.status d v.waits in
    record { row = r; there = t.at; covered = (subst (IsPresent r.holding.purse (is_archived w p)) was (i.sound p r t.at).present).1 }
