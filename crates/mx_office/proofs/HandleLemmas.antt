-- A message that is handled, and so each rule on a purse, keeps the invariant and the scheme's equation, and is an operation.
use Rattle.std.proofs.Common.{◌≡◌, ℕ, ◌+◌, Bool, true, false, cond, not, refl, sym, ◌∙◌, ap, subst, Option, Some, None, ◌&&◌, ◌||◌, inl, inr}
use Rattle.std.specs.Prelude.{nat_le}
use Rattle.std.specs.FinMap as fmap
use Rattle.mx_pay.specs.Limits.{most_number}
use Rattle.mx_pay.specs.Details.{Details, is_details}
use Rattle.mx_pay.specs.Log.{Entries, has_logged}
use Rattle.mx_pay.proofs.SameLemmas.{details_itself, names_unlike, same_logs, has-none_logged}
use Rattle.mx_purse.specs.State.{State}
use Rattle.mx_purse.specs.declared.message.Message.{Message}
use Rattle.mx_purse.specs.declared.message.Message.TheVariants as message
use Rattle.mx_purse.specs.declared.message.Handled.{Handled}
use Rattle.mx_purse.specs.declared.message.Handled.TheVariants as took
use Rattle.mx_purse.specs.declared.status.Status.{Status}
use Rattle.mx_purse.specs.declared.status.Status.TheVariants.{Epr}
use Rattle.mx_purse.specs.Operations.{pending, aborted, expects_req, expects_val, expects_ack, expects_clear, after_message, sent_for}
use Rattle.mx_book.specs.Reads.{is_archived, is_settled}
use Rattle.mx_book.specs.World.{World, Row, Holding, Name, set_row}
use Rattle.mx_book.proofs.FoundLemmas.{inside}
use Rattle.mx_book.proofs.NameLemmas.{get-inserted}
use Rattle.mx_command.specs.declared.values.Command.{Command}
use Rattle.mx_command.specs.declared.values.Command.TheVariants.{Show, StartFrom, StartTo, Handle, Discard, Abort, ReadLog, Redeem, Inbox, Statement}
use Rattle.mx_command.specs.declared.values.Reply.TheVariants as reply
use Rattle.mx_command.specs.declared.values.Refusal.TheVariants as refusal
use Rattle.mx_office.specs.Step.{Deed, Asks, on_found, with_purse, message_line, handle_message, asks, show, handle, inbox, statement}
use Rattle.mx_office.proofs.SeenLemmas.{IsTimely, clash, both_parts, neither}
use Rattle.mx_office.proofs.SoundLemmas.{IsPresent, IsReceiver, Turns, none_moves, restarted, request_turns, value_turns, finish_turns, expects_req_is, expects_val_is, expects_ack_is}
use Rattle.mx_office.proofs.SeenWorldLemmas.{Invariant, seen, flowing, side_of, has_status, waits_due, waits_open, stays_open, due_past, due_left, turn_step, turn_flow}
use Rattle.mx_office.proofs.OutLemmas.{Books}
use Rattle.mx_office.proofs.DeedLemmas.{IsKept, Rests, Requests, Receives, with_holding, not_some, turned_kept, told_kept, same_kept, still_logged, abort_kept, read_kept, discard_kept, start_from_kept, start_to_kept, redeem_kept}

-- ---- messages

-- what a purse waits for
pub waits_at : (f : Status → Details → Bool) (w : World) (p : Name) (r : Row) → fmap.get w.rows p ≡ Some r → (d : Details) (q : Name) → q ≡ p → f r.holding.purse.status d ≡ true → has_status f (fmap.get w.rows q) d ≡ true
waits_at f w p r at d q own t = ap (λ x. has_status f (fmap.get w.rows x) d) own ∙ ap (λ o. has_status f o d) at ∙ t

-- the value that a purse waits for has left its from purse, and so is under way
pub value_left : (w : World) (p : Name) (r : Row) → fmap.get w.rows p ≡ Some r → Invariant w → (d : Details) → expects_val r.holding.purse.status d ≡ true → IsTimely (seen w) p (message.Val d) → ((seen w).gone d ≡ true) × ((seen w).epv d ≡ true) × (flowing w d ≡ true)
value_left w p r at i d t timely =
    let x : IsReceiver r.holding.purse (is_archived w p) d = subst (IsPresent r.holding.purse (is_archived w p)) (expects_val_is r.holding.purse.status d t) (i.sound p r at).present in
    let waits : (seen w).epv d ≡ true = waits_at expects_val w p r at d d.to (x.own ∙ i.named p r at) t in
    let gone : (seen w).gone d ≡ true = timely.1 waits in
    (gone, waits, (λ k. (gone k && waits_due d (fmap.get w.rows d.to) (is_archived w d.to d) waits k) && not (waits_open w i d waits k)))

module _ (w : World) (p : Name) (r : Row) (at : fmap.get w.rows p ≡ Some r) (i : Invariant w) (asked : Command) where
  abbrev taker : State
  taker = r.holding.purse

  abbrev in_archive : Details → Bool
  in_archive = is_archived w p

  -- what is done with a message that is handled so
  abbrev deed_of : Handled → Deed Holding
  deed_of h = record {
    state = with_purse r.holding (after_message taker h) (message_line (after_message taker h) (pending taker.status) h);
    reply = reply.Handled h;
    sent = sent_for h;
    result = None;
  }

  -- the row then
  abbrev row_of : Handled → Row
  row_of h = with_holding r (deed_of h).state

  ignored_kept : IsKept w p r asked (deed_of took.Ignored)
  ignored_kept = same_kept w p r at i asked _ refl (λ k m h. h) refl refl refl refl

  req_case : (d : Details) → IsTimely (seen w) p (message.Req d) → (x : Bool) → expects_req taker.status d ≡ x → IsKept w p r asked (deed_of (cond x (took.Req d) took.Ignored))
  req_case d timely false t = ignored_kept
  req_case d timely true t =
      let was = expects_req_is taker.status d t in
      let s : Row = row_of (took.Req d) in
      let v : World = set_row w p s in
      let x : IsPresent taker in_archive (Epr d) = subst (IsPresent taker in_archive) was (i.sound p r at).present in
      let own : d.from ≡ p = x.0.own ∙ i.named p r at in
      let due : (seen w).due d ≡ true = elim timely [ inl due ↦ due | inr past ↦ clash _ (waits_at expects_req w p r at d d.from own t) past.1 ] in
      let turns : Turns (seen w) in_archive (is_details d) taker s.holding.purse = request_turns (seen w) in_archive taker d s.holding.purse.balance s.holding.purse.lines (i.sound p r at) was due in
      let rests : (seen w).gone d ≡ false = side_of expects_ack w p r at d d.from own ∙ ap (λ y. expects_ack y d || (has_logged taker.log d || in_archive d)) was ∙ x.0.fresh in
      let gone : (seen v).gone d ≡ true = side_of expects_ack v p s (get-inserted w.rows p s) d d.from own ∙ ap (λ y. y || (has_logged taker.log d || in_archive d)) (details_itself d) in
      let still_due : (seen v).due d ≡ true = elim (due_left w p r s at i (is_details d) turns d due) [ inl h ↦ h | inr y ↦ clash _ y.0 rests ] in
      turned_kept w p r at i asked (deed_of (took.Req d)) (is_details d) turns (λ k m h. h) (λ e _ h. h)
      (Requests d (turn_flow w p r s at i (is_details d) turns) own rests due (λ k. (gone k && still_due k) && not (stays_open w i d rests k)) (names_unlike d.from d.to (λ same. x.0.other (sym same ∙ x.0.own))) x.1 refl refl (inl refl) (inr refl))
      (λ m h. subst (λ (y : Name × Message). IsTimely (seen v) y.0 y.1) (inside (d.to, message.Val d) m h) ((turn_step w p r s at i (is_details d) turns).to_past d (due_past w i d due), λ _. gone))
      (λ c h. not_some c h)

  val_case : (d : Details) → IsTimely (seen w) p (message.Val d) → (x : Bool) → (expects_val taker.status d && nat_le (taker.balance + d.value) most_number) ≡ x → IsKept w p r asked (deed_of (cond x (took.Val d) took.Ignored))
  val_case d timely false t = ignored_kept
  val_case d timely true t =
      let waits = (both_parts _ _ t).0 in
      let was = expects_val_is taker.status d waits in
      let s : Row = row_of (took.Val d) in
      let v : World = set_row w p s in
      let x : IsReceiver taker in_archive d = subst (IsPresent taker in_archive) was (i.sound p r at).present in
      let own : d.to ≡ p = x.own ∙ i.named p r at in
      let left = value_left w p r at i d waits timely in
      let turns : Turns (seen w) in_archive (is_details d) taker s.holding.purse = value_turns (seen w) in_archive taker d s.holding.purse.balance s.holding.purse.lines (i.sound p r at) was left.0 in
      let late : (seen v).due d ≡ false = side_of expects_val v p s (get-inserted w.rows p s) d d.to own ∙ x.fresh in
      turned_kept w p r at i asked (deed_of (took.Val d)) (is_details d) turns (λ k m h. h) (λ e _ h. h)
      (Receives d (turn_flow w p r s at i (is_details d) turns) own left.2 left.1 (ap (λ b. b && not (is_settled w d)) (neither _ _ late)) refl refl refl)
      (λ m h. subst (λ (y : Name × Message). IsTimely (seen v) y.0 y.1) (inside (d.from, message.Ack d) m h) ((turn_step w p r s at i (is_details d) turns).to_past d timely.0, late))
      (λ c h. not_some c h)

  ack_case : (d : Details) → IsTimely (seen w) p (message.Ack d) → (x : Bool) → expects_ack taker.status d ≡ x → IsKept w p r asked (deed_of (cond x (took.Ack d) took.Ignored))
  ack_case d timely false t = ignored_kept
  ack_case d timely true t =
      let s : Row = row_of (took.Ack d) in
      let turns : Turns (seen w) in_archive none_moves taker s.holding.purse = finish_turns (seen w) in_archive taker d taker.balance taker.lines (i.sound p r at) (expects_ack_is taker.status d t) timely.1 in
      turned_kept w p r at i asked (deed_of (took.Ack d)) none_moves turns (λ k m h. h) (λ e _ h. h) (Rests (λ e. turn_flow w p r s at i none_moves turns e refl) refl refl refl) (λ m h. not_some m h) (λ c h. not_some c h)

  clear_case : (set : Entries) → IsTimely (seen w) p (message.Clear set) → (x : Bool) → expects_clear taker set ≡ x → IsKept w p r asked (deed_of (cond x took.Cleared took.Ignored))
  clear_case set timely false t = ignored_kept
  clear_case set timely true t =
      let s : Row = row_of took.Cleared in
      let same : set ≡ (aborted taker).log = same_logs set (aborted taker).log (both_parts _ _ t).1 in
      let all : (d : Details) → has_logged (aborted taker).log d ≡ true → in_archive d ≡ true = λ d h. timely d (ap (λ x. has_logged x d) same ∙ h) in
      let turns : Turns (seen w) in_archive none_moves taker s.holding.purse = restarted (seen w) in_archive taker s.holding.purse (i.sound p r at)
      (record { name = refl; next = λ k h. h; marks = λ d. ap (λ b. b || in_archive d) (has-none_logged d) ∙ or_kept _ (in_archive d) (all d) }) tt in
      turned_kept w p r at i asked (deed_of took.Cleared) none_moves turns (λ k m h. h) (λ e h l. clash (in_archive e) (all e (still_logged w p r at i asked e l)) (i.once p e h))
      (Rests (λ e. turn_flow w p r s at i none_moves turns e refl) refl refl refl) (λ m h. not_some m h) (λ c h. not_some c h)
    where
      or_kept : (l a : Bool) → (l ≡ true → a ≡ true) → a ≡ (l || a)
      or_kept true a h = h refl
      or_kept false a h = refl

  message_kept : (m : Message) → IsTimely (seen w) p m → IsKept w p r asked (handle_message r.holding m)
  message_kept (message.Req d) t = req_case d t (expects_req taker.status d) refl
  message_kept (message.Val d) t = val_case d t _ refl
  message_kept (message.Ack d) t = ack_case d t (expects_ack taker.status d) refl
  message_kept (message.Clear set) t = clear_case set t _ refl

  handle_found : (k : ℕ) (o : Option Message) → fmap.get r.holding.inbox k ≡ o → IsKept w p r asked (on_found r.holding refusal.NoSuchMessage o (handle_message r.holding))
  handle_found k None e = told_kept w p r at i asked _ refl
  handle_found k (Some m) e = message_kept m (i.timely p r at k m e)

  handle_kept : (k : ℕ) → IsKept w p r asked (handle k r.holding)
  unfolding handle
  handle_kept k = handle_found k (fmap.get r.holding.inbox k) refl

-- ---- each rule

abbrev pub KeptByRule : World → Command → Asks → Type 0
KeptByRule w asked (Asks.OnPurse p f) = (r : Row) → fmap.get w.rows p ≡ Some r → IsKept w p r asked (f r.holding)
KeptByRule w asked x = Unit {0}

-- what a rule that is asked of a purse keeps
pub record EachKept (w : World) (asked : Command) (x : Asks) : Type 0 where
  pub each : KeptByRule w asked x

rule_kept : (w : World) → Invariant w → (c : Command) → KeptByRule w c (asks c)
unfolding show inbox statement
rule_kept w i (Show p) = λ r at. told_kept w p r at i (Show p) _ refl
rule_kept w i (StartFrom p peer value seq) = λ r at. start_from_kept w p r at i (StartFrom p peer value seq) peer value seq
rule_kept w i (StartTo p peer value seq) = λ r at. start_to_kept w p r at i (StartTo p peer value seq) peer value seq
rule_kept w i (Handle p number) = λ r at. handle_kept w p r at i (Handle p number) number
rule_kept w i (Discard p number) = λ r at. discard_kept w p r at i (Discard p number) number
rule_kept w i (Abort p) = λ r at. abort_kept w p r at i (Abort p)
rule_kept w i (ReadLog p place) = λ r at. read_kept w p r at i (ReadLog p place) place
rule_kept w i (Redeem p amount reference) = λ r at. redeem_kept w p r at i amount reference
rule_kept w i (Inbox p) = λ r at. told_kept w p r at i (Inbox p) _ refl
rule_kept w i (Statement p after) = λ r at. told_kept w p r at i (Statement p after) _ refl
rule_kept w i c = tt

pub each_kept : (w : World) → Invariant w → Books w → (c : Command) → EachKept w c (asks c)
each_kept w i b c = record { each = rule_kept w i c }
