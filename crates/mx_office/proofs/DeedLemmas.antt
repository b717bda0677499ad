-- Each rule on a purse, but for messages, keeps the invariant and the scheme's equation, and is an operation.
use Rattle.std.proofs.Common.{◌≡◌, ℕ, ◌+◌, ◌-◌, ◌≤◌, zero, suc, Bool, true, false, cond, not, List, [], ◌∷◌, refl, sym, ◌∙◌, ap, subst, Option, Some, None, ◌&&◌, ◌||◌, inl, arith, is_some, is_none, option_map}
use Rattle.std.specs.Prelude.{nat_lt, slice_get, ◌==◌}
use Rattle.std.specs.Cmp.{nat_cmp_total}
use Rattle.std.specs.List.{list_any}
use Rattle.std.specs.FinMap as fmap
use Rattle.mx_pay.specs.Details.{Details, is_details}
use Rattle.mx_pay.specs.Log.{Entries, has_logged, logged}
use Rattle.mx_pay.specs.Names.{is_name}
use Rattle.mx_pay.proofs.SameLemmas.{details_itself, names_differ}
use Rattle.mx_purse.specs.State.{State}
use Rattle.mx_purse.specs.declared.message.Message.{Message}
use Rattle.mx_purse.specs.declared.message.Message.TheVariants as message
use Rattle.mx_purse.specs.declared.status.Status.TheVariants.{Epr, Epv}
use Rattle.mx_purse.specs.declared.refusals.StartRefusal.{StartRefusal}
use Rattle.mx_purse.specs.declared.refusals.RedeemRefusal.{RedeemRefusal}
use Rattle.mx_purse.specs.Operations.{aborted, started, from_details, to_details, start_from_refusal, start_to_refusal, expects_val, read_entry, redeem_refusal, redeemed}
use Rattle.mx_book.specs.Reads.{from_row, is_archived, is_settled, redemption_of}
use Rattle.mx_book.specs.Sums.{sum_values}
use Rattle.mx_book.specs.Totals.{redeemed_row}
use Rattle.mx_book.specs.World.{World, Row, Holding, Name, set_row}
use Rattle.mx_book.proofs.FoundLemmas.{inside}
use Rattle.mx_book.proofs.NameLemmas.{names_total, get-inserted}
use Rattle.mx_book.proofs.SumLemmas.{sum_values-insert}
use Rattle.mx_command.specs.declared.values.Command.{Command}
use Rattle.mx_command.specs.declared.values.Command.TheVariants.{Redeem}
use Rattle.mx_command.specs.declared.values.Reply.{Reply}
use Rattle.mx_command.specs.declared.values.Reply.TheVariants as reply
use Rattle.mx_command.specs.declared.values.Refusal.{Refusal}
use Rattle.mx_command.specs.declared.values.Refusal.TheVariants as refusal
use Rattle.mx_office.specs.Abstract.{Act, IsAct}
use Rattle.mx_office.specs.Step.{Deed, tell, unless, unless_told, on_found, idle, refusal_of_start, refusal_of_redeem, with_aborted, with_redemption, start_from, start_to, discard, abort, read_log, redeem}
use Rattle.mx_office.proofs.AccountLemmas.{in_tray}
use Rattle.mx_office.proofs.EntrySumLemmas.{number}
use Rattle.mx_office.proofs.SeenLemmas.{Step, IsTimely, clash, either_true}
use Rattle.mx_office.proofs.SoundLemmas.{IsSound, IsBegun, IsNew, Turns, none_moves, still, restarted, grows}
use Rattle.mx_office.proofs.SeenWorldLemmas.{Invariant, seen, flowing, side_of, turn_step, turn_flow, turn_keeps}
use Rattle.mx_office.proofs.OutLemmas.{Books, books_keep, books_move}

-- the row with another holding
abbrev pub with_holding : Row → Holding → Row
with_holding r a = record r { holding = a }

-- what becomes of the money of a purse and of the payments under way, by a rule that is asked and answered so, and which
-- operation that is
pub data IsDone (w : World) (p : Name) (r s : Row) (asked : Command) (x : Reply) : Type 0 where
  Rests : ((d : Details) → flowing (set_row w p s) d ≡ flowing w d) → s.holding.purse.balance ≡ r.holding.purse.balance → redeemed_row s ≡ redeemed_row r → IsAct w asked x Act.Ignore → IsDone w p r s asked x
  Redeems : (n : ℕ) → ((d : Details) → flowing (set_row w p s) d ≡ flowing w d) → n ≤ r.holding.purse.balance → s.holding.purse.balance ≡ r.holding.purse.balance - n → redeemed_row s ≡ redeemed_row r + n
      → IsAct w asked x (Act.Redeem p n) → IsDone w p r s asked x
  Requests : (e : Details) → ((d : Details) → is_details e d ≡ false → flowing (set_row w p s) d ≡ flowing w d) → e.from ≡ p → (seen w).gone e ≡ false → (seen w).due e ≡ true → flowing (set_row w p s) e ≡ true
      → is_name e.from e.to ≡ false → e.value ≤ r.holding.purse.balance → s.holding.purse.balance ≡ r.holding.purse.balance - e.value → redeemed_row s ≡ redeemed_row r
      → IsAct w asked x (Act.TransferOkay e) → IsAct w asked x (Act.TransferLost e) → IsDone w p r s asked x
  Receives : (e : Details) → ((d : Details) → is_details e d ≡ false → flowing (set_row w p s) d ≡ flowing w d) → e.to ≡ p → flowing w e ≡ true → (seen w).epv e ≡ true → flowing (set_row w p s) e ≡ false
      → s.holding.purse.balance ≡ r.holding.purse.balance + e.value → redeemed_row s ≡ redeemed_row r → IsAct w asked x Act.Ignore → IsDone w p r s asked x

-- what it makes of the scheme's equation
pub done_books : (w : World) (p : Name) (r : Row) (a : Holding) (asked : Command) (x : Reply) → fmap.get w.rows p ≡ Some r → Books w → IsDone w p r (with_holding r a) asked x → Books (set_row w p (with_holding r a))
done_books w p r a asked x at b (Rests flow money redeemed is) = books_keep w p (Some r) (with_holding r a) at b flow (omega (arith, money, redeemed))
done_books w p r a asked x at b (Redeems n flow enough money redeemed is) = books_keep w p (Some r) (with_holding r a) at b flow (omega (arith, enough, money, redeemed))
done_books w p r a asked x at b (Requests e other own rests due flows apart enough money redeemed moves loses) =
    books_move w p (Some r) (with_holding r a) at b e other e.value 0 (ap (λ y. cond y e.value 0) (sym flows)) (ap (λ y. cond ((y && (seen w).due e) && not (is_settled w e)) e.value 0) (sym rests)) (omega (arith, enough, money, redeemed))
done_books w p r a asked x at b (Receives e other own flows waits rests money redeemed is) =
    books_move w p (Some r) (with_holding r a) at b e other 0 e.value (ap (λ y. cond y e.value 0) (sym rests)) (ap (λ y. cond y e.value 0) (sym flows)) (omega (arith, money, redeemed))

-- what a rule on the purse of a row does keeps the invariant; what it sends is timely, and what it reads is logged
pub record IsKept (w : World) (p : Name) (r : Row) (asked : Command) (d : Deed Holding) : Type 0 where
  pub invariant : Invariant (set_row w p (with_holding r d.state))
  pub step : Step (seen w) (seen (set_row w p (with_holding r d.state)))
  pub done : IsDone w p r (with_holding r d.state) asked d.reply
  pub sent : (m : Name × Message) → d.sent ≡ Some m → IsTimely (seen (set_row w p (with_holding r d.state))) m.0 m.1
  pub read : (result : Name × Details) → d.result ≡ Some result → (result.0 ≡ p) × (has_logged d.state.purse.log result.1 ≡ true)

-- ---- options, tests and replies

pub not_some : {A X : Type 0} (x : X) → None ≡ Some x → A
not_some x e = clash false (ap is_some e) refl

pub cond_none : {X : Type 0} (b : Bool) (x : X) (y : Option X) → cond b (Some x) y ≡ None → (b ≡ false) × (y ≡ None)
cond_none true x y e = not_some x (sym e)
cond_none false x y e = (refl, e)

-- what is at a place is listed
read_listed : (ks : List Details) (k : ℕ) (e : Details) → slice_get ks k ≡ Some e → list_any (is_details e) ks ≡ true
read_listed [] k e h = not_some e h
read_listed (x ∷ xs) zero e h = ap (λ b. b || list_any (is_details e) xs) (ap (λ y. is_details e y) (inside x e h) ∙ details_itself e)
read_listed (x ∷ xs) (suc k) e h = either_true (is_details e x) _ (read_listed xs k e h)

removed_case : {X : Type 0} (b : Bool) (o : Option X) (x : X) → cond b None o ≡ Some x → o ≡ Some x
removed_case true o x h = not_some x h
removed_case false o x h = h

at_most : (n m : ℕ) → nat_lt n m ≡ false → m ≤ n
at_most n m h = grind arith

-- the reply to what changes nothing
pub idle_told : (P : Reply → Type 0) (before : Option ℕ) (amount : ℕ) (again : Reply) (refused : Option Refusal) (x : Reply) → idle before amount again refused ≡ Some x → (is_none before ≡ false → P again) → ((r : Refusal) → P (reply.Refused r)) → P x
idle_told P (Some n) amount again refused x e known each = subst P (inside _ x e) (told (n == amount))
  where
    told : (b : Bool) → P (cond b again (reply.Refused refusal.RefReused))
    told true = known refl
    told false = each refusal.RefReused
idle_told P None amount again (Some r) x e known each = subst P (inside _ x e) (each r)
idle_told P None amount again None x e known each = not_some x e

-- ---- the rules on the purse of a row

module _ (w : World) (p : Name) (r : Row) (at : fmap.get w.rows p ≡ Some r) (i : Invariant w) (asked : Command) where
  abbrev q : State
  q = r.holding.purse

  abbrev archived : Details → Bool
  archived = is_archived w p

  sound : IsSound q archived
  sound = i.sound p r at

  -- a rule that keeps the messages of the inbox, and the entries that lie in the tray
  pub turned_kept : (d : Deed Holding) (moves : Details → Bool) → Turns (seen w) archived moves q d.state.purse
      → ((k : ℕ) (m : Message) → fmap.get d.state.inbox k ≡ Some m → fmap.get r.holding.inbox k ≡ Some m)
      → ((e : Details) → in_tray w p e ≡ true → has_logged q.log e ≡ true → has_logged d.state.purse.log e ≡ true)
      → IsDone w p r (with_holding r d.state) asked d.reply
      → ((m : Name × Message) → d.sent ≡ Some m → IsTimely (seen (set_row w p (with_holding r d.state))) m.0 m.1)
      → ((result : Name × Details) → d.result ≡ Some result → (result.0 ≡ p) × (has_logged d.state.purse.log result.1 ≡ true)) → IsKept w p r asked d
  turned_kept d moves t inbox tray done sent read = record {
    invariant = turn_keeps w p r (with_holding r d.state) at i moves t (λ k m e. i.timely p r at k m (inbox k m e)) (λ e h. tray e h (i.tray p e h r at));
    step = turn_step w p r (with_holding r d.state) at i moves t;
    done = done;
    sent = sent;
    read = read;
  }

  -- a purse stays, and so do its redemptions
  pub same_kept : (d : Deed Holding) → d.state.purse ≡ q → ((k : ℕ) (m : Message) → fmap.get d.state.inbox k ≡ Some m → fmap.get r.holding.inbox k ≡ Some m) → d.state.redemptions ≡ r.holding.redemptions
      → d.sent ≡ None → d.result ≡ None → IsAct w asked d.reply Act.Ignore → IsKept w p r asked d
  same_kept d purse inbox redemptions sent result is =
      let t : Turns (seen w) archived none_moves q d.state.purse = subst (Turns (seen w) archived none_moves q) (sym purse) (still (seen w) archived q q.balance q.lines (omega arith) sound) in
      turned_kept d none_moves t inbox (λ e _ h. ap (λ n. has_logged n.log e) purse ∙ h)
      (Rests (λ e. turn_flow w p r (with_holding r d.state) at i none_moves t e refl) (ap (λ n. n.balance) purse) (ap (sum_values (λ n. n)) redemptions) is)
      (λ m h. not_some m (sym sent ∙ h)) (λ e h. not_some e (sym result ∙ h))

  pub told_kept : (x : Reply) → IsAct w asked x Act.Ignore → IsKept w p r asked (tell r.holding x)
  told_kept x is = same_kept _ refl (λ k m h. h) refl refl refl is

  -- an abort, after which the purse rests or waits for a new payment
  begun : (n : State) → n.log ≡ (aborted q).log → n.name ≡ q.name → ((k : ℕ) → nat_lt k q.next ≡ true → nat_lt k n.next ≡ true) → IsBegun q n n.status → Turns (seen w) archived none_moves q n
  begun n log name next = restarted (seen w) archived q n sound (record { name = name; next = next; marks = λ d. ap (λ l. has_logged l d || archived d) log })

  pub still_logged : (e : Details) → has_logged q.log e ≡ true → has_logged (aborted q).log e ≡ true
  still_logged e h = grows q.log e h q.status

  -- it sends nothing, and the money stays
  quiet_kept : (d : Deed Holding) → Turns (seen w) archived none_moves q d.state.purse → d.state.purse.log ≡ (aborted q).log → d.state.inbox ≡ r.holding.inbox → d.state.purse.balance ≡ q.balance → d.state.redemptions ≡ r.holding.redemptions
      → IsAct w asked d.reply Act.Ignore → d.sent ≡ None → ((result : Name × Details) → d.result ≡ Some result → (result.0 ≡ p) × (has_logged d.state.purse.log result.1 ≡ true)) → IsKept w p r asked d
  quiet_kept d t log inbox money redemptions is sent read = turned_kept d none_moves t (λ k m h. ap (λ x. fmap.get x k) (sym inbox) ∙ h) (λ e _ h. ap (λ l. has_logged l e) log ∙ still_logged e h)
      (Rests (λ e. turn_flow w p r (with_holding r d.state) at i none_moves t e refl) money (ap (sum_values (λ n. n)) redemptions) is) (λ m h. not_some m (sym sent ∙ h)) read

  at_rest : Turns (seen w) archived none_moves q (aborted q)
  at_rest = begun (aborted q) refl refl (λ k h. h) tt

  pub abort_kept : IsKept w p r asked (abort r.holding)
  unfolding abort
  abort_kept = quiet_kept _ at_rest refl refl refl refl refl refl (λ e h. not_some e h)

  -- what is read is an entry
  read_case : (o : Option Details) (result : Name × Details) (place : ℕ) → read_entry q place ≡ o → option_map (λ (d : Details). let x : Name × Details = (q.name, d) in x) o ≡ Some result
      → (result.0 ≡ p) × (has_logged (aborted q).log result.1 ≡ true)
  read_case None result place is h = not_some result h
  read_case (Some e) result place is h =
      let log : Entries = (aborted q).log in
      subst (λ (x : Name × Details). (x.0 ≡ p) × (has_logged log x.1 ≡ true)) (inside (q.name, e) result h)
      (i.named p r at, fmap.contains_key-keys log e ∙ read_listed (logged log) place e is)

  pub read_kept : (place : ℕ) → IsKept w p r asked (read_log place r.holding)
  unfolding read_log
  read_kept place = quiet_kept _ at_rest refl refl refl refl refl refl (λ result h. read_case (read_entry q place) result place refl h)

  discard_found : (k : ℕ) (o : Option Message) → IsKept w p r asked (on_found r.holding refusal.NoSuchMessage o (λ m. tell (record r.holding { inbox = fmap.remove r.holding.inbox k }) reply.Discarded))
  discard_found k None = told_kept _ refl
  discard_found k (Some x) = same_kept _ refl (λ j m h. removed_case _ _ m (sym (fmap.get-remove nat_cmp_total r.holding.inbox k j) ∙ h)) refl refl refl refl

  pub discard_kept : (k : ℕ) → IsKept w p r asked (discard k r.holding)
  unfolding discard
  discard_kept k = discard_found k (fmap.get r.holding.inbox k)

  -- ---- the starts

  -- a payment with the next number
  next_side : (peer : Name) (s : State) → s.next ≡ q.next + 1 → is_name q.name peer ≡ false → IsNew q s q.name peer q.next
  next_side peer s next differs = record { own = refl; other = λ same. names_differ q.name peer differs (sym same); past = ap (nat_lt q.next) next ∙ (grind arith); new = grind arith }

  later : (k : ℕ) → nat_lt k q.next ≡ true → nat_lt k (q.next + 1) ≡ true
  later k h = grind arith

  start_from_case : (peer : Name) (v k : ℕ) (o : Option StartRefusal) → start_from_refusal q peer v ≡ o
      → IsKept w p r asked (unless r.holding (option_map refusal_of_start o) (tell (with_aborted r.holding (started q (Epr (from_details q peer v k)))) (reply.Started (from_details q peer v k))))
  start_from_case peer v k (Some x) e = told_kept _ refl
  start_from_case peer v k None e =
      let names : (is_name q.name peer ≡ false) × _ = cond_none (is_name q.name peer) _ _ e in
      let enough : (nat_lt q.balance v ≡ false) × _ = cond_none (nat_lt q.balance v) _ _ names.1 in
      let n : State = started q (Epr (from_details q peer v k)) in
      quiet_kept _ (begun n refl refl later (next_side peer n refl names.0, at_most _ _ enough.0)) refl refl refl refl refl refl (λ c h. not_some c h)

  pub start_from_kept : (peer : Name) (v k : ℕ) → IsKept w p r asked (start_from peer v k r.holding)
  unfolding start_from
  start_from_kept peer v k = start_from_case peer v k (start_from_refusal q peer v) refl

  start_to_case : (peer : Name) (v k : ℕ) (o : Option StartRefusal) → start_to_refusal q peer ≡ o
      → IsKept w p r asked (unless r.holding (option_map refusal_of_start o) (record {
        state = with_aborted r.holding (started q (Epv (to_details q peer v k)));
        reply = reply.Started (to_details q peer v k);
        sent = Some (peer, message.Req (to_details q peer v k));
        result = None;
      }))
  start_to_case peer v k (Some x) e = told_kept _ refl
  start_to_case peer v k None e =
      let names : (is_name q.name peer ≡ false) × _ = cond_none (is_name q.name peer) _ _ e in
      let d : Details = to_details q peer v k in
      let n : State = started q (Epv d) in
      let s : Row = with_holding r (with_aborted r.holding n) in
      let t : Turns (seen w) archived none_moves q n = begun n refl refl later (next_side peer n refl names.0) in
      let due : (seen (set_row w p s)).due d ≡ true = side_of expects_val (set_row w p s) p s (get-inserted w.rows p s) d d.to (i.named p r at) ∙ ap (λ y. y || (has_logged n.log d || archived d)) (details_itself d) in
      turned_kept _ none_moves t (λ k m h. h) (λ e _ h. still_logged e h) (Rests (λ e. turn_flow w p r s at i none_moves t e refl) refl refl refl)
      (λ m h. subst (λ (y : Name × Message). IsTimely (seen (set_row w p s)) y.0 y.1) (inside (peer, message.Req d) m h) (inl due)) (λ c h. not_some c h)

  pub start_to_kept : (peer : Name) (v k : ℕ) → IsKept w p r asked (start_to peer v k r.holding)
  unfolding start_to
  start_to_kept peer v k = start_to_case peer v k (start_to_refusal q peer) refl

-- ---- a redemption

module _ (w : World) (p : Name) (r : Row) (at : fmap.get w.rows p ≡ Some r) (i : Invariant w) (amount : ℕ) (reference : Name) where
  abbrev redeeming : Command
  redeeming = Redeem p amount reference

  redeem_act : (before : Option ℕ) → fmap.get r.holding.redemptions reference ≡ before → (cond (is_none before) (Act.Redeem p amount) Act.Ignore) ≡ (cond (is_none (redemption_of w p reference)) (Act.Redeem p amount) Act.Ignore)
  redeem_act before is = ap (λ y. cond (is_none y) (Act.Redeem p amount) Act.Ignore) (sym (ap (from_row None (λ (x : Row). fmap.get x.holding.redemptions reference)) at ∙ is))

  redeem_guarded : (before : Option ℕ) (o : Option RedeemRefusal) → fmap.get r.holding.redemptions reference ≡ before → redeem_refusal r.holding.purse amount ≡ o
      → IsKept w p r redeeming (unless_told r.holding (idle before amount reply.Redeemed (option_map refusal_of_redeem o)) (tell (with_redemption r.holding (redeemed r.holding.purse amount) amount reference) reply.Redeemed))
  redeem_guarded (Some x) o is e = told_kept w p r at i redeeming _
      (idle_told (λ y. IsAct w redeeming y Act.Ignore) (Some x) amount reply.Redeemed (option_map refusal_of_redeem o) _ refl (λ _. redeem_act (Some x) is) (λ y. refl))
  redeem_guarded None (Some x) new e = told_kept w p r at i redeeming _ refl
  redeem_guarded None None new e =
      let n : State = redeemed r.holding.purse amount in
      let s : Row = with_holding r (with_redemption r.holding n amount reference) in
      let t : Turns (seen w) (is_archived w p) none_moves r.holding.purse n = begun w p r at i redeeming n refl refl (λ k h. h) tt in
      let sum : sum_values (λ n. n) (fmap.insert r.holding.redemptions reference amount) + number (fmap.get r.holding.redemptions reference) ≡ sum_values (λ n. n) r.holding.redemptions + amount = sum_values-insert names_total (λ n. n) r.holding.redemptions reference amount in
      let none : number (fmap.get r.holding.redemptions reference) ≡ 0 = ap number new in
      turned_kept w p r at i redeeming _ none_moves t (λ k m h. h) (λ c _ h. still_logged w p r at i redeeming c h)
      (Redeems amount (λ d. turn_flow w p r s at i none_moves t d refl) (at_most _ _ (cond_none (nat_lt r.holding.purse.balance amount) _ _ e).0) refl (omega (arith, sum, none)) (redeem_act None new))
      (λ m h. not_some m h) (λ c h. not_some c h)

  pub redeem_kept : IsKept w p r redeeming (redeem amount reference r.holding)
  unfolding redeem
  redeem_kept = redeem_guarded (fmap.get r.holding.redemptions reference) (redeem_refusal r.holding.purse amount) refl refl
