-- A payment arrives: the World after each of its five commands.
use Rattle.std.proofs.Common.{◌≡◌, ℕ, ◌+◌, ◌≤◌, Bool, true, cond, ◌&&◌, List, ◌∷◌, refl, sym, ◌∙◌, ap, Option, Some, None, option_map, arith}
use Rattle.std.specs.Prelude.{◌≢◌, nat_le}
use Rattle.std.proofs.lemmas.Bool.Decides.{nat_tests}
use Rattle.std.specs.FinMap as fmap
use Rattle.mx_pay.specs.Limits.{most_number}
use Rattle.mx_pay.specs.Details.{Details, is_details}
use Rattle.mx_pay.proofs.SameLemmas.{details_itself, names_unlike}
use Rattle.mx_purse.specs.declared.message.Message.{Message}
use Rattle.mx_purse.specs.declared.message.Message.TheVariants as message
use Rattle.mx_purse.specs.declared.message.Handled.{Handled}
use Rattle.mx_purse.specs.declared.message.Handled.TheVariants as took
use Rattle.mx_purse.specs.declared.status.Status.{Status}
use Rattle.mx_purse.specs.declared.status.Status.TheVariants.{Epr, Epv}
use Rattle.mx_purse.specs.Operations.{pending, start_worn, from_details, to_details, started, handled, after_message, sent_for}
use Rattle.mx_purse.proofs.OperationLemmas.{from_rest, to_rest}
use Rattle.mx_book.specs.Limits.{most_messages}
use Rattle.mx_book.specs.declared.values.Caller.{Caller}
use Rattle.mx_book.specs.declared.values.Caller.TheVariants.{Holder}
use Rattle.mx_book.specs.World.{World, Row, Holding, Name, set_row, change_holding, has_room, delivered, put}
use Rattle.mx_book.proofs.NameLemmas.{names_total, names_exact, same_name, name_itself, get-inserted}
use Rattle.mx_book.proofs.PurseLemmas.{change_there, set_same}
use Rattle.mx_command.specs.Commands.{Asked}
use Rattle.mx_command.specs.declared.values.Command.{Command}
use Rattle.mx_command.specs.declared.values.Command.TheVariants.{StartFrom, StartTo, Handle}
use Rattle.mx_command.specs.declared.values.Reply.{Reply}
use Rattle.mx_command.specs.declared.values.Reply.TheVariants as reply
use Rattle.mx_command.specs.declared.values.Refusal.TheVariants.{NoSuchMessage}
use Rattle.mx_office.specs.Step.{Deed, Answered, Course, ends, unless, on_found, in_place, refusal_of_start, message_line, with_purse, with_aborted, start_from, start_to, handle_message, handle, on_own, put_sent, base, world_after, step, steps}
use Rattle.mx_office.specs.Reachable.{IsReachable}
use Rattle.mx_office.specs.Arrival.{name_of, IsReady, CanPay, payment_details, payment, receipts, Arrives}
use Rattle.mx_office.proofs.AccountLemmas.{IsOwn, own_there}
use Rattle.mx_office.proofs.CapLemmas.{reachable_fit}

-- ---- a command on a purse

-- a rule on a holder's own purse leads there
own_step : (v u : World) (p : Name) (r : Row) (command : Command) (f : Holding → Deed Holding) (a : Holding) (x : Reply) (sent : Option (Name × Message)) → fmap.get v.rows p ≡ Some r → base v (Holder r.holder) command ≡ on_own v r.holder p f
    → f r.holding ≡ record { state = a; reply = x; sent = sent; result = None } → put_sent (set_row v p (record r { holding = a })) sent ≡ u → step v (Holder r.holder) command ≡ record { world = u; reply = x }
unfolding step
own_step v u p r command f a x sent at asked does leads =
    let own : IsOwn v r.holder p r.holding.purse = record { row = r; at = at; passes = name_itself r.holder; purse = refl } in
    ap (λ (d : Deed World). let y : Answered = record { world = world_after d; reply = d.reply } in y)
    (asked ∙ own_there v r.holder p r.holding.purse own f ∙ ap (in_place (λ b. set_row v p (record r { holding = b }))) does)
    ∙ ap (λ z. let y : Answered = record { world = z; reply = x } in y) leads

-- commands in order lead there, and these are the replies
pub record LeadsTo (v : World) (cs : List Asked) (z : World) (xs : List (Caller × Reply)) : Type 0 where
  pub is : steps v cs ≡ ends z xs

pub and_then : {v u z : World} {caller : Caller} {command : Command} {x : Reply} {cs : List Asked} {xs : List (Caller × Reply)} → step v caller command ≡ record { world = u; reply = x } → LeadsTo u cs z xs → LeadsTo v ((caller, command) ∷ cs) z ((caller, x) ∷ xs)
and_then {caller = caller} {x = x} {cs = cs} first rest = record {
  is = ap (λ (y : Answered). let later = steps y.world cs in ends later.end ((caller, y.reply) ∷ later.replies)) first
      ∙ ap (λ (later : Course World (Caller × Reply)). ends later.end ((caller, x) ∷ later.replies)) rest.is;
}

-- ---- what a purse does

worn_case : {n : ℕ} (a : Holding) → IsReady a n → start_worn a.purse ≡ None
worn_case a ready = grind (arith, nat_tests)

-- what comes of a start that isn't refused
abbrev begun : Holding → Status → Details → Option (Name × Message) → Deed Holding
begun a s d sent = record { state = with_aborted a (started a.purse s); reply = reply.Started d; sent = sent; result = None }

starts_from : {n : ℕ} (a : Holding) (peer : Name) (value seq : ℕ) → a.purse.name ≢ peer → value ≤ a.purse.balance → IsReady a n → (let d = from_details a.purse peer value seq in start_from peer value seq a ≡ begun a (Epr d) d None)
unfolding start_from
starts_from a peer value seq apart covered ready =
    let d = from_details a.purse peer value seq in
    ap (λ o. unless a (option_map refusal_of_start o) (begun a (Epr d) d None)) (from_rest a.purse peer value apart covered ∙ worn_case a ready)

starts_to : {n : ℕ} (a : Holding) (peer : Name) (value seq : ℕ) → a.purse.name ≢ peer → IsReady a n → (let d = to_details a.purse peer value seq in start_to peer value seq a ≡ begun a (Epv d) d (Some (peer, message.Req d)))
unfolding start_to
starts_to a peer value seq apart ready =
    let d = to_details a.purse peer value seq in
    ap (λ o. unless a (option_map refusal_of_start o) (begun a (Epv d) d (Some (peer, message.Req d)))) (to_rest a.purse peer apart ∙ worn_case a ready)

-- what is the holder's own after a message that was handled so
abbrev after_handled : Holding → Handled → Holding
after_handled a h = let q = after_message a.purse h in with_purse a q (message_line q (pending a.purse.status) h)

-- the message that came last is handled so
handles : (a : Holding) (m : Message) (h : Handled) → handled a.purse m ≡ h → handle a.next_message (delivered a m) ≡ record { state = after_handled (delivered a m) h; reply = reply.Handled h; sent = sent_for h; result = None }
unfolding handle
handles a m h is =
    let at : fmap.get (delivered a m).inbox a.next_message ≡ Some m = grind (arith, fmap.gets) in
    ap (λ o. on_found (delivered a m) NoSuchMessage o (handle_message (delivered a m))) at
    ∙ ap (λ x. let d : Deed Holding = record { state = after_handled (delivered a m) x; reply = reply.Handled x; sent = sent_for x; result = None } in d) is

-- an inbox has room for a first message, and for a second one
first_room : (a : Holding) → fmap.len a.inbox + 1 ≤ most_messages → a.next_message + 1 ≤ most_number → has_room a ≡ true
unfolding has_room
first_room a places numbers = grind (arith, nat_tests)

second_room : (a b : Holding) (m : Message) → b.inbox ≡ fmap.insert a.inbox a.next_message m → b.next_message ≡ a.next_message + 1 → fmap.len a.inbox + 2 ≤ most_messages → a.next_message + 2 ≤ most_number → has_room b ≡ true
second_room a b m inbox next places numbers =
    let longer : fmap.len b.inbox ≤ fmap.len a.inbox + 1 = grind (arith, fmap.gets) in
    first_room b (omega arith) (omega arith)

-- ---- two purses of a World

module _ (w : World) (payer payee : Row) (value : ℕ) (can : CanPay w payer payee value) where
  abbrev p : Name
  p = name_of payer

  abbrev q : Name
  q = name_of payee

  -- the World with this as what is the holders' own of the two purses
  abbrev with_both : Holding → Holding → World
  with_both a b = set_row (set_row w p (record payer { holding = a })) q (record payee { holding = b })

  payer_in : (a b : Holding) → fmap.get (with_both a b).rows p ≡ Some (record payer { holding = a })
  payer_in a b = grind (arith, fmap.gets, names_total, names_unlike p q can.apart, name_itself p)

  payee_in : (a b : Holding) → fmap.get (with_both a b).rows q ≡ Some (record payee { holding = b })
  payee_in a b = get-inserted _ q _

  set_payer : (a b c : Holding) → set_row (with_both a b) p (record payer { holding = c }) ≡ with_both c b
  set_payer a b c = ap (λ rows. record w { rows = rows }) (fmap.same_map names_total names_exact _ _ (λ k. grind (arith, fmap.gets, names_total, same_name k p, same_name k q, can.apart)))

  set_payee : (a b c : Holding) → set_row (with_both a b) q (record payee { holding = c }) ≡ with_both a c
  set_payee a b c = ap (λ rows. record w { rows = rows }) (fmap.same_map names_total names_exact _ _ (λ k. grind (arith, fmap.gets, names_total)))

  put_payer : (a b : Holding) (m : Message) → has_room a ≡ true → put (with_both a b) p m ≡ with_both (delivered a m) b
  put_payer a b m room =
      change_there (with_both a b) p _ _ (payer_in a b)
      ∙ ap (λ t. set_row (with_both a b) p (record payer { holding = cond t (delivered a m) a })) room ∙ set_payer a b (delivered a m)

  put_payee : (a b : Holding) (m : Message) → has_room b ≡ true → put (with_both a b) q m ≡ with_both a (delivered b m)
  put_payee a b m room =
      change_there (with_both a b) q _ _ (payee_in a b)
      ∙ ap (λ t. set_row (with_both a b) q (record payee { holding = cond t (delivered b m) b })) room ∙ set_payee a b (delivered b m)

  -- a command of the payer's holder, and one of the payee's, which may send a message to the other purse
  by_payer : (a b c e : Holding) (command : Command) (f : Holding → Deed Holding) (x : Reply) (sent : Option (Name × Message)) → base (with_both a b) (Holder payer.holder) command ≡ on_own (with_both a b) payer.holder p f
      → f a ≡ record { state = c; reply = x; sent = sent; result = None } → put_sent (with_both c b) sent ≡ with_both c e → step (with_both a b) (Holder payer.holder) command ≡ record { world = with_both c e; reply = x }
  by_payer a b c e command f x sent asked does leads =
      own_step (with_both a b) (with_both c e) p (record payer { holding = a }) command f c x sent (payer_in a b) asked does (ap (λ v. put_sent v sent) (set_payer a b c) ∙ leads)

  by_payee : (a b c e : Holding) (command : Command) (f : Holding → Deed Holding) (x : Reply) (sent : Option (Name × Message)) → base (with_both a b) (Holder payee.holder) command ≡ on_own (with_both a b) payee.holder q f
      → f b ≡ record { state = c; reply = x; sent = sent; result = None } → put_sent (with_both a c) sent ≡ with_both e c → step (with_both a b) (Holder payee.holder) command ≡ record { world = with_both e c; reply = x }
  by_payee a b c e command f x sent asked does leads =
      own_step (with_both a b) (with_both e c) q (record payee { holding = b }) command f c x sent (payee_in a b) asked does (ap (λ v. put_sent v sent) (set_payee a b c) ∙ leads)

  -- the World before
  begins : w ≡ with_both payer.holding payee.holding
  begins = sym (ap (λ v. set_row v q payee) (set_same w p payer can.payer_there) ∙ set_same w q payee can.payee_there)

  changes : (a b : Holding) → change_holding (change_holding w p (λ _. a)) q (λ _. b) ≡ with_both a b
  changes a b =
      let v : World = set_row w p (record payer { holding = a }) in
      let at : fmap.get v.rows q ≡ Some payee = grind (arith, fmap.gets, names_total, same_name q p, can.apart, can.payee_there) in
      ap (λ u. change_holding u q (λ _. b)) (change_there w p _ payer can.payer_there) ∙ change_there v q _ payee at

  -- ---- the five commands

  abbrev d : Details
  d = payment_details payer payee value

  abbrev begun_from : Holding
  begun_from = with_aborted payer.holding (started payer.holding.purse (Epr d))

  abbrev begun_to : Holding
  begun_to = with_aborted payee.holding (started payee.holding.purse (Epv d))

  abbrev asked_for : Holding
  asked_for = delivered begun_from (message.Req d)

  abbrev paid : Holding
  paid = after_handled asked_for (took.Req d)

  abbrev sent_to : Holding
  sent_to = delivered begun_to (message.Val d)

  abbrev received : Holding
  received = after_handled sent_to (took.Val d)

  abbrev thanked : Holding
  thanked = delivered paid (message.Ack d)

  abbrev finished : Holding
  finished = after_handled thanked (took.Ack d)

  expected : (b : Bool) (h : Handled) → b ≡ true → cond b h took.Ignored ≡ h
  expected b h t = ap (λ x. cond x h took.Ignored) t

  fits : payee.holding.purse.balance + payer.holding.purse.balance ≤ most_number → (is_details d d && nat_le (payee.holding.purse.balance + value) most_number) ≡ true
  fits within =
      let covered : value ≤ payer.holding.purse.balance = can.covered in
      let room : nat_le (payee.holding.purse.balance + value) most_number ≡ true = grind (arith, nat_tests) in
      (λ i. details_itself d i && room i)

  starts : step w (Holder payer.holder) (StartFrom p q value payee.holding.purse.next) ≡ record { world = with_both begun_from payee.holding; reply = reply.Started d }
  starts = ap (λ v. step v (Holder payer.holder) (StartFrom p q value payee.holding.purse.next)) begins
      ∙ by_payer payer.holding payee.holding begun_from payee.holding _ (start_from q value payee.holding.purse.next) _ None refl (starts_from payer.holding q value payee.holding.purse.next can.apart can.covered can.payer_ready) refl

  asks_for : step (with_both begun_from payee.holding) (Holder payee.holder) (StartTo q p value payer.holding.purse.next) ≡ record { world = with_both asked_for begun_to; reply = reply.Started d }
  asks_for = by_payee begun_from payee.holding begun_to asked_for _ (start_to p value payer.holding.purse.next) _ (Some (p, message.Req d)) refl
      (starts_to payee.holding p value payer.holding.purse.next (λ e. can.apart (sym e)) can.payee_ready)
      (put_payer begun_from begun_to (message.Req d) (let places = can.payer_ready.places in let numbers = can.payer_ready.numbers in first_room begun_from (omega arith) (omega arith)))

  pays : step (with_both asked_for begun_to) (Holder payer.holder) (Handle p payer.holding.next_message) ≡ record { world = with_both paid sent_to; reply = reply.Handled (took.Req d) }
  pays = by_payer asked_for begun_to paid sent_to _ (handle payer.holding.next_message) _ (Some (q, message.Val d)) refl
      (handles begun_from (message.Req d) (took.Req d) (expected (is_details d d) _ (details_itself d)))
      (put_payee paid begun_to (message.Val d) (first_room begun_to can.payee_ready.places can.payee_ready.numbers))

  receives : IsReachable w → step (with_both paid sent_to) (Holder payee.holder) (Handle q payee.holding.next_message) ≡ record { world = with_both thanked received; reply = reply.Handled (took.Val d) }
  receives reachable = by_payee paid sent_to received thanked _ (handle payee.holding.next_message) _ (Some (p, message.Ack d)) refl
      (handles begun_to (message.Val d) (took.Val d) (expected _ _ (fits (reachable_fit w reachable q p payee payer can.payee_there can.payer_there (names_unlike p q can.apart)))))
      (put_payer paid received (message.Ack d) (second_room begun_from paid (message.Req d) refl refl can.payer_ready.places can.payer_ready.numbers))

  finishes : step (with_both thanked received) (Holder payer.holder) (Handle p (payer.holding.next_message + 1)) ≡ record { world = with_both finished received; reply = reply.Handled (took.Ack d) }
  finishes = by_payer thanked received finished received _ (handle (payer.holding.next_message + 1)) _ None refl
      (handles paid (message.Ack d) (took.Ack d) (expected (is_details d d) _ (details_itself d))) refl

  all_five : IsReachable w → LeadsTo w (payment payer payee value) (with_both finished received) (receipts payer payee d)
  all_five reachable = and_then starts (and_then asks_for (and_then pays (and_then (receives reachable) (and_then finishes (record { is = refl })))))

pub arrives : (w : World) (payer payee : Row) (value : ℕ) → IsReachable w → CanPay w payer payee value → Arrives w payer payee value
arrives w payer payee value reachable can =
    let covered : value ≤ payer.holding.purse.balance = can.covered in
    let all = (all_five w payer payee value can reachable).is in
    record {
      replies = ap (λ (c : Course World (Caller × Reply)). c.replies) all;
      payer_after = finished w payer payee value can;
      payee_after = received w payer payee value can;
      leads = ap (λ (c : Course World (Caller × Reply)). c.end) all ∙ sym (changes w payer payee value can _ _);
      less = omega arith;
      more = refl;
      payer_rests = refl;
      payee_rests = refl;
      payer_log = refl;
      payee_log = refl;
    }
