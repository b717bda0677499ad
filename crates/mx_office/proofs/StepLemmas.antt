-- A command that is a value keeps the conditions of a World.
use Rattle.std.proofs.Common.{◌≡◌, ℕ, ◌≤◌, cond, [], ◌∷◌, Option, Some, None, refl, sym, ◌∙◌, ap, subst, arith, is_some, option_map}
use Rattle.std.specs.Prelude.{◌==◌, IfSome}
use Rattle.std.proofs.lemmas.Bool.Decides.{nat_tests}
use Rattle.mx_pay.specs.Limits.{most_amount, most_number}
use Rattle.mx_pay.specs.Names.{is_name}
use Rattle.mx_pay.specs.Details.{Details, IsDetails}
use Rattle.mx_purse.specs.State.{State, IsPurse, details_of}
use Rattle.mx_purse.specs.declared.status.Status.{Status}
use Rattle.mx_purse.specs.declared.status.Status.TheVariants.{Epr, Epv}
use Rattle.mx_purse.specs.declared.message.Message.{Message}
use Rattle.mx_purse.specs.declared.message.Message.TheVariants.{Req, Clear}
use Rattle.mx_purse.specs.declared.refusals.StartRefusal.{StartRefusal}
use Rattle.mx_purse.specs.declared.refusals.StartRefusal.TheVariants.{SamePurse}
use Rattle.mx_purse.specs.declared.refusals.RedeemRefusal.{RedeemRefusal}
use Rattle.mx_purse.specs.Operations.{or_refused, unless_refused, pending, aborted, start_from_refusal, start_to_refusal, from_details, to_details, started, handled, after_message, sent_for, read_entry, redeem_refusal, redeemed}
use Rattle.mx_purse.proofs.OperationLemmas.{started_from_is, started_to_is, from_same, to_same}
use Rattle.mx_book.specs.declared.edits.Edit.TheVariants.{DropMessage}
use Rattle.mx_book.specs.declared.values.Caller.{Caller}
use Rattle.mx_book.specs.World.{World, Row, Holding, Name}
use Rattle.mx_book.specs.Conditions.{IsWorld}
use Rattle.mx_book.specs.Limits.{most_lines}
use Rattle.mx_book.specs.Reads.{from_row, own_purse, inbox_of, lines_of, message_of, redemption_of}
use Rattle.mx_book.proofs.Opening.{opening_is}
use Rattle.mx_book.proofs.KeepLemmas.{member_stays, holder_stays, new_purse_stays}
use Rattle.mx_book.proofs.PurseLemmas.{put_stays}
use Rattle.mx_book.proofs.ResultLemmas.{archived_stays}
use Rattle.mx_command.specs.declared.values.Command.{Command}
use Rattle.mx_command.specs.declared.values.Command.TheVariants.{Show, StartFrom, StartTo, Handle, Discard, Abort, ReadLog, Redeem, Inbox, Statement}
use Rattle.mx_office.specs.declared.values.Decided.{Decided}
use Rattle.mx_command.specs.declared.values.Refusal.TheVariants.{NoSuchMessage, RefReused}
use Rattle.mx_command.specs.declared.values.Reply.TheVariants as reply
use Rattle.mx_command.specs.Commands.{IsNamed, IsCommand}
use Rattle.mx_office.specs.Decides.{Decides, placed, purse_edits, not_kept, read_edits, redeem_edits}
use Rattle.mx_office.specs.Reachable.{IsReachable}
use Rattle.mx_office.specs.Step.{Deed, Asks, tell, unless, refusal_of_start, refusal_of_redeem, abort_line, message_line, with_aborted, show, start_from, start_to, handle, discard, abort, read_log, redeem, inbox, statement, asks, on_own, world_after, step}
use Rattle.mx_office.proofs.ArchiveLemmas.{clear_means, read_decides}
use Rattle.mx_office.proofs.AccountLemmas.{IsOwn, IsSent, is_own, own_there}
use Rattle.mx_office.proofs.CaseLemmas.{by_reachable}
use Rattle.mx_office.proofs.MoveCaseLemmas.{by_moves}
use Rattle.mx_office.proofs.CommandLemmas.{nothing, whole, purse_told, inbox_decides, statement_decides, no_message_decides, discard_decides, nothing_handled_decides, handle_decides, abort_decides, start_refused, start_decides, redeem_repeated, redeem_refuses, redeem_made}
use Rattle.mx_office.proofs.MoneyLemmas.{float_there, granted_stays, collected_stays, load_stays, settlement_stays}

-- what is done leaves a World
abbrev LeavesWorld : Deed World → Type 0
LeavesWorld to = IsWorld (world_after to)

-- what a decision leads to is one
decided : (w : World) (to : Deed World) (d : Decided) → Decides w to d → LeavesWorld to
decided w to d decides = subst IsWorld decides.leads decides.fits.end

-- ---- the commands of holders

-- a start, by its guards, its status and its details
start_world : (w : World) (h p : Name) (q : State) (f : Holding → Deed Holding) (o : Option StartRefusal) (status : Status) (details : Details) (sent : Details → Option (Name × Message))
    → ((a : Holding) → a.purse ≡ q → f a ≡ unless a (option_map refusal_of_start o) (record { state = with_aborted a (started q status); reply = reply.Started details; sent = sent details; result = None }))
    → (IfSome (details_of status) IsDetails → IsSent (sent details)) → IsWorld w → own_purse w h p ≡ Some q → (o ≡ None → IsPurse (started q status)) → LeavesWorld (on_own w h p f)
start_world w h p q f (Some r) status details sent f_is sent_is is e purse =
    decided w (on_own w h p f) (record { reply = reply.Refused (refusal_of_start r); edits = [] }) (start_refused w h p q f (Some r) status details sent f_is sent_is _ is e r refl refl refl)
start_world w h p q f None status details sent f_is sent_is is e purse =
    let now : State = started q status in
    decided w (on_own w h p f) (record { reply = reply.Started details; edits = purse_edits now (abort_line now (pending q.status)) (placed w (sent details)) })
    (start_decides w h p q f None status details sent f_is sent_is _ is e now details (purse refl) refl refl refl refl)

start_from_world : (w : World) (h p : Name) (q : State) (peer : Name) (value seq : ℕ) → IsNamed peer → value ≤ most_amount → seq ≤ most_number → IsWorld w → own_purse w h p ≡ Some q → LeavesWorld (on_own w h p (start_from peer value seq))
unfolding start_from
start_from_world w h p q peer value seq named small numbered is e =
    let d : Details = from_details q peer value seq in
    let old = whole w h p q is (is_own w h p q e) in
    start_world w h p q (start_from peer value seq) (start_from_refusal q peer value) (Epr d) d (λ _. None) (λ a at. rw at refl) (λ _. tt) is e
    (λ free. started_from_is q peer value seq old
    (record { from = old.name; to = named; value = small; from_seq = old.next; to_seq = numbered; apart = λ same. let refused : Some SamePurse ≡ None = sym (from_same q peer value same) ∙ free in cc }) free)

start_to_world : (w : World) (h p : Name) (q : State) (peer : Name) (value seq : ℕ) → IsNamed peer → value ≤ most_amount → seq ≤ most_number → IsWorld w → own_purse w h p ≡ Some q → LeavesWorld (on_own w h p (start_to peer value seq))
unfolding start_to
start_to_world w h p q peer value seq named small numbered is e =
    let d : Details = to_details q peer value seq in
    let old = whole w h p q is (is_own w h p q e) in
    start_world w h p q (start_to peer value seq) (start_to_refusal q peer) (Epv d) d (λ x. Some (peer, Req x)) (λ a at. rw at refl) (λ valid. (valid, λ _. tt)) is e
    (λ free. started_to_is q peer value seq old
    (record { from = named; to = old.name; value = small; from_seq = numbered; to_seq = old.next; apart = λ same. let refused : Some SamePurse ≡ None = sym (to_same q peer (sym same)) ∙ free in cc }) free)

handle_world : (w : World) (h p : Name) (n : ℕ) (q : State) (o : Option Message) → message_of w p n ≡ o → IsWorld w → own_purse w h p ≡ Some q → LeavesWorld (on_own w h p (handle n))
handle_world w h p n q None at is e = decided w (on_own w h p (handle n)) (record { reply = reply.Refused NoSuchMessage; edits = [] }) (nothing_handled_decides w h p n q _ is e at refl refl)
handle_world w h p n q (Some m) at is e =
    let x = handled q m in
    let after : State = after_message q x in
    decided w (on_own w h p (handle n)) (record { reply = reply.Handled x; edits = purse_edits after (message_line after (pending q.status) x) (placed w (sent_for x)) }) (handle_decides w h p n q after m x _ is e at refl refl refl refl)

discard_world : (w : World) (h p : Name) (n : ℕ) (q : State) (o : Option Message) → message_of w p n ≡ o → IsWorld w → own_purse w h p ≡ Some q → LeavesWorld (on_own w h p (discard n))
discard_world w h p n q None at is e = decided w (on_own w h p (discard n)) (record { reply = reply.Refused NoSuchMessage; edits = [] }) (no_message_decides w h p n _ is (ap is_some e) (ap is_some at) refl refl)
discard_world w h p n q (Some m) at is e = decided w (on_own w h p (discard n)) (record { reply = reply.Discarded; edits = DropMessage p n ∷ [] }) (discard_decides w h p n _ is (ap is_some e) (ap is_some at) refl refl)

redeem_world : (w : World) (h p : Name) (amount : ℕ) (reference : Name) (q : State) (before : Option ℕ) (o : Option RedeemRefusal) → redemption_of w p reference ≡ before → redeem_refusal q amount ≡ o
    → amount ≤ most_amount → IsNamed reference → IsWorld w → own_purse w h p ≡ Some q → LeavesWorld (on_own w h p (redeem amount reference))
redeem_world w h p amount reference q (Some before) o had guard small named is e =
    decided w (on_own w h p (redeem amount reference)) (record { reply = cond (before == amount) reply.Redeemed (reply.Refused RefReused); edits = [] }) (redeem_repeated w h p amount reference q _ is e before had refl refl)
redeem_world w h p amount reference q None (Some x) new guard small named is e =
    decided w (on_own w h p (redeem amount reference)) (record { reply = reply.Refused (refusal_of_redeem x); edits = [] }) (redeem_refuses w h p amount reference q _ is e x new (ap (λ o. or_refused o nothing) guard) refl refl)
redeem_world w h p amount reference q None None new free small named is e =
    let now : State = redeemed q amount in
    decided w (on_own w h p (redeem amount reference)) (record { reply = reply.Redeemed; edits = redeem_edits now (abort_line (aborted q) (pending q.status)) amount reference })
    (redeem_made w h p amount reference q _ is e (aborted q) now new named small (ap (λ o. or_refused o nothing) free) (sym (ap (λ o. unless_refused o q now) free)) refl refl refl)

show_world : (w : World) (h p : Name) (q : State) → IsWorld w → own_purse w h p ≡ Some q → LeavesWorld (on_own w h p show)
unfolding show
show_world w h p q is e = decided w (on_own w h p show) (record { reply = reply.Shown q; edits = [] }) (purse_told w h p q show (reply.Shown q) _ is e (λ a at. ap (λ x. tell a (reply.Shown x)) at) refl refl)

-- a rule that is asked of a purse
abbrev EachWorld : World → Name → Asks → Type 0
EachWorld w h (Asks.OnPurse p f) = (q : State) → own_purse w h p ≡ Some q → LeavesWorld (on_own w h p f)
EachWorld w h x = Unit {0}

each_world : (w : World) (h : Name) (c : Command) → IsCommand c → IsWorld w → EachWorld w h (asks c)
each_world w h (Show p) valid is = λ q e. show_world w h p q is e
each_world w h (StartFrom p peer value seq) valid is = λ q e. start_from_world w h p q peer value seq valid.1 valid.2 valid.3 is e
each_world w h (StartTo p peer value seq) valid is = λ q e. start_to_world w h p q peer value seq valid.1 valid.2 valid.3 is e
each_world w h (Handle p n) valid is = λ q e. handle_world w h p n q _ refl is e
each_world w h (Discard p n) valid is = λ q e. discard_world w h p n q _ refl is e
each_world w h (Abort p) valid is = λ q e.
    let now : State = aborted q in
    decided w (on_own w h p abort) (record { reply = reply.Aborted (is_some (pending q.status)); edits = purse_edits now (abort_line now (pending q.status)) None }) (abort_decides w h p q now _ is e refl refl refl)
each_world w h (ReadLog p place) valid is = λ q e.
    let entry = read_entry q place in
    let now : State = aborted q in
    decided w (on_own w h p (read_log place)) (record { reply = reply.Read entry; edits = read_edits now (abort_line now (pending q.status)) (not_kept w p entry) }) (read_decides w h p q place _ is e entry refl refl refl)
each_world w h (Redeem p amount reference) valid is = λ q e. redeem_world w h p amount reference q _ _ refl refl valid.1 valid.2 is e
each_world w h (Inbox p) valid is = λ q e. decided w (on_own w h p inbox) (record { reply = reply.Inbox (inbox_of w p); edits = [] }) (inbox_decides w h p _ is (ap is_some e) refl refl)
each_world w h (Statement p after) valid is = λ q e. decided w (on_own w h p (statement after)) (record { reply = reply.Statement (lines_of w p after most_lines); edits = [] }) (statement_decides w h p after _ is (ap is_some e) refl refl)
each_world w h c valid is = tt

-- ---- each command

-- a step by a value keeps the conditions of a World
step_world : (w : World) (caller : Caller) (c : Command) → IsCommand c → IsWorld w → IsWorld (step w caller c).world
unfolding step
step_world w caller c value is = by_moves w (λ _ c d. IsCommand c → LeavesWorld d) (record {
  told = λ caller c x told valid. is;
  member = λ m t none free valid. member_stays w m t (ap is_some none, ap is_some free) valid.0 valid.1 is;
  grant = λ m amount row at small room valid.
      let float = float_there w m row at in
      granted_stays w m amount row at (grind (arith, nat_tests, small)) (grind (arith, nat_tests, room, float)) is;
  holder = λ m h t row there none free valid. holder_stays w h m t (ap is_some none, ap is_some there, ap is_some free) valid.0 valid.1 is;
  purse = λ m p h there none few valid. new_purse_stays w p h (none, there) valid.0 (grind (arith, nat_tests, few)) is;
  load = λ m p amount reference l valid. load_stays w m p amount reference l is valid.2 valid.1;
  collect = λ m row at room valid. let float = float_there w m row at in collected_stays w m row at (grind (arith, nat_tests, room, float)) is;
  archive = λ p valid. archived_stays w p is;
  clear = λ p set may valid. put_stays w p (Clear set) valid.1 (clear_means w p set (grind (arith, may))) is;
  settle = λ d s valid. settlement_stays w d s is valid;
  own = λ h c p f r e at owned valid.
      let own : IsOwn w h p r.holding.purse = record { row = r; at = at; passes = owned; purse = refl } in
      let there : own_purse w h p ≡ Some r.holding.purse =
      ap (from_row None (λ (x : Row). cond (is_name h x.holder) (Some x.holding.purse) None)) at ∙ ap (λ b. cond b (Some r.holding.purse) None) owned in
      subst LeavesWorld (own_there w h p r.holding.purse own f) (subst (EachWorld w h) e (each_world w h c valid is) r.holding.purse there);
}) caller c value

-- a World that commands lead to meets the conditions of one
pub reachable_world : (w : World) → IsReachable w → IsWorld w
reachable_world = by_reachable IsWorld opening_is (λ w c asked is. step_world w c.0 c.1 asked.1 is)
