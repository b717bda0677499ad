-- What a command does to the World, and what is answered.
use Rattle.std.specs.Prelude.{ℕ, ◌+◌, ◌-◌, ◌==◌, ◌&&◌, ◌||◌, nat_lt, nat_le, unwrap_or, option_map, option_and_then, not, Bool, if◌then◌else◌, List, [], ◌∷◌, ◌++◌, length, Option, Some, None, is_some, is_none}
use Rattle.mx_pay.specs.Limits.{most_number}
use Rattle.mx_book.specs.Limits.{most_purses, most_lines}
use Rattle.std.specs.Option.{option_map_or}
use Rattle.std.specs.List.{list_all}
use Rattle.std.specs.FinMap as fmap
use Rattle.mx_pay.specs.Names.{is_name}
use Rattle.mx_pay.specs.Details.{Details}
use Rattle.mx_pay.specs.Log.{Entries, log_len, logged, with_entry}
use Rattle.mx_purse.specs.State.{State}
use Rattle.mx_purse.specs.declared.status.Status.TheVariants.{Epr, Epv}
use Rattle.mx_purse.specs.declared.message.Message.{Message}
use Rattle.mx_purse.specs.declared.message.Message.TheVariants as message
use Rattle.mx_purse.specs.declared.message.Handled.{Handled}
use Rattle.mx_purse.specs.declared.message.Handled.TheVariants as took
use Rattle.mx_purse.specs.declared.refusals.StartRefusal.{StartRefusal}
use Rattle.mx_purse.specs.declared.refusals.StartRefusal.TheVariants as start
use Rattle.mx_purse.specs.declared.refusals.LoadRefusal.{LoadRefusal}
use Rattle.mx_purse.specs.declared.refusals.LoadRefusal.TheVariants as no_load
use Rattle.mx_purse.specs.declared.refusals.RedeemRefusal.{RedeemRefusal}
use Rattle.mx_purse.specs.declared.refusals.RedeemRefusal.TheVariants as no_redeem
use Rattle.mx_purse.specs.declared.refusals.CreditRefusal.{CreditRefusal}
use Rattle.mx_purse.specs.declared.refusals.CreditRefusal.TheVariants as no_credit
use Rattle.mx_purse.specs.Operations.{pending, aborted, start_from_refusal, start_to_refusal, from_details, to_details, started, handled, after_message, sent_for, read_entry, load_refusal, loaded, redeem_refusal, redeemed, credit_refusal, credited}
use Rattle.mx_book.specs.declared.values.Caller.{Caller}
use Rattle.mx_book.specs.declared.values.Caller.TheVariants.{Operator, Clerk, Holder}
use Rattle.mx_book.specs.declared.values.Line.{Line}
use Rattle.mx_book.specs.declared.values.LineKind.{LineKind}
use Rattle.mx_book.specs.declared.values.LineKind.TheVariants as kind
use Rattle.mx_book.specs.declared.values.MemberRow.{MemberRow}
use Rattle.mx_book.specs.declared.values.Note.TheVariants as note
use Rattle.mx_book.specs.World.{World, Row, Holding, Name, Token, is_of, is_of_member, set_row, change_row, change_holding, all_collected, with_archived, new_row, put}
use Rattle.mx_book.specs.Conditions.{all_granted}
use Rattle.mx_book.specs.Reads.{who_of, purses_of, page, of_purse, is_archived, is_settled, tray_of, uncollected_of}
use Rattle.mx_book.specs.Totals.{totals_of}
use Rattle.mx_command.specs.Commands.{Asked}
use Rattle.mx_command.specs.declared.values.Command.{Command}
use Rattle.mx_command.specs.declared.values.Command.TheVariants.{NewMember, Grant, Archive, Clear, NewHolder, NewPurse, Load, Collect, Purses, Show, StartFrom, StartTo, Handle, Discard, Abort, ReadLog, Redeem, Inbox, Statement, Reconcile, Settle}
use Rattle.mx_command.specs.declared.values.Refusal.{Refusal}
use Rattle.mx_command.specs.declared.values.Refusal.TheVariants.{NotForCaller, NoSuchPurse, NoSuchHolder, NoSuchMember, NoSuchMessage, NameTaken, TokenTaken, TooManyPurses, SamePurse, NotEnough, LogFull, Worn, RefReused, FloatTooSmall, FloatFull, GrantTooLarge, OverCap, NotArchived, NotLost, AlreadySettled}
use Rattle.mx_command.specs.declared.values.Reply.{Reply}
use Rattle.mx_command.specs.declared.values.Reply.TheVariants as reply

-- ---- what a command comes to

-- what stands after it, the reply, a message that is sent, with the purse to which it is sent, and a result of read
-- log that is sent, with the purse whose log it is. What stands is a holder's own of one purse, or of each of the
-- holder's purses, or the World
pub record Deed (S : Type 0) : Type 0 where
  pub state : S
  pub reply : Reply
  pub sent : Option (Name × Message)
  pub result : Option (Name × Details)

-- nothing is sent
abbrev pub tell : {S : Type 0} → S → Reply → Deed S
tell s r = record { state = s; reply = r; sent = None; result = None }

-- nothing changes, and this is refused
abbrev pub refuse : {S : Type 0} → S → Refusal → Deed S
refuse s r = tell s (reply.Refused r)

-- this is done, unless there is a reply that changes nothing
abbrev pub unless_told : {S : Type 0} → S → Option Reply → Deed S → Deed S
unless_told s (Some r) d = tell s r
unless_told s None d = d

-- this is done, unless there is a refusal
abbrev pub unless : {S : Type 0} → S → Option Refusal → Deed S → Deed S
unless s refusal d = unless_told s (option_map reply.Refused refusal) d

-- the first refusal whose test holds
unfoldable pub first_refusal : List (Bool × Refusal) → Option Refusal
first_refusal [] = None
first_refusal (x ∷ xs) = if x.0 then Some x.1 else first_refusal xs

-- what is done with what is found, and a refusal where nothing is
abbrev pub on_found : {S X : Type 0} → S → Refusal → Option X → (X → Deed S) → Deed S
on_found s r None f = refuse s r
on_found s r (Some x) f = f x

-- the reply to a load or a redemption that changes nothing: where its reference was used before, the same reply
-- for the same amount, and else the refusal
abbrev pub idle : Option ℕ → ℕ → Reply → Option Refusal → Option Reply
idle (Some before) amount again refusal = Some (if before == amount then again else reply.Refused RefReused)
idle None amount again refusal = option_map reply.Refused refusal

-- ---- the lines of a purse

-- the line of a payment of these details in a purse that is now so
abbrev pub payment_line : State → LineKind → Details → Line
payment_line q k d = record { number = q.lines; kind = k; amount = d.value; balance = q.balance; note = note.Details d }

-- the line of a load or a redemption in a purse that is now so
abbrev pub money_line : State → LineKind → ℕ → Name → Line
money_line q k amount reference = record { number = q.lines; kind = k; amount = amount; balance = q.balance; note = note.Reference reference }

-- the line of an abort, which tells what is logged, where something is
abbrev pub abort_line : State → Option Details → Option Line
abort_line q None = None
abort_line q (Some d) = Some (payment_line q kind.Logged d)

-- the line of an accepted message: a req is sent, and a val is received; a clear has the line of its abort
abbrev pub message_line : State → Option Details → Handled → Option Line
message_line q logged (took.Req d) = Some (payment_line q kind.Sent d)
message_line q logged (took.Val d) = Some (payment_line q kind.Received d)
message_line q logged took.Cleared = abort_line q logged
message_line q logged _ = None

-- a value that may be there, as a list
abbrev pub listed : {X : Type 0} → Option X → List X
listed None = []
listed (Some x) = x ∷ []

-- a holding with the purse as it is now, and its new line, where there is one
abbrev pub with_purse : Holding → State → Option Line → Holding
with_purse a q line = record a { purse = q; lines = a.lines ++ listed line }

-- a holding with the purse as it is after an abort or a start, and the line of the abort
abbrev pub with_aborted : Holding → State → Holding
with_aborted a q = with_purse a q (abort_line q (pending a.purse.status))

-- ---- the rules on a purse: what a holder's command does to what is the holder's own of it

-- the refusal of a start, as the office names it, and so those of a load, of a redemption and of a credit
abbrev pub refusal_of_start : StartRefusal → Refusal
refusal_of_start start.SamePurse = SamePurse
refusal_of_start start.NotEnough = NotEnough
refusal_of_start start.LogFull = LogFull
refusal_of_start start.Worn = Worn

abbrev pub refusal_of_load : LoadRefusal → Refusal
refusal_of_load no_load.Worn = Worn
refusal_of_load no_load.OverCap = OverCap

abbrev pub refusal_of_redeem : RedeemRefusal → Refusal
refusal_of_redeem no_redeem.NotEnough = NotEnough
refusal_of_redeem no_redeem.Worn = Worn

abbrev pub refusal_of_credit : CreditRefusal → Refusal
refusal_of_credit no_credit.Worn = Worn
refusal_of_credit no_credit.OverCap = OverCap

-- show: the purse
unfoldable pub show : Holding → Deed Holding
show a = tell a (reply.Shown a.purse)

-- start-from: startFrom, which sends nothing
unfoldable pub start_from : Name → ℕ → ℕ → Holding → Deed Holding
start_from peer value seq a =
    let d = from_details a.purse peer value seq in
    unless a (option_map refusal_of_start (start_from_refusal a.purse peer value)) (tell (with_aborted a (started a.purse (Epr d))) (reply.Started d))

-- start-to: startTo, which sends a req to the peer
unfoldable pub start_to : Name → ℕ → ℕ → Holding → Deed Holding
start_to peer value seq a =
    let d = to_details a.purse peer value seq in
    unless a (option_map refusal_of_start (start_to_refusal a.purse peer))
    (record { state = with_aborted a (started a.purse (Epv d)); reply = reply.Started d; sent = Some (peer, message.Req d); result = None })

-- handle: the message of that number, which stays where it is
abbrev pub handle_message : Holding → Message → Deed Holding
handle_message a m =
    let h = handled a.purse m in
    let q = after_message a.purse h in
    record { state = with_purse a q (message_line q (pending a.purse.status) h); reply = reply.Handled h; sent = sent_for h; result = None }

unfoldable pub handle : ℕ → Holding → Deed Holding
handle number a = on_found a NoSuchMessage (fmap.get a.inbox number) (handle_message a)

-- discard: the message of that number is gone
unfoldable pub discard : ℕ → Holding → Deed Holding
discard number a = on_found a NoSuchMessage (fmap.get a.inbox number) (λ m. tell (record a { inbox = fmap.remove a.inbox number }) reply.Discarded)

-- abort, and whether something was logged
unfoldable pub abort : Holding → Deed Holding
abort a = tell (with_aborted a (aborted a.purse)) (reply.Aborted (is_some (pending a.purse.status)))

-- read-log: readLog, whose result is sent to the archive
unfoldable pub read_log : ℕ → Holding → Deed Holding
read_log place a =
    let entry = read_entry a.purse place in
    record { state = with_aborted a (aborted a.purse); reply = reply.Read entry; sent = None; result = option_map (λ d. (a.purse.name, d)) entry }

-- a holding with a redemption: the purse as it is now, the line of its abort and its own, and the reference
abbrev pub with_redemption : Holding → State → ℕ → Name → Holding
with_redemption a q amount reference = record a {
  purse = q;
  lines = a.lines ++ (listed (abort_line (aborted a.purse) (pending a.purse.status)) ++ money_line q kind.Redeemed amount reference ∷ []);
  redemptions = fmap.insert a.redemptions reference amount;
}

-- redeem: redeem, unless a redemption has that reference
unfoldable pub redeem : ℕ → Name → Holding → Deed Holding
redeem amount reference a =
    unless_told a (idle (fmap.get a.redemptions reference) amount reply.Redeemed (option_map refusal_of_redeem (redeem_refusal a.purse amount)))
    (tell (with_redemption a (redeemed a.purse amount) amount reference) reply.Redeemed)

-- inbox: the messages, by number
unfoldable pub inbox : Holding → Deed Holding
inbox a = tell a (reply.Inbox (fmap.entries a.inbox))

-- statement: the first 50 lines that are numbered above a number
unfoldable pub statement : ℕ → Holding → Deed Holding
statement after a = tell a (reply.Statement (page after most_lines a.lines))

-- ---- the holder's commands

-- what a command asks: the names of the holder's purses, a rule on one of them, or what no holder may
pub data Asks : Type 0 where
  Names : Asks
  OnPurse : Name → (Holding → Deed Holding) → Asks
  NotAHolders : Asks

-- the table of the holder's commands
abbrev pub asks : Command → Asks
asks Purses = Asks.Names
asks (Show p) = Asks.OnPurse p show
asks (StartFrom p peer value seq) = Asks.OnPurse p (start_from peer value seq)
asks (StartTo p peer value seq) = Asks.OnPurse p (start_to peer value seq)
asks (Handle p number) = Asks.OnPurse p (handle number)
asks (Discard p number) = Asks.OnPurse p (discard number)
asks (Abort p) = Asks.OnPurse p abort
asks (ReadLog p place) = Asks.OnPurse p (read_log place)
asks (Redeem p amount reference) = Asks.OnPurse p (redeem amount reference)
asks (Inbox p) = Asks.OnPurse p inbox
asks (Statement p after) = Asks.OnPurse p (statement after)
asks command = Asks.NotAHolders

-- what is the holder's own of a row, and of the purse of that name, where it is the holder's
abbrev pub holding_for : Name → Row → Option Holding
holding_for h r = if is_name h r.holder then Some r.holding else None

abbrev pub own_holding : World → Name → Name → Option Holding
own_holding w h p = option_and_then (holding_for h) (fmap.get w.rows p)

-- a deed on one holding, where what it leaves is put in its place
abbrev pub in_place : {S : Type 0} → (Holding → S) → Deed Holding → Deed S
in_place set d = record { state = set d.state; reply = d.reply; sent = d.sent; result = d.result }

-- a rule on a purse of the holder; another's purse and a purse that isn't there are refused alike
abbrev pub on_own : World → Name → Name → (Holding → Deed Holding) → Deed World
on_own w h p f = on_found w NoSuchPurse (own_holding w h p) (λ a. in_place (λ b. change_holding w p (λ _. b)) (f a))

-- what is asked by the holder, done to the World
abbrev pub on_world : World → Name → Asks → Deed World
on_world w h Asks.Names = tell w (reply.Purses (purses_of w h))
on_world w h (Asks.OnPurse p f) = on_own w h p f
on_world w h Asks.NotAHolders = refuse w NotForCaller

-- ---- the commands of the operator and of clerks

-- new member, by the operator
abbrev pub new_member_refusal : World → Name → Token → Option Refusal
new_member_refusal w m t = first_refusal ((is_some (fmap.get w.members m), NameTaken) ∷ (is_some (who_of w t), TokenTaken) ∷ [])

abbrev pub new_member : World → Name → Token → Deed World
new_member w m t =
    unless w (new_member_refusal w m t)
    (tell (record w { members = fmap.insert w.members m (record { granted = 0; float = 0 }); tokens = fmap.insert w.tokens t (Clerk m) }) reply.Added)

-- new holder, by the clerk of m
abbrev pub new_holder_refusal : World → Name → Name → Token → Option Refusal
new_holder_refusal w m h t =
    first_refusal (
    (is_none (fmap.get w.members m), NoSuchMember)
    ∷ (is_some (fmap.get w.holders h), NameTaken)
    ∷ (is_some (who_of w t), TokenTaken) ∷ [])

abbrev pub new_holder : World → Name → Name → Token → Deed World
new_holder w m h t =
    unless w (new_holder_refusal w m h t)
    (tell (record w { holders = fmap.insert w.holders h m; tokens = fmap.insert w.tokens t (Holder h) }) reply.Added)

-- new purse, by the clerk of m; a holder of another member is refused as one that isn't there
abbrev pub new_purse_refusal : World → Name → Name → Name → Option Refusal
new_purse_refusal w m p h =
    first_refusal (
    (not (is_of m (fmap.get w.holders h)), NoSuchHolder)
    ∷ (is_some (fmap.get w.rows p), NameTaken)
    ∷ (nat_le most_purses (length (purses_of w h)), TooManyPurses) ∷ [])

abbrev pub new_purse : World → Name → Name → Name → Deed World
new_purse w m p h = unless w (new_purse_refusal w m p h) (tell (set_row w p (new_row h p)) reply.Added)

-- what is left to the member for loads
abbrev pub float_of : World → Name → ℕ
float_of w m = unwrap_or (option_map (λ (row : MemberRow). row.float) (fmap.get w.members m)) 0

-- the row of a member who is there is changed
abbrev pub change_member : World → Name → (MemberRow → MemberRow) → World
change_member w m f = option_map_or (λ row. record w { members = fmap.insert w.members m (f row) }) (fmap.get w.members m) w

-- grant, by the operator: grants and float rise
abbrev pub grant_refusal : World → Name → ℕ → Option Refusal
grant_refusal w m amount =
    first_refusal (
    (is_none (fmap.get w.members m), NoSuchMember)
    ∷ (nat_lt most_number (all_granted w + amount), GrantTooLarge)
    ∷ (nat_lt most_number (float_of w m + amount), FloatFull) ∷ [])

abbrev pub grant : World → Name → ℕ → Deed World
grant w m amount = unless w (grant_refusal w m amount) (tell (change_member w m (λ row. record { granted = row.granted + amount; float = row.float + amount })) reply.Granted)

-- what is the holder's own of a purse after a load, with its line; where the purse's guard fails it stays
unfoldable pub loaded_holding : Holding → ℕ → Name → Holding
loaded_holding a amount reference =
    let q = loaded a.purse amount in
    if is_none (load_refusal a.purse amount) then with_purse a q (Some (money_line q kind.Loaded amount reference)) else a

-- a row after a load
abbrev pub loaded_row : ℕ → Name → Row → Row
loaded_row amount reference r = record r { holding = loaded_holding r.holding amount reference; loads = fmap.insert r.loads reference amount }

-- the refusal of a load under a new reference: the float covers the amount, and then the purse's own guards
abbrev pub new_load_refusal : MemberRow → Row → ℕ → Option Refusal
new_load_refusal member r amount = if nat_lt member.float amount then Some FloatTooSmall else option_map refusal_of_load (load_refusal r.holding.purse amount)

-- the reply to a load by the clerk of m that changes nothing
abbrev pub idle_load_at : World → Name → ℕ → Name → Option Row → Option MemberRow → Option Reply
idle_load_at w m amount reference (Some r) (Some member) =
    if is_of_member w m r then idle (fmap.get r.loads reference) amount reply.Loaded (new_load_refusal member r amount) else Some (reply.Refused NoSuchPurse)
idle_load_at w m amount reference _ _ = Some (reply.Refused NoSuchPurse)

unfoldable pub idle_load : World → Name → Name → ℕ → Name → Option Reply
idle_load w m p amount reference = idle_load_at w m amount reference (fmap.get w.rows p) (fmap.get w.members m)

-- load, by the clerk of m: the purse is loaded, and the float falls
abbrev pub loaded_world : World → Name → Name → ℕ → Name → World
loaded_world w m p amount reference = change_member (change_row w p (loaded_row amount reference)) m (λ row. record row { float = row.float - amount })

abbrev pub load_purse : World → Name → Name → ℕ → Name → Deed World
load_purse w m p amount reference = unless_told w (idle_load w m p amount reference) (tell (loaded_world w m p amount reference) reply.Loaded)

-- collect, by the clerk of m: the float rises by what isn't collected, which is then
abbrev pub collect_refusal : World → Name → Option Refusal
collect_refusal w m = first_refusal ((is_none (fmap.get w.members m), NoSuchMember) ∷ (nat_lt most_number (float_of w m + uncollected_of w m), FloatFull) ∷ [])

abbrev pub collect : World → Name → Deed World
collect w m = unless w (collect_refusal w m) (tell (change_member (all_collected w m) m (λ row. record row { float = row.float + uncollected_of w m })) (reply.Collected (uncollected_of w m)))

-- archive, by the operator: what lies in the tray of a purse goes to the archive
abbrev pub archive_refusal : World → Name → Option Refusal
archive_refusal w p = first_refusal ((is_none (fmap.get w.rows p), NoSuchPurse) ∷ [])

abbrev pub archive : World → Name → Deed World
archive w p = unless w (archive_refusal w p) (tell (with_archived w p) (reply.Archived (log_len (tray_of w p))))

-- whether a set of details may be cleared from the log of a purse: it isn't empty, and each of them is archived
unfoldable pub may_clear : World → Name → Entries → Bool
may_clear w p set = nat_lt 0 (log_len set) && list_all (is_archived w p) (logged set)

-- clear, by the operator: a message that clears the log of a purse is sent
abbrev pub clear_refusal : World → Name → Entries → Option Refusal
clear_refusal w p set = first_refusal ((is_none (fmap.get w.rows p), NoSuchPurse) ∷ (not (may_clear w p set), NotArchived) ∷ [])

abbrev pub clear : World → Name → Entries → Deed World
clear w p set = unless w (clear_refusal w p set) (record { state = w; reply = reply.Sent; sent = Some (p, message.Clear set); result = None })

-- what is the holder's own of a purse after a settlement, with its line; where the purse's guard fails it stays
unfoldable pub settled_holding : Holding → Details → Holding
settled_holding a d =
    let q = credited a.purse d.value in
    if is_none (credit_refusal a.purse d.value) then with_purse a q (Some (payment_line q kind.Settled d)) else a

-- a row after a settlement
abbrev pub settled_row : Details → Row → Row
settled_row d r = record r { holding = settled_holding r.holding d }

-- whether details are archived for both of their purses
abbrev pub is_archived_for_both : World → Details → Bool
is_archived_for_both w d = is_archived w d.from d && is_archived w d.to d

-- settle, by the operator: the lost value of details that are archived for both purses comes back to the from purse, once
unfoldable pub settle_refusal : World → Details → Option Refusal
settle_refusal w d =
    if is_settled w d then Some AlreadySettled else
    (if is_archived_for_both w d
    then of_purse (Some NotLost) (λ r. option_map refusal_of_credit (credit_refusal r.holding.purse d.value)) w d.from
    else Some NotLost)

-- a World in which details are settled
abbrev pub with_settled : World → Details → World
with_settled w d = record w { settled = with_entry w.settled d }

abbrev pub settle : World → Details → Deed World
settle w d = unless w (settle_refusal w d) (tell (with_settled (change_row w d.from (settled_row d)) d) reply.Settled)

-- reconcile, by the operator: the sums of the whole scheme
abbrev pub reconcile : World → Deed World
reconcile w = tell w (reply.Reconciled (totals_of w))

-- ---- the step

-- each command of each caller, before what it sends is put; a command of another class is refused
abbrev pub base : World → Caller → Command → Deed World
base w Operator (NewMember m t) = new_member w m t
base w Operator (Grant m amount) = grant w m amount
base w Operator (Archive p) = archive w p
base w Operator (Clear p set) = clear w p set
base w Operator Reconcile = reconcile w
base w Operator (Settle d) = settle w d
base w (Clerk m) (NewHolder h t) = new_holder w m h t
base w (Clerk m) (NewPurse p h) = new_purse w m p h
base w (Clerk m) (Load p amount reference) = load_purse w m p amount reference
base w (Clerk m) Collect = collect w m
base w (Holder h) command = on_world w h (asks command)
base w caller command = refuse w NotForCaller

-- a World with a message that was sent, where one was
abbrev pub put_sent : World → Option (Name × Message) → World
put_sent w None = w
put_sent w (Some m) = put w m.0 m.1

-- whether a result of read log of a purse lies in the tray or is archived
abbrev pub is_kept : World → Name × Details → Bool
is_kept w result = fmap.contains_key w.tray result || fmap.contains_key w.archive result

-- a World with a result that was sent, where one was: it lies in the tray, unless it lies there or is archived
abbrev pub with_result : World → Option (Name × Details) → World
with_result w None = w
with_result w (Some result) = if is_kept w result then w else record w { tray = fmap.insert w.tray result tt }

-- what stands after a deed, with what it sends
abbrev pub world_after : Deed World → World
world_after d = with_result (put_sent d.state d.sent) d.result

-- the World after a command of a caller, and the reply
pub record Answered : Type 0 where
  pub world : World
  pub reply : Reply

unfoldable pub step : World → Caller → Command → Answered
step w caller command = let d = base w caller command in record { world = world_after d; reply = d.reply }

-- ---- one after another

-- what stands at the end, and the replies, in order
pub record Course (S R : Type 0) : Type 0 where
  pub end : S
  pub replies : List R

abbrev pub ends : {S R : Type 0} → S → List R → Course S R
ends s rs = record { end = s; replies = rs }

-- what comes of each of a list in order, from what stands before it
abbrev pub course : {S X R : Type 0} → (S → X → Course S R) → S → List X → Course S R
course f s [] = ends s []
course f s (x ∷ xs) = let rest = course f (f s x).end xs in ends rest.end ((f s x).replies ++ rest.replies)

-- the World after one command, and after commands in order, with the replies, each with the caller to whom it is
-- given
abbrev pub one_step : World → Asked → Course World (Caller × Reply)
one_step w c = let now = step w c.0 c.1 in ends now.world ((c.0, now.reply) ∷ [])

abbrev pub steps : World → List Asked → Course World (Caller × Reply)
steps = course one_step
