-- The operations of a purse (PRG-126: the operations on ConPurse, each with a case Okay, which its guard allows,
-- and a case in which nothing changes). Each is two functions of the purse before and the input: the first guard
-- that fails, and the purse and the output where none does. What is marked (own) is a choice of this office.
use Rattle.std.specs.Prelude.{ℕ, ◌+◌, ◌-◌, nat_lt, nat_le, ◌&&◌, ◌||◌, Bool, if◌then◌else◌, List, Option, Some, None, Result, Ok, Err}
use Rattle.mx_pay.specs.Limits.{most_number, most_entries}
use Rattle.mx_pay.specs.Names.{is_name}
use Rattle.mx_pay.specs.Details.{Details, is_details}
use Rattle.mx_pay.specs.Log.{Entries, entry_at, is_same_log, log_len, none_logged, with_entry}
use Rattle.mx_purse.specs.declared.status.Status.{Status}
use Rattle.mx_purse.specs.declared.status.Status.TheVariants.{EaFrom, EaTo, Epr, Epv, Epa}
use Rattle.mx_purse.specs.declared.message.Message.{Message}
use Rattle.mx_purse.specs.declared.message.Message.TheVariants.{Req, Val, Ack, Clear}
use Rattle.mx_purse.specs.declared.message.Handled.{Handled}
use Rattle.mx_purse.specs.declared.message.Handled.TheVariants as took
use Rattle.mx_purse.specs.declared.refusals.StartRefusal.{StartRefusal}
use Rattle.mx_purse.specs.declared.refusals.StartRefusal.TheVariants.{SamePurse, NotEnough, LogFull, Worn}
use Rattle.mx_purse.specs.declared.refusals.LoadRefusal.{LoadRefusal}
use Rattle.mx_purse.specs.declared.refusals.LoadRefusal.TheVariants as load
use Rattle.mx_purse.specs.declared.refusals.RedeemRefusal.{RedeemRefusal}
use Rattle.mx_purse.specs.declared.refusals.RedeemRefusal.TheVariants as redeem
use Rattle.mx_purse.specs.declared.refusals.CreditRefusal.{CreditRefusal}
use Rattle.mx_purse.specs.declared.refusals.CreditRefusal.TheVariants as credit
use Rattle.mx_purse.specs.State.{State}

-- ---- an answer and a purse, by the first guard that fails

-- the output where no guard fails, and else the refusal
abbrev pub or_refused : {A R : Type 0} → Option R → A → Result A R
or_refused None a = Ok a
or_refused (Some r) a = Err r

-- the purse after the operation where no guard fails, and else the purse before it
abbrev pub unless_refused : {R : Type 0} → Option R → State → State → State
unless_refused None old new = new
unless_refused (Some r) old new = old

-- ---- abort (AbortPurseOkay)

-- what an abort adds to the log: the payment under way in epv and in epa, and else nothing
-- (LogIfNecessary)
abbrev pub pending : Status → Option Details
pending (Epv d) = Some d
pending (Epa d) = Some d
pending _ = None

-- a log with what an abort adds
abbrev pub with_pending : Entries → Option Details → Entries
with_pending log None = log
with_pending log (Some d) = with_entry log d

-- a count of lines with one more where something is logged (own)
abbrev pub lines_with : ℕ → Option Details → ℕ
lines_with lines None = lines
lines_with lines (Some d) = lines + 1

-- the purse after an abort: what is pending is logged, and it is at rest; its next number stays (own)
abbrev pub aborted : State → State
aborted p = record p { status = EaFrom; log = with_pending p.log (pending p.status); lines = lines_with p.lines (pending p.status) }

-- ---- the starts (StartFromPurseOkay, StartToPurseOkay)

-- the guards that both starts have behind their own: the log that an abort leaves has fewer than 16 entries, and
-- the next number and the line count are below 10^15 (own)
abbrev pub start_worn : State → Option StartRefusal
start_worn p =
    if nat_le most_entries (log_len (aborted p).log) then Some LogFull else
    (if nat_le most_number p.next || nat_le most_number p.lines then Some Worn else None)

-- the first guard of startFrom that fails: the peer isn't the purse, and the value is at most the balance
abbrev pub start_from_refusal : State → List ℕ → ℕ → Option StartRefusal
start_from_refusal p peer value =
    if is_name p.name peer then Some SamePurse else (if nat_lt p.balance value then Some NotEnough else start_worn p)

-- the first guard of startTo that fails: the peer isn't the purse
abbrev pub start_to_refusal : State → List ℕ → Option StartRefusal
start_to_refusal p peer = if is_name p.name peer then Some SamePurse else start_worn p

-- the details of a payment to the peer, and of one from it; the purse's own number is its next one
abbrev pub from_details : State → List ℕ → ℕ → ℕ → Details
from_details p peer value seq = record { from = p.name; to = peer; value = value; from_seq = p.next; to_seq = seq }

abbrev pub to_details : State → List ℕ → ℕ → ℕ → Details
to_details p peer value seq = record { from = peer; to = p.name; value = value; from_seq = seq; to_seq = p.next }

-- the purse after an abort and a start: its next number rises by one (own), and it is in this status
abbrev pub started : State → Status → State
started p status = record (aborted p) { next = p.next + 1; status = status }

-- ---- req, val, ack and clear (ReqPurseOkay, ValPurseOkay, AckPurseOkay, ClearExceptionLogPurseOkay)

-- whether the purse is in epr with these details, and so for epv and epa
abbrev pub expects_req : Status → Details → Bool
expects_req (Epr e) d = is_details e d
expects_req _ d = Bool.false

abbrev pub expects_val : Status → Details → Bool
expects_val (Epv e) d = is_details e d
expects_val _ d = Bool.false

abbrev pub expects_ack : Status → Details → Bool
expects_ack (Epa e) d = is_details e d
expects_ack _ d = Bool.false

-- whether a set of details isn't empty, and is the log that an abort leaves (own)
abbrev pub expects_clear : State → Entries → Bool
expects_clear p set = nat_lt 0 (log_len set) && is_same_log set (aborted p).log

-- which message is accepted: one whose guard holds; another is ignored (own). A val has to leave the balance
-- within 10^15 (own)
abbrev pub handled : State → Message → Handled
handled p (Req d) = if expects_req p.status d then took.Req d else took.Ignored
handled p (Val d) = if expects_val p.status d && nat_le (p.balance + d.value) most_number then took.Val d else took.Ignored
handled p (Ack d) = if expects_ack p.status d then took.Ack d else took.Ignored
handled p (Clear set) = if expects_clear p set then took.Cleared else took.Ignored

-- the purse after a message: the balance falls by the value of a req and rises by that of a val, and each is one
-- line (own); after a val it is in eaTo (own); a clear aborts, and the log is empty
abbrev pub after_message : State → Handled → State
after_message p (took.Req d) = record p { balance = p.balance - d.value; status = Epa d; lines = p.lines + 1 }
after_message p (took.Val d) = record p { balance = p.balance + d.value; status = EaTo; lines = p.lines + 1 }
after_message p (took.Ack d) = record p { status = EaFrom }
after_message p took.Cleared = record (aborted p) { log = none_logged }
after_message p took.Ignored = p

-- what an accepted message sends, and to which purse: a val for a req, and an ack for a val
abbrev pub sent_for : Handled → Option (List ℕ × Message)
sent_for (took.Req d) = Some (d.to, Val d)
sent_for (took.Val d) = Some (d.from, Ack d)
sent_for _ = None

-- ---- read log (ReadExceptionLogPurseOkay)

-- what a purse reads after an abort: the details at a place of its log, counted from 0, in order (own)
abbrev pub read_entry : State → ℕ → Option Details
read_entry p place = entry_at (aborted p).log place

-- ---- loads and redemptions (own)

-- the first guard of load that fails: the line count is below 10^15, and the balance stays within 10^15
abbrev pub load_refusal : State → ℕ → Option LoadRefusal
load_refusal p amount = if nat_le most_number p.lines then Some load.Worn else (if nat_lt most_number (p.balance + amount) then Some load.OverCap else None)

-- the purse after a load: the balance rises, and there is one line more; it doesn't abort
abbrev pub loaded : State → ℕ → State
loaded p amount = record p { balance = p.balance + amount; lines = p.lines + 1 }

-- the first guard of redeem that fails: the amount is at most the balance, and the line count is below 10^15
abbrev pub redeem_refusal : State → ℕ → Option RedeemRefusal
redeem_refusal p amount = if nat_lt p.balance amount then Some redeem.NotEnough else (if nat_le most_number p.lines then Some redeem.Worn else None)

-- the purse after an abort and a redemption: the balance falls, and there is one line more
abbrev pub redeemed : State → ℕ → State
redeemed p amount = record (aborted p) { balance = p.balance - amount; lines = (aborted p).lines + 1 }

-- ---- credits (own): value that was lost comes back, as a load comes

-- the first guard of credit that fails: the line count is below 10^15, and the balance stays within 10^15
abbrev pub credit_refusal : State → ℕ → Option CreditRefusal
credit_refusal p amount = if nat_le most_number p.lines then Some credit.Worn else (if nat_lt most_number (p.balance + amount) then Some credit.OverCap else None)

-- the purse after a credit, as after a load: the balance rises, and there is one line more; it doesn't abort
abbrev pub credited : State → ℕ → State
credited = loaded
