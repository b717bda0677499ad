-- A payment can arrive: the five commands of a payment move its value (PRG-126: StartFrom, StartTo, Req, Val, Ack).
use Rattle.std.specs.Prelude.{◌≡◌, ◌≢◌, ℕ, ◌+◌, ◌<◌, ◌≤◌, List, [], ◌∷◌, Some}
use Rattle.std.specs.FinMap as fmap
use Rattle.mx_pay.specs.Limits.{most_number, most_entries}
use Rattle.mx_pay.specs.Details.{Details}
use Rattle.mx_pay.specs.Log.{log_len}
use Rattle.mx_purse.specs.declared.status.Status.TheVariants.{EaFrom, EaTo}
use Rattle.mx_purse.specs.declared.message.Handled.TheVariants.{Req, Val, Ack}
use Rattle.mx_purse.specs.Operations.{aborted, from_details}
use Rattle.mx_book.specs.Limits.{most_messages}
use Rattle.mx_book.specs.declared.values.Caller.{Caller}
use Rattle.mx_book.specs.declared.values.Caller.TheVariants.{Holder}
use Rattle.mx_book.specs.World.{World, Row, Holding, Name, change_holding}
use Rattle.mx_command.specs.Commands.{Asked}
use Rattle.mx_command.specs.declared.values.Command.TheVariants.{StartFrom, StartTo, Handle}
use Rattle.mx_command.specs.declared.values.Reply.{Reply}
use Rattle.mx_command.specs.declared.values.Reply.TheVariants.{Started, Handled}
use Rattle.mx_office.specs.Step.{Course, steps}
use Rattle.mx_office.specs.Reachable.{IsReachable}

-- the name of the purse of a row, under which the row lies in a World
abbrev pub name_of : Row → Name
name_of r = r.holding.purse.name

-- ---- what a payment needs

-- a purse can start a payment, and its inbox takes so many messages more
pub record IsReady (a : Holding) (messages : ℕ) : Type 0 where
  -- a start aborts what the purse has under way; it is refused where the log that this leaves is full
  pub log : log_len (aborted a.purse).log < most_entries
  -- and where the purse is worn: its next number and its line count have come to their end
  pub next : a.purse.next < most_number
  pub lines : a.purse.lines < most_number
  -- a message vanishes where the inbox is full, and where its numbers have come to their end
  pub places : fmap.len a.inbox + messages ≤ most_messages
  pub numbers : a.next_message + messages ≤ most_number

-- the purse of one row can pay this value to the purse of another; that it fits the payee's balance is no premise: in a
-- World that commands lead to, all balances together are at most 10^15
pub record CanPay (w : World) (payer payee : Row) (value : ℕ) : Type 0 where
  -- a command on a purse that isn't there is refused
  pub payer_there : fmap.get w.rows (name_of payer) ≡ Some payer
  pub payee_there : fmap.get w.rows (name_of payee) ≡ Some payee
  -- a start refuses a payment of a purse to itself, and of more than the balance
  pub apart : name_of payer ≢ name_of payee
  pub covered : value ≤ payer.holding.purse.balance
  -- the payer gets the req and the ack, the payee the val
  pub payer_ready : IsReady payer.holding 2
  pub payee_ready : IsReady payee.holding 1

-- ---- the payment

-- its details: each purse has its next number for it
abbrev pub payment_details : Row → Row → ℕ → Details
payment_details payer payee value = from_details payer.holding.purse (name_of payee) value payee.holding.purse.next

-- its commands, with who asks: the holder of each purse starts it, and then lets the purse handle what comes next into
-- its inbox
abbrev pub payment : Row → Row → ℕ → List Asked
payment payer payee value =
    (Holder payer.holder, StartFrom (name_of payer) (name_of payee) value payee.holding.purse.next)
    ∷ (Holder payee.holder, StartTo (name_of payee) (name_of payer) value payer.holding.purse.next)
    ∷ (Holder payer.holder, Handle (name_of payer) payer.holding.next_message)
    ∷ (Holder payee.holder, Handle (name_of payee) payee.holding.next_message)
    ∷ (Holder payer.holder, Handle (name_of payer) (payer.holding.next_message + 1)) ∷ []

-- the replies to them: it is started on both sides, and its req, its val and its ack are accepted
abbrev pub receipts : Row → Row → Details → List (Caller × Reply)
receipts payer payee d =
    (Holder payer.holder, Started d)
    ∷ (Holder payee.holder, Started d)
    ∷ (Holder payer.holder, Handled (Req d))
    ∷ (Holder payee.holder, Handled (Val d))
    ∷ (Holder payer.holder, Handled (Ack d)) ∷ []

-- ---- what comes of it

-- the value has moved: what a course leaves is the World as it was, but for what is the holders' own of the two purses
pub record HasArrived (w : World) (payer payee : Row) (value : ℕ) (course : Course World (Caller × Reply)) : Type 0 where
  pub replies : course.replies ≡ receipts payer payee (payment_details payer payee value)
  pub payer_after : Holding
  pub payee_after : Holding
  pub leads : course.end ≡ change_holding (change_holding w (name_of payer) (λ _. payer_after)) (name_of payee) (λ _. payee_after)
  -- the payer has the value less, and the payee has it more
  pub less : payer_after.purse.balance + value ≡ payer.holding.purse.balance
  pub more : payee_after.purse.balance ≡ payee.holding.purse.balance + value
  -- both are at rest, so nothing of the payment is under way, and its messages, which stay until they are discarded, are
  -- ignored from now on
  pub payer_rests : payer_after.purse.status ≡ EaFrom
  pub payee_rests : payee_after.purse.status ≡ EaTo
  -- and neither has logged it, so nothing of it is lost
  pub payer_log : payer_after.purse.log ≡ (aborted payer.holding.purse).log
  pub payee_log : payee_after.purse.log ≡ (aborted payee.holding.purse).log

-- the commands of the payment make it arrive
abbrev pub Arrives : World → Row → Row → ℕ → Type 0
Arrives w payer payee value = HasArrived w payer payee value (steps w (payment payer payee value))

-- ---- that there is such a World

-- commands lead to a World in which a payment of this value can be made
pub record IsPossible (value : ℕ) : Type 0 where
  pub world : World
  pub payer : Row
  pub payee : Row
  pub reachable : IsReachable world
  pub can : CanPay world payer payee value
