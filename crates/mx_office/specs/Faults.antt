-- Why a command may be left undone: for want of memory where it takes some, and for what the book's reads may fail by.
use Rattle.std.specs.Prelude.{◌≡◌, ◌⊎◌, ◌&&◌, ◌||◌, nat_lt, not, Bool, IsTrue, is_none, is_some}
use Rattle.mx_pay.specs.Log.{log_len}
use Rattle.mx_book.specs.Reads.{finds_place, load_of, member_of, own_purse, redemption_of, tray_of}
use Rattle.mx_book.specs.World.{World}
use Rattle.mx_book.specs.declared.contract.StoreFault.{StoreFault}
use Rattle.mx_book.specs.declared.contract.StoreFault.TheVariants.{Memory}
use Rattle.mx_book.specs.declared.values.Caller.{Caller}
use Rattle.mx_book.specs.declared.values.Caller.TheVariants.{Operator, Holder}
use Rattle.mx_command.specs.declared.values.Command.{Command}
use Rattle.mx_command.specs.declared.values.Command.TheVariants.{Grant, Archive, Clear, Load, Purses, Show, Redeem, Inbox, Statement, Reconcile}
use Rattle.mx_command.specs.declared.values.Reply.{Reply}
use Rattle.mx_command.specs.declared.values.Reply.TheVariants as reply
use Rattle.mx_office.specs.Step.{step}

-- whether a command may read a list from the book, which takes memory
abbrev pub reads_list : Command → Bool
reads_list (Grant m amount) = Bool.true
reads_list Purses = Bool.true
reads_list (Inbox p) = Bool.true
reads_list (Statement p after) = Bool.true
reads_list command = Bool.false

-- whether a command only reads
abbrev pub is_read : Command → Bool
is_read Purses = Bool.true
is_read (Show p) = Bool.true
is_read (Inbox p) = Bool.true
is_read (Statement p after) = Bool.true
is_read Reconcile = Bool.true
is_read command = Bool.false

-- whether a command of a caller reads a list from the book: a grant to a member that is there, and what a holder asks of
-- the holder's own
abbrev pub lists : World → Caller → Command → Bool
lists w Operator (Grant m amount) = is_some (member_of w m)
lists w (Holder h) Purses = Bool.true
lists w (Holder h) (Inbox p) = is_some (own_purse w h p)
lists w (Holder h) (Statement p after) = is_some (own_purse w h p)
lists w caller command = Bool.false

-- whether a command that isn't refused makes edits: all do but those that only read, a load or a redemption under a
-- reference that was used, an archive of nothing, and a clear that finds no place
abbrev pub makes_edits : World → Command → Bool
makes_edits w (Load p amount reference) = is_none (load_of w p reference)
makes_edits w (Redeem p amount reference) = is_none (redemption_of w p reference)
makes_edits w (Archive p) = nat_lt 0 (log_len (tray_of w p))
makes_edits w (Clear p set) = finds_place w p
makes_edits w command = not (is_read command)

-- whether a reply is a refusal
abbrev pub is_refused : Reply → Bool
is_refused (reply.Refused r) = Bool.true
is_refused r = Bool.false

-- whether a command takes memory: it reads a list, or it makes edits and isn't refused
abbrev pub takes_memory : World → Caller → Command → Bool
takes_memory w caller command = lists w caller command || (not (is_refused (step w caller command).reply) && makes_edits w command)

-- why a call may fail that takes memory where this is so, over a book whose reads may fail so
abbrev pub FailsFor : (StoreFault → Type 0) → Bool → StoreFault → Type 0
FailsFor fails takes e = (IsTrue takes × (e ≡ Memory)) ⊎ fails e

-- why a decision on a command may fail, also in doubt
abbrev pub MayNotDecide : (StoreFault → Type 0) → Command → StoreFault → Type 0
MayNotDecide fails command = FailsFor fails (reads_list command)

-- why a command may fail in a World
abbrev pub MayFail : (StoreFault → Type 0) → World → Caller → Command → StoreFault → Type 0
MayFail fails w caller command = FailsFor fails (takes_memory w caller command)
