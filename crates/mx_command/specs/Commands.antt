-- Callers and commands that are values.
use Rattle.std.specs.Prelude.{◌≤◌, IsTrue}
use Rattle.mx_pay.specs.Limits.{most_amount, most_number}
use Rattle.mx_pay.specs.Names.{is_name_text}
use Rattle.mx_pay.specs.Tokens.{IsToken}
use Rattle.mx_pay.specs.Details.{IsDetails}
use Rattle.mx_pay.specs.Log.{IsLogValue}
use Rattle.mx_book.specs.declared.values.Caller.{Caller}
use Rattle.mx_book.specs.declared.values.Caller.TheVariants.{Operator, Clerk, Holder}
use Rattle.mx_book.specs.World.{Name}
use Rattle.mx_command.specs.declared.values.Command.{Command}
use Rattle.mx_command.specs.declared.values.Command.TheVariants.{NewMember, Grant, Archive, Clear, NewHolder, NewPurse, Load, Collect, Purses, Show, StartFrom, StartTo, Handle, Discard, Abort, ReadLog, Redeem, Inbox, Statement, Reconcile, Settle}

-- a name has the text of one
abbrev pub IsNamed : Name → Type 0
IsNamed name = IsTrue (is_name_text name)

-- the name of a caller is one
abbrev pub IsCaller : Caller → Type 0
IsCaller Operator = Unit {0}
IsCaller (Clerk member) = IsNamed member
IsCaller (Holder holder) = IsNamed holder

-- the names of a command are names, its amount and its number are within their limits, its token has its bytes, and
-- its details are those of a log or of a payment
abbrev pub IsCommand : Command → Type 0
IsCommand (NewMember member token) = IsNamed member × IsToken token
IsCommand (Grant member amount) = IsNamed member × (amount ≤ most_amount)
IsCommand (Archive purse) = IsNamed purse
IsCommand (Clear purse set) = IsNamed purse × IsLogValue set
IsCommand (NewHolder holder token) = IsNamed holder × IsToken token
IsCommand (NewPurse purse holder) = IsNamed purse × IsNamed holder
IsCommand (Load purse amount reference) = IsNamed purse × (amount ≤ most_amount) × IsNamed reference
IsCommand Collect = Unit {0}
IsCommand Purses = Unit {0}
IsCommand (Show purse) = IsNamed purse
IsCommand (StartFrom purse peer value seq) = IsNamed purse × IsNamed peer × (value ≤ most_amount) × (seq ≤ most_number)
IsCommand (StartTo purse peer value seq) = IsNamed purse × IsNamed peer × (value ≤ most_amount) × (seq ≤ most_number)
IsCommand (Handle purse number) = IsNamed purse × (number ≤ most_number)
IsCommand (Discard purse number) = IsNamed purse × (number ≤ most_number)
IsCommand (Abort purse) = IsNamed purse
IsCommand (ReadLog purse place) = IsNamed purse
IsCommand (Redeem purse amount reference) = IsNamed purse × (amount ≤ most_amount) × IsNamed reference
IsCommand (Inbox purse) = IsNamed purse
IsCommand (Statement purse after) = IsNamed purse × (after ≤ most_number)
IsCommand Reconcile = Unit {0}
IsCommand (Settle d) = IsDetails d

-- a command and who asks
abbrev pub Asked : Type 0
Asked = Caller × Command

-- a command that is a value, and so is who asks
abbrev pub IsAsked : Asked → Type 0
IsAsked c = IsCaller c.0 × IsCommand c.1
