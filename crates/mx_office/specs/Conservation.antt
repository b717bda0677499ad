-- Conservation of value, and the security properties of the purses (PRG-126: Security Properties).
use Rattle.std.specs.Prelude.{◌≡◌, ◌≢◌, ℕ, ◌+◌, ◌≤◌, ◌||◌, Bool, Some}
use Rattle.std.specs.FinMap as fmap
use Rattle.mx_pay.specs.Limits.{most_number}
use Rattle.mx_pay.specs.Details.{Details}
use Rattle.mx_purse.specs.declared.status.Status.TheVariants.{Epv}
use Rattle.mx_purse.specs.declared.message.Message.TheVariants.{Val as ValMessage}
use Rattle.mx_purse.specs.declared.message.Handled.TheVariants.{Req, Val}
use Rattle.mx_book.specs.declared.values.Caller.{Caller}
use Rattle.mx_book.specs.declared.values.Caller.TheVariants.{Holder}
use Rattle.mx_book.specs.declared.values.Totals.{Totals}
use Rattle.mx_book.specs.World.{World, Row, Name}
use Rattle.mx_book.specs.Totals.{totals_of, from_in_epa, from_logged}
use Rattle.mx_command.specs.declared.values.Command.{Command}
use Rattle.mx_command.specs.declared.values.Command.TheVariants.{Load, Redeem, Handle, Settle}
use Rattle.mx_office.specs.declared.values.Outcome.{Outcome}
use Rattle.mx_office.specs.declared.values.Outcome.TheVariants.{Reply as Replied, Unavailable}
use Rattle.mx_command.specs.declared.values.Refusal.TheVariants.{OverCap, FloatFull}
use Rattle.mx_command.specs.declared.values.Reply.{Reply}
use Rattle.mx_command.specs.declared.values.Reply.TheVariants as reply
use Rattle.mx_office.specs.Step.{step}

-- ---- the scheme's equation

-- what purses hold, what is under way, what is lost and what was redeemed is what was issued
abbrev pub IsConserved : World → Type 0
IsConserved w = let sums = totals_of w in ((sums.balances + sums.transit) + sums.lost) + sums.redeemed ≡ sums.issued

-- where a purse waits for a value that lies in its inbox, the value fits
abbrev pub HasRoom : World → Type 0
HasRoom w =
    (p : Name) (r : Row) (d : Details) (n : ℕ) → fmap.get w.rows p ≡ Some r → r.holding.purse.status ≡ Epv d → fmap.get r.holding.inbox n ≡ Some (ValMessage d)
    → r.holding.purse.balance + d.value ≤ most_number

-- a reply isn't that a purse or a float is full
abbrev pub IsNeverFull : Reply → Type 0
IsNeverFull r = (r ≢ reply.Refused OverCap) × (r ≢ reply.Refused FloatFull)

-- nor is an outcome
abbrev pub IsNeverFullOutcome : Outcome → Type 0
IsNeverFullOutcome (Replied r) = IsNeverFull r
IsNeverFullOutcome Unavailable = Unit {0}

-- ---- the security properties

-- the sums before a command, and after it
abbrev pub before : World → Totals
before w = totals_of w

abbrev pub after : World → Caller → Command → Totals
after w caller command = totals_of (step w caller command).world

-- whether a command is a load, and whether it is a redemption
abbrev pub is_load : Command → Bool
is_load (Load p amount reference) = Bool.true
is_load command = Bool.false

abbrev pub is_redemption : Command → Bool
is_redemption (Redeem p amount reference) = Bool.true
is_redemption command = Bool.false

-- and whether it is a settlement
abbrev pub is_settlement : Command → Bool
is_settlement (Settle d) = Bool.true
is_settlement command = Bool.false

-- no value created (PRG-126: NoValueCreation): what purses hold and what is under way doesn't rise, but by a load and by a
-- settlement
abbrev pub CreatesNoValue : World → Caller → Command → Type 0
CreatesNoValue w caller command = (is_load command || is_settlement command) ≡ Bool.false → (after w caller command).balances + (after w caller command).transit ≤ (before w).balances + (before w).transit

-- all value accounted (PRG-126: AllValueAccounted): with what is lost it stays, but by a load and a redemption; so by a
-- settlement it rises by no more than what is lost falls
abbrev pub AccountsAllValue : World → Caller → Command → Type 0
AccountsAllValue w caller command =
    (is_load command || is_redemption command) ≡ Bool.false
    → ((after w caller command).balances + (after w caller command).transit) + (after w caller command).lost ≡ ((before w).balances + (before w).transit) + (before w).lost

-- authentic purses (PRG-126: Authentic): where a val is accepted, its from purse is there and has paid it
pub record IsAuthentic (w : World) (d : Details) : Type 0 where
  pub row : Row
  pub there : fmap.get w.rows d.from ≡ Some row
  pub paid : (from_in_epa w d || from_logged w d) ≡ Bool.true

abbrev pub AcceptsAuthentic : World → Name → Name → ℕ → Type 0
AcceptsAuthentic w h p n = (d : Details) → (step w (Holder h) (Handle p n)).reply ≡ reply.Handled (Val d) → IsAuthentic w d

-- sufficient funds (PRG-126: SufficientFundsProperty): where a req is accepted, the balance covered its value
pub record IsCovered (w : World) (p : Name) (d : Details) : Type 0 where
  pub row : Row
  pub there : fmap.get w.rows p ≡ Some row
  pub covered : d.value ≤ row.holding.purse.balance

abbrev pub PaysCovered : World → Name → Name → ℕ → Type 0
PaysCovered w h p n = (d : Details) → (step w (Holder h) (Handle p n)).reply ≡ reply.Handled (Req d) → IsCovered w p d
