-- The abstract world of purses, what it is of a World, and how a command is an operation there (PRG-126: the abstract
-- specification, the retrieve relation and the backward simulation).
use Rattle.std.specs.Prelude.{◌≡◌, ℕ, ◌+◌, ◌-◌, nat_le, ◌&&◌, ◌||◌, not, ◌⊎◌, Bool, if◌then◌else◌, List, [], ◌∷◌, Option, Some, None, is_some, is_none, option_and_then}
use Rattle.std.specs.FinMap as fmap
use Rattle.mx_pay.specs.Names.{name_cmp, is_name}
use Rattle.mx_pay.specs.Details.{Details}
use Rattle.mx_purse.specs.declared.message.Handled.TheVariants as took
use Rattle.mx_book.specs.declared.values.Caller.{Caller}
use Rattle.mx_book.specs.Reads.{load_of, redemption_of}
use Rattle.mx_book.specs.Sums.{sum_values}
use Rattle.mx_book.specs.Totals.{still_lost, maybe_lost, occurring, totals_of, value_where}
use Rattle.mx_book.specs.Under.{remake}
use Rattle.mx_book.specs.World.{World, Row, Name, Token, opening}
use Rattle.mx_command.specs.declared.values.Command.{Command}
use Rattle.mx_command.specs.declared.values.Command.TheVariants as command
use Rattle.mx_command.specs.declared.values.Reply.{Reply}
use Rattle.mx_command.specs.declared.values.Reply.TheVariants as reply
use Rattle.mx_command.specs.Commands.{Asked}
use Rattle.mx_office.specs.Step.{step}

-- ---- the abstract world

-- what a purse has, and what it has lost (PRG-126: AbPurse)
pub record AbstractPurse : Type 0 where
  pub balance : ℕ
  pub lost : ℕ

-- the purses by name (AbWorld)
abbrev pub AbstractWorld : Type 0
AbstractWorld = fmap.FinMap name_cmp AbstractPurse

-- ---- its operations

-- nothing (AbIgnore), a transfer (AbTransferOkay), and one whose value is lost (AbTransferLost); and this office's own: a
-- new purse, a load, a redemption, and lost value that comes back
pub data Act : Type 0 where
  Ignore : Act
  TransferOkay : Details → Act
  TransferLost : Details → Act
  Issue : Name → Act
  Load : Name → ℕ → Act
  Redeem : Name → ℕ → Act
  Settle : Name → ℕ → Act

-- whether a purse is there and has so much (SufficientFundsProperty)
abbrev pub has_funds : Option AbstractPurse → ℕ → Bool
has_funds None n = Bool.false
has_funds (Some x) n = nat_le n x.balance

-- whether a purse is there and has lost so much
abbrev pub has_lost : Option AbstractPurse → ℕ → Bool
has_lost None n = Bool.false
has_lost (Some x) n = nat_le n x.lost

-- whether a transfer is allowed: the from purse has the value, and the to purse is there and is another (AuthenticPurse,
-- SufficientFundsProperty)
abbrev pub may_transfer : AbstractWorld → Details → Bool
may_transfer a d = has_funds (fmap.get a d.from) d.value && (is_some (fmap.get a d.to) && not (is_name d.from d.to))

-- whether an operation is allowed
abbrev pub allows : AbstractWorld → Act → Bool
allows a Act.Ignore = Bool.true
allows a (Act.TransferOkay d) = may_transfer a d
allows a (Act.TransferLost d) = may_transfer a d
allows a (Act.Issue p) = is_none (fmap.get a p)
allows a (Act.Load p n) = is_some (fmap.get a p)
allows a (Act.Redeem p n) = has_funds (fmap.get a p) n
allows a (Act.Settle p n) = has_lost (fmap.get a p) n

-- a purse to which so much comes, from which so much goes, from which so much goes and is lost, and to which so much comes
-- that was lost
abbrev pub gains : ℕ → AbstractPurse → AbstractPurse
gains n x = record x { balance = x.balance + n }

abbrev pub pays : ℕ → AbstractPurse → AbstractPurse
pays n x = record x { balance = x.balance - n }

abbrev pub loses : ℕ → AbstractPurse → AbstractPurse
loses n x = record { balance = x.balance - n; lost = x.lost + n }

abbrev pub recovers : ℕ → AbstractPurse → AbstractPurse
recovers n x = record { balance = x.balance + n; lost = x.lost - n }

-- the purse of a name is changed, where it is there
abbrev pub changed : AbstractWorld → Name → (AbstractPurse → AbstractPurse) → Option AbstractPurse → AbstractWorld
changed a p f None = a
changed a p f (Some x) = fmap.insert a p (f x)

abbrev pub change : AbstractWorld → Name → (AbstractPurse → AbstractPurse) → AbstractWorld
change a p f = changed a p f (fmap.get a p)

-- what an operation makes of the abstract world
abbrev pub performed : AbstractWorld → Act → AbstractWorld
performed a Act.Ignore = a
performed a (Act.TransferOkay d) = change (change a d.from (pays d.value)) d.to (gains d.value)
performed a (Act.TransferLost d) = change a d.from (loses d.value)
performed a (Act.Issue p) = fmap.insert a p (record { balance = 0; lost = 0 })
performed a (Act.Load p n) = change a p (gains n)
performed a (Act.Redeem p n) = change a p (pays n)
performed a (Act.Settle p n) = change a p (recovers n)

-- the abstract world after an operation, where it is allowed
abbrev pub perform : AbstractWorld → Act → Option AbstractWorld
perform a act = if allows a act then Some (performed a act) else None

-- and after operations in order, each of them allowed
abbrev pub perform_all : AbstractWorld → List Act → Option AbstractWorld
perform_all a [] = Some a
perform_all a (act ∷ acts) = option_and_then (λ b. perform_all b acts) (perform a act)

-- ---- what it is of a World (PRG-126: the retrieve relation RabCl, for chosen losses)

-- a choice of losses: of the payments that are maybe lost those that meet the test (chosenLost)
abbrev pub ChosenLost : Type 0
ChosenLost = Details → Bool

-- what counts as lost: what is definitely lost and isn't settled, and what is maybe lost and chosen
abbrev pub counts_lost : World → ChosenLost → Details → Bool
counts_lost w chosen d = still_lost w d || (maybe_lost w d && chosen d)

-- what counts as received: what is maybe lost and not chosen
abbrev pub counts_received : World → ChosenLost → Details → Bool
counts_received w chosen d = maybe_lost w d && not (chosen d)

-- what counts as received by a purse, and what counts as lost by it
abbrev pub received_by : World → ChosenLost → Name → ℕ
received_by w chosen p = value_where (λ d. is_name p d.to && counts_received w chosen d) (occurring w)

abbrev pub losses_of : World → ChosenLost → Name → ℕ
losses_of w chosen p = value_where (λ d. is_name p d.from && counts_lost w chosen d) (occurring w)

-- the abstract purse of a row
abbrev pub abstract_purse : World → ChosenLost → Name → Row → AbstractPurse
abstract_purse w chosen p r = record { balance = r.holding.purse.balance + received_by w chosen p; lost = losses_of w chosen p }

-- the abstract world of a World
abbrev pub abstract_of : World → ChosenLost → AbstractWorld
abstract_of w chosen = remake (abstract_purse w chosen) w.rows

-- what all its purses have and have lost is what the purses of the World hold, what is under way and what is lost
abbrev pub AccountsFor : World → ChosenLost → Type 0
AccountsFor w chosen =
    let sums = totals_of w in
    let a = abstract_of w chosen in
    sum_values (λ (x : AbstractPurse). x.balance) a + sum_values (λ (x : AbstractPurse). x.lost) a ≡ (sums.balances + sums.transit) + sums.lost

-- ---- the operation that a command is

-- by its reply: an accepted req is a transfer, whose value is lost or isn't; a load and a redemption under a new reference,
-- a new purse and a settlement are the operations of these names; and every other command, and every other reply, is nothing
abbrev pub IsAct : World → Command → Reply → Act → Type 0
IsAct w c (reply.Handled (took.Req d)) act = (act ≡ Act.TransferOkay d) ⊎ (act ≡ Act.TransferLost d)
IsAct w (command.Load p n reference) reply.Loaded act = act ≡ (if is_none (load_of w p reference) then Act.Load p n else Act.Ignore)
IsAct w (command.Redeem p n reference) reply.Redeemed act = act ≡ (if is_none (redemption_of w p reference) then Act.Redeem p n else Act.Ignore)
IsAct w (command.NewPurse p h) reply.Added act = act ≡ Act.Issue p
IsAct w (command.Settle d) reply.Settled act = act ≡ Act.Settle d.from d.value
IsAct w c x act = act ≡ Act.Ignore

-- the operations of commands, one a command
abbrev pub AreActs : World → List Asked → List Act → Type 0
AreActs w [] [] = Unit {0}
AreActs w [] (act ∷ acts) = ⊥
AreActs w (c ∷ cs) [] = ⊥
AreActs w (c ∷ cs) (act ∷ acts) = IsAct w c.1 (step w c.0 c.1).reply act × AreActs (step w c.0 c.1).world cs acts

-- refinement of one command: for each choice of losses after it there is one before it and an operation, which leads from
-- the abstract world before it to the one after it
pub record Simulates (w : World) (caller : Caller) (command : Command) (chosen : ChosenLost) : Type 0 where
  pub before : ChosenLost
  pub act : Act
  pub is : IsAct w command (step w caller command).reply act
  pub leads : perform (abstract_of w before) act ≡ Some (abstract_of (step w caller command).world chosen)

-- operations, one for each of these commands, that lead from an abstract world to that of the World at the end
pub record AbstractRun (start : AbstractWorld) (w : World) (commands : List Asked) (end : World) (chosen : ChosenLost) : Type 0 where
  pub acts : List Act
  pub are : AreActs w commands acts
  pub leads : perform_all start acts ≡ Some (abstract_of end chosen)

-- refinement of commands in order: the same of all of them
abbrev pub Refines : World → List Asked → World → Type 0
Refines w commands end = (chosen : ChosenLost) → (before : ChosenLost) × AbstractRun (abstract_of w before) w commands end chosen

-- and where they start with a World that has nothing but an operator's token, from no purses
abbrev pub RefinesFromNone : Token → List Asked → World → Type 0
RefinesFromNone operator commands end = (chosen : ChosenLost) → AbstractRun fmap.empty (opening operator) commands end chosen
