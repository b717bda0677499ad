-- What a holder sees, and what the holder's purses are on that view alone.
use Rattle.std.specs.Prelude.{ℕ, Bool, ◌&&◌, if◌then◌else◌, List, [], ◌∷◌, ◌++◌, Option, Some, None, is_some, is_none, IsSome}
use Rattle.std.specs.Option.{option_map_or}
use Rattle.std.specs.FinMap as fmap
use Rattle.mx_pay.specs.Names.{name_cmp, is_name}
use Rattle.mx_pay.specs.Details.{Details}
use Rattle.mx_purse.specs.declared.message.Message.{Message}
use Rattle.mx_book.specs.declared.values.Caller.{Caller}
use Rattle.mx_book.specs.declared.values.Caller.TheVariants.{Operator, Clerk, Holder}
use Rattle.mx_book.specs.World.{World, Holding, Name, new_holding, has_room, with_message}
use Rattle.mx_book.specs.Maps.{pick}
use Rattle.mx_command.specs.Commands.{Asked}
use Rattle.mx_office.specs.Step.{Deed, Asks, Course, ends, tell, refuse, on_found, in_place, asks, holding_for, own_holding, loaded_holding, settled_holding, settle_refusal, idle_load, new_purse_refusal, base, step, course}
use Rattle.mx_command.specs.declared.values.Command.{Command}
use Rattle.mx_command.specs.declared.values.Command.TheVariants.{NewPurse, Load, Settle}
use Rattle.mx_command.specs.declared.values.Refusal.TheVariants.{NotForCaller, NoSuchPurse}
use Rattle.mx_command.specs.declared.values.Reply.{Reply}
use Rattle.mx_command.specs.declared.values.Reply.TheVariants as reply

-- ---- the view

-- what happens to a holder: a command of the holder's own, a purse that is issued to the holder, a load of a
-- purse of the holder with its reference and amount, a settlement of details whose value comes back to one, and a message
-- that enters the inbox of one
pub data Event : Type 0 where
  Own : Command → Event
  Issued : Name → Event
  Loaded : Name → Name → ℕ → Event
  Settled : Name → Details → Event
  Put : Name → Message → Event

-- this alone where the test holds, and else nothing
abbrev pub only_if : {X : Type 0} → Bool → X → List X
only_if b x = if b then x ∷ [] else []

-- what is given to the holder of what a caller is given
abbrev pub for_holder : {X : Type 0} → Name → Caller → X → List X
for_holder h (Holder g) x = only_if (is_name h g) x
for_holder h caller x = []

-- a purse that is issued to the holder, and not refused; a load that is added to a purse of the holder; and a settlement
-- of details that a purse of the holder paid, and not refused
abbrev pub issued_event : World → Name → Caller → Command → List Event
issued_event w h (Clerk m) (Load p amount reference) = only_if (is_none (idle_load w m p amount reference) && is_some (own_holding w h p)) (Event.Loaded p reference amount)
issued_event w h (Clerk m) (NewPurse p g) = only_if (is_none (new_purse_refusal w m p g) && is_name h g) (Event.Issued p)
issued_event w h Operator (Settle d) = only_if (is_none (settle_refusal w d) && is_some (own_holding w h d.from)) (Event.Settled d.from d)
issued_event w h caller command = []

-- a message that enters the inbox of a purse of the holder, whoever sent it
abbrev pub put_event : World → Name → Option (Name × Message) → List Event
put_event w h None = []
put_event w h (Some m) = only_if (option_map_or has_room (own_holding w h m.0) Bool.false) (Event.Put m.0 m.1)

-- what the holder sees of one command of a caller
unfoldable pub view_of : World → Name → Caller → Command → List Event
view_of w h caller command =
    (for_holder h caller (Event.Own command) ++ issued_event w h caller command) ++ put_event (base w caller command).state h (base w caller command).sent

-- an event is of a purse that is the holder's own in a World, but for a command of the holder's
abbrev pub IsOf : World → Name → Event → Type 0
IsOf w h (Event.Own command) = Unit {0}
IsOf w h (Event.Issued p) = IsSome (own_holding w h p)
IsOf w h (Event.Loaded p reference amount) = IsSome (own_holding w h p)
IsOf w h (Event.Settled p d) = IsSome (own_holding w h p)
IsOf w h (Event.Put p message) = IsSome (own_holding w h p)

-- what the holder sees of commands, in order
abbrev pub view : Name → World → List Asked → List Event
view h w [] = []
view h w (c ∷ cs) = view_of w h c.0 c.1 ++ view h (step w c.0 c.1).world cs

-- ---- what the view alone gives

-- what is the holder's own of each of the holder's purses
abbrev pub Holdings : Type 0
Holdings = fmap.FinMap name_cmp Holding

-- what is asked by the holder, done to the holdings; a message that is sent leaves them
abbrev pub on_holdings : Holdings → Asks → Deed Holdings
on_holdings m Asks.Names = tell m (reply.Purses (fmap.keys m))
on_holdings m (Asks.OnPurse p f) = on_found m NoSuchPurse (fmap.get m p) (λ a. in_place (fmap.insert m p) (f a))
on_holdings m Asks.NotAHolders = refuse m NotForCaller

-- holdings with that of one purse changed, where the purse is there
abbrev pub with_changed : Holdings → Name → (Holding → Holding) → Holdings
with_changed m p f = option_map_or (λ a. fmap.insert m p (f a)) (fmap.get m p) m

-- the holdings after an event, and the reply to a command of the holder's own
abbrev pub after_event : Holdings → Event → Course Holdings Reply
after_event m (Event.Own command) = let d = on_holdings m (asks command) in ends d.state (d.reply ∷ [])
after_event m (Event.Issued p) = ends (fmap.insert m p (new_holding p)) []
after_event m (Event.Loaded p reference amount) = ends (with_changed m p (λ a. loaded_holding a amount reference)) []
after_event m (Event.Settled p d) = ends (with_changed m p (λ a. settled_holding a d)) []
after_event m (Event.Put p message) = ends (with_changed m p (λ a. with_message a message)) []

-- the holdings after events, in order, and the replies to the holder's own commands among them
abbrev pub local : Holdings → List Event → Course Holdings Reply
local = course after_event

-- ---- what is cut out of the World for a holder

-- the holder's own of each of the holder's purses, taken out of the World
abbrev pub cut : World → Name → Holdings
cut w h = pick (holding_for h) w.rows

-- the replies that are given to the holder, in order
abbrev pub told_to : Name → List (Caller × Reply) → List Reply
told_to h [] = []
told_to h (x ∷ xs) = for_holder h x.0 x.1 ++ told_to h xs
