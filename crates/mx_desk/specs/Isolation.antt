-- What a holder sees of requests, and what that alone gives, byte for byte.
use Rattle.std.specs.Prelude.{◌≡◌, ℕ, Bool, true, false, List, [], ◌∷◌, ◌++◌, map, Option, Some, None, option_map, if◌then◌else◌}
use Rattle.mx_book.specs.World.{World, Name}
use Rattle.mx_book.specs.declared.values.Caller.{Caller}
use Rattle.mx_command.specs.Commands.{Asked}
use Rattle.mx_office.specs.Step.{Course, ends, asks, base, course}
use Rattle.mx_office.specs.Isolation.{Event, Holdings, for_holder, issued_event, put_event, on_holdings, after_event, cut}
use Rattle.mx_command.specs.declared.values.Command.{Command}
use Rattle.mx_command.specs.declared.values.Refusal.TheVariants.{NotForCaller}
use Rattle.mx_wire.specs.Routes.{route_of, class_of}
use Rattle.mx_wire.specs.Bodies.{command_of}
use Rattle.mx_wire.specs.Replies.{Parts, sent, fixed_parts, reply_parts}
use Rattle.mx_wire.specs.declared.replies.Fixed.TheVariants as fixed
use Rattle.mx_wire.specs.declared.routes.Class.{Class}
use Rattle.mx_wire.specs.declared.routes.Class.TheVariants as class
use Rattle.mx_wire.specs.declared.routes.Method.{Method}
use Rattle.mx_wire.specs.declared.routes.Route.{Route}
use Rattle.mx_desk.specs.Requests.{Request}
use Rattle.mx_desk.specs.Respond.{caller_of, is_of_class}
use Rattle.mx_desk.specs.Serve.{Marked, world_after_one, world_after, response_to}

-- ---- what is seen

-- a request of the holder's own, without its token
pub record Own : Type 0 where
  pub method : Method
  pub path : List ℕ
  pub body : List ℕ

-- what happens to a holder: a request of the holder's own, or what a command brings the holder: a purse that is issued,
-- a load, a settlement, or a message that enters an inbox
pub data Seen : Type 0 where
  Sent : Own → Seen
  Brought : Event → Seen

-- a request without its token
abbrev pub without_token : Request → Own
without_token r = record { method = r.method; path = r.path; body = r.body }

-- this alone where the caller is that holder
abbrev pub if_holders : {X : Type 0} → Name → Option Caller → X → List X
if_holders h None x = []
if_holders h (Some caller) x = for_holder h caller x

-- the command that a request asks, with its caller: it has a route, somebody of the route's class has its token, and its
-- body says a command
abbrev pub asked_by : Request → Option Caller → Option Route → Option Asked
asked_by r (Some caller) (Some route) = if is_of_class caller (class_of route) then option_map (λ command. (caller, command)) (command_of route r.body) else None
asked_by r caller route = None

abbrev pub asked_of : World → Request → Option Asked
asked_of w r = asked_by r (caller_of w r.token) (route_of r.method r.path)

-- what a command brings the holder
abbrev pub brought_by : World → Name → Option Asked → List Event
brought_by w h None = []
brought_by w h (Some c) = issued_event w h c.0 c.1 ++ put_event (base w c.0 c.1).state h (base w c.0 c.1).sent

-- what a holder sees of one request; a request that is given up isn't seen
abbrev pub seen_of_request : World → Name → Request → List Seen
seen_of_request w h r = if_holders h (caller_of w r.token) (Seen.Sent (without_token r)) ++ map Seen.Brought (brought_by w h (asked_of w r))

abbrev pub seen_of : World → Name → Marked → List Seen
seen_of w h m = if m.given_up then [] else seen_of_request w h m.request

-- what a holder sees of requests, in order
abbrev pub seen : Name → World → List Marked → List Seen
seen h w [] = []
seen h w (m ∷ ms) = seen_of w h m ++ seen h (world_after_one w m) ms

-- ---- what that alone gives

-- the holdings after a request of the holder's own, and the response to it
pub record Answer : Type 0 where
  pub holdings : Holdings
  pub response : Parts

-- whether a route is a holder's
abbrev pub is_holders : Class → Bool
is_holders class.Holder = true
is_holders _ = false

abbrev pub own_command : Holdings → Option Command → Answer
own_command m None = record { holdings = m; response = fixed_parts fixed.BadBody }
own_command m (Some command) = let d = on_holdings m (asks command) in record { holdings = d.state; response = reply_parts d.reply }

abbrev pub own_route : Holdings → Own → Option Route → Answer
own_route m r None = record { holdings = m; response = fixed_parts fixed.NoRoute }
own_route m r (Some route) =
    if is_holders (class_of route)
    then own_command m (command_of route r.body)
    else record { holdings = m; response = fixed_parts (fixed.Refused NotForCaller) }

abbrev pub own_answer : Holdings → Own → Answer
own_answer m r = own_route m r (route_of r.method r.path)

-- the holdings after what is seen, and the bytes of the response to a request of the holder's own
abbrev pub after_seen : Holdings → Seen → Course Holdings (List ℕ)
after_seen m (Seen.Sent r) = let a = own_answer m r in ends a.holdings (sent r.method a.response ∷ [])
after_seen m (Seen.Brought e) = ends (after_event m e).end []

-- and after all that is seen, in order, with the bytes of these responses
abbrev pub alone : Holdings → List Seen → Course Holdings (List ℕ)
alone = course after_seen

-- ---- what the holder is told

-- the responses to the holder's own requests, in order; those to requests that are given up are left out
abbrev pub told_one : Name → World → Marked → List (List ℕ)
told_one h w m = if m.given_up then [] else if_holders h (caller_of w m.request.token) (response_to w m)

abbrev pub told : Name → World → List Marked → List (List ℕ)
told h w [] = []
told h w (m ∷ ms) = told_one h w m ++ told h (world_after_one w m) ms

-- requests keep a holder apart: the responses to the holder's own, byte for byte, and what is the holder's own in the
-- end, are those that what the holder saw gives on what was the holder's own
pub record IsApart (w : World) (h : Name) (ms : List Marked) : Type 0 where
  pub told : told h w ms ≡ (alone (cut w h) (seen h w ms)).replies
  pub accounts : cut (world_after w ms) h ≡ (alone (cut w h) (seen h w ms)).end
