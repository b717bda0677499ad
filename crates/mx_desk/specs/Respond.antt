-- The response to a request, and the World after it (RFC 9110).
use Rattle.std.specs.Option.{option_map_or}
use Rattle.std.specs.Prelude.{◌⊎◌, ◌&&◌, ◌||◌, ℕ, List, Bool, true, false, Option, Some, None, option_and_then, is_some, if◌then◌else◌, IsTrue}
use Rattle.mx_pay.specs.Tokens.{token_of}
use Rattle.mx_book.specs.World.{World}
use Rattle.mx_book.specs.Reads.{who_of}
use Rattle.mx_book.specs.declared.contract.StoreFault.{StoreFault}
use Rattle.mx_book.specs.declared.values.Caller.{Caller}
use Rattle.mx_book.specs.declared.values.Caller.TheVariants as caller
use Rattle.mx_office.specs.Faults.{takes_memory}
use Rattle.mx_office.specs.Step.{step}
use Rattle.mx_command.specs.declared.values.Command.{Command}
use Rattle.mx_command.specs.declared.values.Refusal.TheVariants.{NotForCaller}
use Rattle.mx_wire.specs.Routes.{route_of, class_of}
use Rattle.mx_wire.specs.Bodies.{command_of, has_body}
use Rattle.mx_wire.specs.Replies.{Parts, fixed_parts, is_made, reply_parts}
use Rattle.mx_wire.specs.declared.replies.Fixed.TheVariants as fixed
use Rattle.mx_wire.specs.declared.routes.Class.{Class}
use Rattle.mx_wire.specs.declared.routes.Class.TheVariants as class
use Rattle.mx_wire.specs.declared.routes.Route.{Route}
use Rattle.mx_desk.specs.Requests.{Request}

-- a World, and what is answered
pub record Responded : Type 0 where
  pub world : World
  pub response : Parts

-- a response that leaves the World
abbrev pub left : World → Parts → Responded
left w response = record { world = w; response = response }

-- whether a caller is of this class
abbrev pub is_of_class : Caller → Class → Bool
is_of_class caller.Operator class.Operator = true
is_of_class (caller.Clerk m) class.Clerk = true
is_of_class (caller.Holder h) class.Holder = true
is_of_class _ _ = false

-- who sent a request with this token field
abbrev pub caller_of : World → Option (List ℕ) → Option Caller
caller_of w field = option_and_then (who_of w) (option_and_then token_of field)

-- past the token and the class: the body says a command, or is bad
unfoldable pub after_body : World → Caller → Option Command → Responded
after_body w caller None = left w (fixed_parts fixed.BadBody)
after_body w caller (Some command) = record { world = (step w caller command).world; response = reply_parts (step w caller command).reply }

-- past the token: the caller is of the route's class, or it is not for the caller
unfoldable pub after_caller : World → Request → Route → Option Caller → Responded
after_caller w r route None = left w (fixed_parts fixed.TokenUnknown)
after_caller w r route (Some caller) =
    if is_of_class caller (class_of route)
    then after_body w caller (command_of route r.body)
    else left w (fixed_parts (fixed.Refused NotForCaller))

-- past the route: somebody has the token, or it is not known
unfoldable pub after_route : World → Request → Option Route → Responded
after_route w r None = left w (fixed_parts fixed.NoRoute)
after_route w r (Some route) = after_caller w r route (caller_of w r.token)

unfoldable pub respond : World → Request → Responded
respond w r = after_route w r (route_of r.method r.path)

-- whether a request has a route
abbrev pub is_routed : Request → Bool
is_routed r = is_some (route_of r.method r.path)

-- whether a command of a caller takes memory, to be done or for a response that is made for its reply
abbrev pub command_takes : World → Caller → Command → Bool
command_takes w caller command = takes_memory w caller command || is_made (step w caller command).reply

-- whether memory is taken past the token: the caller is of the route's class, and a body is read, or the command takes some
abbrev pub caller_takes : World → Request → Route → Option Caller → Bool
caller_takes w r route None = false
caller_takes w r route (Some caller) =
    is_of_class caller (class_of route) && (has_body route || option_map_or (command_takes w caller) (command_of route r.body) false)

-- whether memory is taken for a request that has a route
abbrev pub route_takes : World → Request → Option Route → Bool
route_takes w r None = false
route_takes w r (Some route) = caller_takes w r route (caller_of w r.token)

-- when what takes memory may be given up, over a book whose reads may fail so
abbrev pub IsGivenUpFor : (StoreFault → Type 0) → Bool → Type 0
IsGivenUpFor fails takes = IsTrue takes ⊎ ((e : StoreFault) × fails e)

-- when a request may be given up: it has a route, and takes memory, unless a read of the book may fail
abbrev pub MayBeGivenUp : (StoreFault → Type 0) → World → Request → Type 0
MayBeGivenUp fails w r = IsTrue (is_routed r) × IsGivenUpFor fails (route_takes w r (route_of r.method r.path))
