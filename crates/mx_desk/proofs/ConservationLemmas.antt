-- Requests lead from a World that commands lead to, to such a World, and nothing is refused because something is full.
use Rattle.std.proofs.Common.{◌≡◌, Bool, true, false, cond, List, [], ◌∷◌, refl, sym, subst, Option, Some, None, option_map}
use Rattle.std.specs.Prelude.{IfSome, IsSome, option_and_then}
use Rattle.std.specs.FinMap as fmap
use Rattle.mx_pay.specs.Tokens.{token_of, is_token}
use Rattle.mx_book.specs.Conditions.{IsWorld, IsOwner}
use Rattle.mx_book.specs.Reads.{who_of}
use Rattle.mx_book.specs.World.{World, Name, Token}
use Rattle.mx_book.specs.declared.values.Caller.{Caller}
use Rattle.mx_book.specs.declared.values.Caller.TheVariants.{Operator, Clerk, Holder}
use Rattle.mx_command.specs.Commands.{IsNamed, IsCaller, IsCommand, IsAsked, Asked}
use Rattle.mx_office.specs.Reachable.{IsReachable}
use Rattle.mx_office.specs.Step.{step}
use Rattle.mx_command.specs.declared.values.Command.{Command}
use Rattle.mx_office.proofs.FullLemmas.{never_full}
use Rattle.mx_office.proofs.ReachLemmas.{reachable_after}
use Rattle.mx_office.proofs.StepLemmas.{reachable_world}
use Rattle.mx_wire.specs.Bodies.{command_of}
use Rattle.mx_wire.specs.Replies.{Parts}
use Rattle.mx_wire.specs.Routes.{route_of, class_of}
use Rattle.mx_wire.specs.declared.routes.Route.{Route}
use Rattle.mx_wire.proofs.ValueLemmas.{found, request_is}
use Rattle.mx_desk.specs.Conservation.{NeverFull}
use Rattle.mx_desk.specs.Isolation.{asked_by, asked_of}
use Rattle.mx_desk.specs.Requests.{Request}
use Rattle.mx_desk.specs.Respond.{left, caller_of, is_of_class, after_body, after_caller, after_route, respond}
use Rattle.mx_desk.specs.Serve.{Marked, world_after_one, world_after}

-- ---- who asks, and what is asked

module _ (w : World) (is : IsWorld w) where
  holder_is : (h : Name) (o : Option Name) → fmap.get w.holders h ≡ o → IsSome o → IsNamed h
  holder_is h None at there = absurd (cc)
  holder_is h (Some m) at there = (is.members.holders h m at).0

  owner_is : (caller : Caller) → IsOwner w caller → IsCaller caller
  owner_is Operator owner = tt
  owner_is (Clerk m) owner = is.members.named m owner
  owner_is (Holder h) owner = holder_is h (fmap.get w.holders h) refl owner

  with_token : (t : Token) (o : Option Caller) → fmap.get w.tokens t ≡ o → IfSome o IsCaller
  with_token t None at = tt
  with_token t (Some caller) at = owner_is caller (is.tokens.owners t caller at)

  who_is : (t : Token) → IfSome (who_of w t) IsCaller
  who_is t = by (is_token t w.operator)
    where
      by : (b : Bool) → IfSome (cond b (Some Operator) (fmap.get w.tokens t)) IsCaller
      by true = tt
      by false = with_token t (fmap.get w.tokens t) refl

module _ (r : Request) where
  asked_command : (caller : Caller) (b : Bool) (o : Option Command) → IsCaller caller → IfSome o IsCommand → IfSome (cond b (option_map (λ command. (caller, command)) o) None) IsAsked
  asked_command caller true None asker is = tt
  asked_command caller true (Some c) asker is = (asker, is)
  asked_command caller false o asker is = tt

  asked_is : (who : Option Caller) (route : Option Route) → IfSome who IsCaller → route_of r.method r.path ≡ route → IfSome (asked_by r who route) IsAsked
  asked_is None route asker at = tt
  asked_is (Some caller) None asker at = tt
  asked_is (Some caller) (Some route) asker at = asked_command caller (is_of_class caller (class_of route)) (command_of route r.body) asker (request_is r.method r.path r.body route at)

-- a request asks a value, of a caller that is one
request_asks : (w : World) (r : Request) → IsWorld w → IfSome (asked_of w r) IsAsked
request_asks w r is = asked_is r (caller_of w r.token) (route_of r.method r.path) (found IsCaller (who_of w) (option_and_then token_of r.token) (who_is w is)) refl

-- ---- the World after a request

-- the World after what is asked
abbrev pub after_asked : World → Option Asked → World
after_asked w None = w
after_asked w (Some c) = (step w c.0 c.1).world

module _ (w : World) (r : Request) where
  by_class : (caller : Caller) (b : Bool) (o : Option Command) (refused : Parts) → (cond b (after_body w caller o) (left w refused)).world ≡ after_asked w (cond b (option_map (λ command. (caller, command)) o) None)
  unfolding after_body
  by_class caller true None refused = refl
  by_class caller true (Some c) refused = refl
  by_class caller false o refused = refl

  by_caller : (who : Option Caller) (route : Route) → (after_caller w r route who).world ≡ after_asked w (asked_by r who (Some route))
  unfolding after_caller
  by_caller None route = refl
  by_caller (Some caller) route = by_class caller (is_of_class caller (class_of route)) (command_of route r.body) _

  not_routed : (who : Option Caller) → w ≡ after_asked w (asked_by r who None)
  not_routed None = refl
  not_routed (Some caller) = refl

  by_route : (route : Option Route) → (after_route w r route).world ≡ after_asked w (asked_by r (caller_of w r.token) route)
  unfolding after_route
  by_route None = not_routed (caller_of w r.token)
  by_route (Some route) = by_caller (caller_of w r.token) route

  pub respond_asked : (respond w r).world ≡ after_asked w (asked_of w r)
  unfolding respond
  respond_asked = by_route (route_of r.method r.path)

reachable_asked : (w : World) (o : Option Asked) → IfSome o IsAsked → IsReachable w → IsReachable (after_asked w o)
reachable_asked w None is from = from
reachable_asked w (Some c) is from = reachable_after w c.0 c.1 is.0 is.1 from

reachable_respond : (w : World) (r : Request) → IsReachable w → IsReachable (respond w r).world
reachable_respond w r from = subst IsReachable (sym (respond_asked w r)) (reachable_asked w (asked_of w r) (request_asks w r (reachable_world w from)) from)

reachable_one : (w : World) (m : Marked) → IsReachable w → IsReachable (world_after_one w m)
reachable_one w m from = by m.given_up
  where
    by : (b : Bool) → IsReachable (cond b w (respond w m.request).world)
    by true = from
    by false = reachable_respond w m.request from

-- ---- requests in order

pub reachable_requests : (w : World) (ms : List Marked) → IsReachable w → IsReachable (world_after w ms)
reachable_requests w [] from = from
reachable_requests w (m ∷ ms) from = reachable_requests (world_after_one w m) ms (reachable_one w m from)

pub never_full_requests : (w : World) (ms : List Marked) → IsReachable w → NeverFull w ms
never_full_requests w [] from = tt
never_full_requests w (m ∷ ms) from = (λ c asked kept. never_full w c.0 c.1 from, never_full_requests (world_after_one w m) ms (reachable_one w m from))
