-- What is given up takes memory, or a read of the book may fail.
use Rattle.std.proofs.Common.{◌≡◌, Bool, true, false, List, Option, Some, refl, sym, ap, subst, ◌∙◌, inl, inr, Result, Ok, Err}
use Rattle.std.specs.Option.{option_map_or}
use Rattle.std.specs.Prelude.{◌⊎◌, ◌&&◌, ◌||◌, IsTrue}
use Rattle.mx_book.specs.Views.{View}
use Rattle.mx_book.specs.World.{World, Token}
use Rattle.mx_book.specs.declared.contract.StoreFault.{StoreFault}
use Rattle.mx_book.specs.declared.contract.StoreFault.TheVariants.{Memory}
use Rattle.mx_book.specs.declared.values.Caller.{Caller}
use Rattle.mx_office.specs.Faults.{FailsFor, lists, takes_memory}
use Rattle.mx_office.specs.Step.{step}
use Rattle.mx_command.specs.declared.values.Command.{Command}
use Rattle.mx_command.specs.declared.values.Reply.{Reply}
use Rattle.mx_office.proofs.FaultLemmas.{decision_fails}
use Rattle.mx_wire.specs.Bodies.{command_of, has_body}
use Rattle.mx_wire.specs.Replies.{is_made}
use Rattle.mx_wire.specs.Routes.{class_of}
use Rattle.mx_wire.specs.declared.routes.Route.{Route}
use Rattle.mx_wire.specs.declared.replies.Response.{Response}
use Rattle.mx_desk.specs.Answers.{IsAnswer}
use Rattle.mx_desk.specs.Knows.{Has, Knows}
use Rattle.mx_desk.specs.Requests.{Request}
use Rattle.mx_desk.specs.Respond.{after_body, after_caller, caller_takes, command_takes, is_of_class, IsGivenUpFor}

either : (a b : Bool) → IsTrue a → IsTrue (a || b)
either true b t = refl
either false b t = cc

or_else : (a b : Bool) → IsTrue b → IsTrue (a || b)
or_else true b t = refl
or_else false b t = t

both : (a b : Bool) → IsTrue a → IsTrue b → IsTrue (a && b)
both true b t u = u
both false b t u = cc

-- a fault of a command that takes memory, or of a read
pub fault_gives_up : (fails : StoreFault → Type 0) (w : World) (caller : Caller) (command : Command) (e : StoreFault) → IsTrue (takes_memory w caller command) → (e ≡ Memory) ⊎ fails e
    → IsGivenUpFor fails (command_takes w caller command)
fault_gives_up fails w caller command e takes (inl x) = inl (either (takes_memory w caller command) (is_made (step w caller command).reply) takes)
fault_gives_up fails w caller command e takes (inr x) = inr (e, x)

-- a fault of a decision
pub decision_gives_up : (fails : StoreFault → Type 0) (w : World) (caller : Caller) (command : Command) (e : StoreFault) → FailsFor fails (lists w caller command) e
    → IsGivenUpFor fails (command_takes w caller command)
decision_gives_up fails w caller command e x = from (decision_fails fails w caller command e x) where
  from : FailsFor fails (takes_memory w caller command) e → IsGivenUpFor fails (command_takes w caller command)
  from (inl y) = inl (either (takes_memory w caller command) (is_made (step w caller command).reply) y.0)
  from (inr y) = inr (e, y)

-- a response that is made
pub response_gives_up : (fails : StoreFault → Type 0) (w : World) (caller : Caller) (command : Command) (r : Reply) → r ≡ (step w caller command).reply → IsTrue (is_made r)
    → IsGivenUpFor fails (command_takes w caller command)
response_gives_up fails w caller command r is made = inl (or_else (takes_memory w caller command) (is_made (step w caller command).reply) (subst (λ x. IsTrue (is_made x)) is made))

-- a command of a request
pub command_given_up : (fails : StoreFault → Type 0) (w : World) (r : Request) (route : Route) (caller : Caller) (command : Command) → IsTrue (is_of_class caller (class_of route))
    → command_of route r.body ≡ Some command → IsGivenUpFor fails (command_takes w caller command) → IsGivenUpFor fails (caller_takes w r route (Some caller))
command_given_up fails w r route caller command class is (inl x) = inl (
    both (is_of_class caller (class_of route)) (has_body route || option_map_or (command_takes w caller) (command_of route r.body) false) class
    (or_else (has_body route) (option_map_or (command_takes w caller) (command_of route r.body) false) (ap (λ o. option_map_or (command_takes w caller) o false) is ∙ x)))
command_given_up fails w r route caller command class is (inr x) = inr x

-- a body of a request
pub body_given_up : (fails : StoreFault → Type 0) (w : World) (r : Request) (route : Route) (caller : Caller) → IsTrue (is_of_class caller (class_of route)) → IsTrue (has_body route)
    → IsGivenUpFor fails (caller_takes w r route (Some caller))
body_given_up fails w r route caller class has = inl (
    both (is_of_class caller (class_of route)) (has_body route || option_map_or (command_takes w caller) (command_of route r.body) false) class
    (either (has_body route) (option_map_or (command_takes w caller) (command_of route r.body) false) has))

-- the answer to a request is that to its command
pub answer_of_command : (fails : StoreFault → Type 0) (Has : World → Type 0) (w : World) (r : Request) (route : Route) (caller : Caller) (command : Command) (found : Option Caller) (result : Result Response StoreFault)
    → found ≡ Some caller → IsTrue (is_of_class caller (class_of route)) → command_of route r.body ≡ Some command
    → IsAnswer Has w (after_body w caller (Some command)) (IsGivenUpFor fails (command_takes w caller command)) result
    → IsAnswer Has w (after_caller w r route found) (IsGivenUpFor fails (caller_takes w r route found)) result
unfolding after_caller
answer_of_command fails Has w r route caller command found (Ok x) is class body answer = rw (is, class, body) answer
answer_of_command fails Has w r route caller command found (Err e) is class body answer =
    rw is (command_given_up fails w r route caller command class body answer.0, answer.1)

-- the answer to a command from a World by another name
pub answered_from : (fails : StoreFault → Type 0) (new : View) (places : List (Option (Token × Caller))) (known : List (Option (Token × Caller))) (v w : World) (caller : Caller) (command : Command) (result : Result Response StoreFault)
    → v ≡ w → Knows w known → (Knows v known → IsAnswer (Has new places) v (after_body v caller (Some command)) (IsGivenUpFor fails (command_takes v caller command)) result)
    → IsAnswer (Has new places) w (after_body w caller (Some command)) (IsGivenUpFor fails (command_takes w caller command)) result
answered_from fails new places known v w caller command result same knows answer =
    subst (λ u. IsAnswer (Has new places) u (after_body u caller (Some command)) (IsGivenUpFor fails (command_takes u caller command)) result) same (answer (subst (λ u. Knows u known) (sym same) knows))
