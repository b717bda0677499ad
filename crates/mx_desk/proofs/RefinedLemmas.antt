-- What requests ask is what the abstract purses do.
use Rattle.std.proofs.Common.{◌≡◌, Bool, true, false, cond, List, [], ◌∷◌, ◌++◌, refl, sym, ◌∙◌, ap, subst, Option, Some, None}
use Rattle.mx_book.specs.World.{World, Token, opening}
use Rattle.mx_office.specs.Abstract.{Refines, RefinesFromNone}
use Rattle.mx_office.specs.Reachable.{IsReachable}
use Rattle.mx_command.specs.Commands.{Asked}
use Rattle.mx_office.specs.Step.{listed, steps}
use Rattle.mx_office.proofs.RefinementLemmas.{steps_refine, run_refines}
use Rattle.mx_desk.specs.Isolation.{asked_of}
use Rattle.mx_desk.specs.Refinement.{asked_in, commands_of}
use Rattle.mx_desk.specs.Respond.{respond}
use Rattle.mx_desk.specs.Serve.{Marked, world_after_one, world_after}
use Rattle.mx_desk.proofs.ConservationLemmas.{after_asked, respond_asked}

steps_listed : (w : World) (o : Option Asked) (cs : List Asked) → (steps w (listed o ++ cs)).end ≡ (steps (after_asked w o) cs).end
steps_listed w None cs = refl
steps_listed w (Some c) cs = refl

one_asked : (w : World) (m : Marked) → after_asked w (asked_in w m) ≡ world_after_one w m
one_asked w m = by m.given_up
  where
    by : (b : Bool) → after_asked w (cond b None (asked_of w m.request)) ≡ cond b w (respond w m.request).world
    by true = refl
    by false = sym (respond_asked w m.request)

-- the World after requests is the one after the commands that they ask
steps_are : (w : World) (ms : List Marked) → (steps w (commands_of w ms)).end ≡ world_after w ms
steps_are w [] = refl
steps_are w (m ∷ ms) =
    let now : World = world_after_one w m in
    steps_listed w (asked_in w m) (commands_of now ms) ∙ ap (λ v. (steps v (commands_of now ms)).end) (one_asked w m) ∙ steps_are now ms

-- what requests ask from a World that commands lead to
pub requests_refine : (w end : World) (ms : List Marked) → end ≡ world_after w ms → IsReachable w → Refines w (commands_of w ms) end
requests_refine w end ms is from = subst (Refines w (commands_of w ms)) (steps_are w ms ∙ sym is) (steps_refine w (commands_of w ms) from)

-- what they ask from a World that has nothing but an operator's token
pub requests_refine_from_none : (w end : World) (ms : List Marked) → end ≡ world_after w ms → (operator : Token) → w ≡ opening operator → RefinesFromNone operator (commands_of w ms) end
requests_refine_from_none w end ms is operator opens =
    let asked : List Asked = commands_of (opening operator) ms in
    let led : world_after (opening operator) ms ≡ end = sym (is ∙ ap (λ v. world_after v ms) opens) in
    subst (λ v. RefinesFromNone operator (commands_of v ms) end) (sym opens) (subst (RefinesFromNone operator asked) (steps_are (opening operator) ms ∙ led) (run_refines operator asked))
