-- Worlds that commands lead to.
use Rattle.std.proofs.Common.{List, [], ◌∷◌, ◌++◌, ◌∙◌, ap, sym, subst}
use Rattle.std.specs.List.{AllByRecursion}
use Rattle.mx_book.specs.World.{World, opening}
use Rattle.std.proofs.ByRecursion.{All-append as all_append}
use Rattle.mx_book.specs.declared.contract.StoreFault.{StoreFault}
use Rattle.mx_book.specs.declared.values.Caller.{Caller}
use Rattle.mx_command.specs.declared.values.Command.{Command}
use Rattle.mx_office.specs.declared.values.Outcome.{Outcome}
use Rattle.mx_office.specs.declared.values.Outcome.TheVariants.{Reply as Replied, Unavailable}
use Rattle.mx_command.specs.Commands.{IsAsked, IsCaller, IsCommand, Asked}
use Rattle.mx_office.specs.Reachable.{IsReachable}
use Rattle.mx_office.specs.Run.{IsRun}
use Rattle.mx_office.specs.Step.{step, one_step}
use Rattle.mx_office.specs.Conservation.{IsNeverFull, IsNeverFullOutcome}
use Rattle.mx_office.proofs.FullLemmas.{never_full}
use Rattle.mx_office.proofs.LawLemmas.{course-append}

-- one command more
pub reachable_after : (w : World) (caller : Caller) (command : Command) → IsCaller caller → IsCommand command → IsReachable w → IsReachable (step w caller command).world
reachable_after w caller command asker asked r = record {
  operator = r.operator;
  bytes = r.bytes;
  commands = r.commands ++ (caller, command) ∷ [];
  values = all_append IsAsked r.commands ((caller, command) ∷ []) r.values ((asker, asked), tt);
  leads = ap (λ c. c.end) (course-append one_step (opening r.operator) r.commands ((caller, command) ∷ [])) ∙ ap (λ x. (step x caller command).world) r.leads;
}

-- a run of commands, some of which the book could not do
pub reachable_run : (fails : StoreFault → Type 0) (w end : World) (cs : List Asked) (os : List Outcome) → AllByRecursion IsAsked cs → IsRun fails w cs os end → IsReachable w → IsReachable end
reachable_run fails w end [] [] values is r = subst IsReachable is r
reachable_run fails w end [] (o ∷ os) values is r = absurd is
reachable_run fails w end (c ∷ cs) [] values is r = absurd is
reachable_run fails w end (c ∷ cs) (Replied x ∷ os) values is r = reachable_run fails (step w c.0 c.1).world end cs os values.1 is.1 (reachable_after w c.0 c.1 values.0.0 values.0.1 r)
reachable_run fails w end (c ∷ cs) (Unavailable ∷ os) values is r = reachable_run fails w end cs os values.1 is.1 r

-- none of its outcomes is that a purse or a float is full
pub never_full_run : (fails : StoreFault → Type 0) (w end : World) (cs : List Asked) (os : List Outcome) → AllByRecursion IsAsked cs → IsRun fails w cs os end → IsReachable w → AllByRecursion IsNeverFullOutcome os
never_full_run fails w end [] [] values is r = tt
never_full_run fails w end [] (o ∷ os) values is r = absurd is
never_full_run fails w end (c ∷ cs) [] values is r = absurd is
never_full_run fails w end (c ∷ cs) (Replied x ∷ os) values is r =
    (subst IsNeverFull (sym is.0) (never_full w c.0 c.1 r), never_full_run fails (step w c.0 c.1).world end cs os values.1 is.1 (reachable_after w c.0 c.1 values.0.0 values.0.1 r))
never_full_run fails w end (c ∷ cs) (Unavailable ∷ os) values is r = (tt, never_full_run fails w end cs os values.1 is.1 r)
