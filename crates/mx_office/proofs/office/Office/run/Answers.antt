use Rattle.std.proofs.Common.{◌≡◌, [], ◌∙◌, arith, inl, inr, refl, rules, subst, sym, take}
use Rattle.std.proofs.lemmas.List.{take_all}
use Rattle.std.specs.List.{AllByRecursion}
use Rattle.mx_command.specs.Commands.{IsAsked}
use Rattle.mx_book.specs.Stands.{attempt_all}
use Rattle.mx_book.specs.World.{World}
use Rattle.mx_book.specs.declared.contract.StoreFault.TheVariants.{Store}
use Rattle.mx_book.proofs.StandLemmas.{later_then, low_before, low_sure, sure_before}
use Rattle.mx_book.proofs.ViewLemmas.{moves_none}
use Rattle.mx_office.specs.Reachable.{IsReachable}
use Rattle.mx_office.specs.Run.{MayBeUndone, Runs, attempts}
use Rattle.mx_office.proofs.OutcomeLemmas.{asked_more, refused_last, runs_replied, runs_undone, undone_before}
use Rattle.mx_office.proofs.BalanceCommandLemmas.{reachable_balanced}
use Rattle.mx_office.proofs.LawLemmas.{run_accounts, run_told}
use Rattle.mx_office.proofs.ConservedLemmas.{reachable_conserved}
use Rattle.mx_office.proofs.RefinementLemmas.{answered_refine}
use Rattle.mx_office.proofs.ReachLemmas.{reachable_run, never_full_run}
use Rattle.mx_office.proofs.StepLemmas.{reachable_world}
use Rattle.mx_office.proofs.office.Office.run.Goals as goal
use Rattle.mx_office.proofs.office.Office.run.Goals.{in-Ok, in-Err}

pub loop-caller-init : goal.loop-caller-init
loop-caller-init g c = record {
  count = search rules;
  room = search rules;
  values = tt;
  still = λ still. still;
  later = λ still. omega arith;
  run = λ still low.
      let none : c.in_ok-outcomes.outcomes.items ≡ [] = search rules in
      rw none (record { moves = moves_none _ still; run = refl });
  undone = λ still sure all. refl;
}

pub loop-caller-preserved : goal.loop-caller-preserved
loop-caller-preserved g c = record {
  count = search rules;
  room = search rules;
  values = asked_more _ _ c.loop-caller-item.result c.loop-caller-test.true c.loop-caller-item.is c.loop-caller.invariant.values c.answer.ensures.asked;
  still = λ still. c.answer.ensures.settled;
  later = λ still. later_then (c.loop-caller.invariant.later still) (c.answer.ensures.later (c.loop-caller.invariant.still still));
  run = λ still low.
      let at = c.loop-caller.invariant.still still in
      let later = c.answer.ensures.later at in
      let so_far = c.loop-caller.invariant.run still (low_before later low) in
      elim c.match-answer.branch [
        | in-Ok v ↦
            let done = v.in-Ok.ensures.attempts at in
            let sure = sure_before later (done.sure low) in
            runs_replied g.B.Book.fails c.args.commands.now c.loop-caller.caller-index c.loop-caller-item.result _ _ _ c.loop-caller-test.true c.loop-caller-item.is c.push_reserved.ensures.items so_far _ v.outcome-is sure (v.in-Ok.ensures.reply low) done.made
        | in-Err v ↦
            let done = v.in-Err.ensures.attempts at in
            let end : World = attempt_all (g.B.Book.view c.args.self.now.book).world (attempts (take c.loop-caller.caller-index c.args.commands.now) c.loop-caller.outcomes.items) in
            let why : MayBeUndone g.B.Book.fails end c.loop-caller-item.result = elim (g.met.B.Book.doubted c.answer.new.self.book) [
              | inl sure ↦ (v.in-Err.field-0, rw (sym (so_far.moves.world (sure_before later sure))) (v.in-Err.ensures.memory sure))
              | inr fails ↦ (Store, inr (fails Store))
            ] in
            runs_undone g.B.Book.fails c.args.commands.now c.loop-caller.caller-index c.loop-caller-item.result _ _ _ c.loop-caller-test.true c.loop-caller-item.is c.push_reserved.ensures.items so_far v.outcome-is why done.undone
      ];
  undone = λ still sure all.
      let at = c.loop-caller.invariant.still still in
      let before = sure_before (c.answer.ensures.later at) sure in
      let parts = undone_before _ _ _ c.push_reserved.ensures.items all in
      let so_far = c.loop-caller.invariant.undone still before parts.0 in
      elim c.match-answer.branch [
        | in-Ok v ↦ refused_last _ _ _ _ _ v.outcome-is parts.1 (v.in-Ok.ensures.refused sure) so_far
        | in-Err v ↦ (v.in-Err.ensures.attempts at).undone.world sure ∙ so_far
      ];
}

pub returns-clause-run : goal.returns-clause-run
returns-clause-run g c = λ still low.
    subst (λ cs. Runs g.B.Book.fails (g.B.Book.view c.args.self.now.book) (g.B.Book.view c.loop-caller.self.book) cs c.loop-caller.outcomes.items) (take_all c.loop-caller.caller-index c.args.commands.now (search rules)) (c.loop-caller.invariant.run still low)

pub returns-clause-undone : goal.returns-clause-undone
returns-clause-undone g c = c.loop-caller.invariant.undone

pub returns-clause-reachable : goal.returns-clause-reachable
returns-clause-reachable g c = λ still sure reachable.
    let led = returns-clause-run g c still (low_sure sure) in
    let values = subst (AllByRecursion IsAsked) (take_all c.loop-caller.caller-index c.args.commands.now (search rules)) c.loop-caller.invariant.values in
    let ends = subst IsReachable (sym (led.moves.world sure)) (reachable_run _ _ _ c.args.commands.now c.loop-caller.outcomes.items values led.run reachable) in
    record { reachable = ends; world = reachable_world _ ends; balanced = reachable_balanced _ ends; conserved = reachable_conserved _ ends }

pub returns-clause-never_full : goal.returns-clause-never_full
returns-clause-never_full g c = λ still sure reachable.
    let led = returns-clause-run g c still (low_sure sure) in
    let values = subst (AllByRecursion IsAsked) (take_all c.loop-caller.caller-index c.args.commands.now (search rules)) c.loop-caller.invariant.values in
    never_full_run _ _ _ c.args.commands.now c.loop-caller.outcomes.items values led.run reachable

-- the holders are kept apart, since what stands is the World of the steps of what was answered
pub returns-clause-accounts : goal.returns-clause-accounts
returns-clause-accounts g c = λ still sure h.
    let led = returns-clause-run g c still (low_sure sure) in
    run_accounts g.B.Book.fails _ _ _ h c.args.commands.now c.loop-caller.outcomes.items led.run (led.moves.world sure)

pub returns-clause-told : goal.returns-clause-told
returns-clause-told g c = λ still sure h.
    let led = returns-clause-run g c still (low_sure sure) in
    run_told g.B.Book.fails _ _ h c.args.commands.now c.loop-caller.outcomes.items led.run

-- what was answered is what the abstract purses do
pub returns-clause-refines : goal.returns-clause-refines
returns-clause-refines g c = λ still sure reachable.
    let led = returns-clause-run g c still (low_sure sure) in
    answered_refine g.B.Book.fails _ _ _ c.args.commands.now c.loop-caller.outcomes.items led.run (led.moves.world sure) reachable
