use Rattle.std.proofs.Common.{◌∙◌, sym, ap}
use Rattle.mx_purse.specs.State.{State}
use Rattle.mx_purse.specs.Operations.{aborted, pending, with_pending}
use Rattle.mx_purse.proofs.OperationLemmas.{aborted_is}
use Rattle.mx_purse.proofs.purse.Purse.abort.Goals as goal

pub invariant_of-self : goal.invariant_of-self
invariant_of-self c =
    rw (
      c.lines_left-lines.ensures ∙ ap (λ (q : State). (aborted q).lines) (sym c.self.view_is),
      c.add_pending.ensures ∙ ap (with_pending c.self.inside.log) (c.pending-pending.ensures ∙ ap (λ (q : State). pending q.status) (sym c.self.view_is)),
    ) (aborted_is _ c.self.invariant)

pub returns-clause-whole : goal.returns-clause-whole
returns-clause-whole c =
    rw (
      c.lines_left-lines.ensures ∙ ap (λ (q : State). (aborted q).lines) (sym c.self.view_is),
      c.add_pending.ensures ∙ ap (with_pending c.self.inside.log) (c.pending-pending.ensures ∙ ap (λ (q : State). pending q.status) (sym c.self.view_is)),
    ) (aborted_is _ c.self.invariant)
