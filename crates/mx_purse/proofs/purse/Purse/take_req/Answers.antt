use Rattle.std.proofs.Common.{◌≡◌, ◌∙◌, true}
use Rattle.mx_purse.specs.Operations.{expects_req}
use Rattle.mx_purse.proofs.OperationLemmas.{req_is}
use Rattle.mx_purse.proofs.purse.Purse.take_req.Goals as goal

pub invariant_of-self : goal.invariant_of-self
invariant_of-self c =
    let expected : expects_req c.self.inside.status c.args.details.now ≡ true = cc in
    rw (c.get.ensures.value ∙ c.value.ensures.value) (req_is _ c.args.details.now c.self.invariant expected)

pub returns-clause-whole : goal.returns-clause-whole
returns-clause-whole c =
    let expected : expects_req c.self.inside.status c.args.details.now ≡ true = cc in
    rw (c.get.ensures.value ∙ c.value.ensures.value) (req_is _ c.args.details.now c.self.invariant expected)
