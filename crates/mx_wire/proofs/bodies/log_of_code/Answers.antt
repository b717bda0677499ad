use Rattle.std.proofs.Common.{sym, ◌∙◌}
use Rattle.mx_wire.proofs.BodyLemmas.{log_read}
use Rattle.mx_wire.proofs.bodies.log_of_code.Goals as goal

pub returns-clause-value : goal.returns-clause-value
returns-clause-value c = log_read c.args.text.now _ c.read_code.ensures.found c.read_code.ensures.valid c.read_code.ensures.only

pub returns-clause-only : goal.returns-clause-only
returns-clause-only c = λ log valid is.
    sym (log_read c.args.text.now _ c.read_code.ensures.found c.read_code.ensures.valid c.read_code.ensures.only) ∙ c.read_code.ensures.only log valid is
