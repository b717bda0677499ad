use Rattle.std.proofs.Common.{sym, ◌∙◌}
use Rattle.mx_wire.proofs.BodyLemmas.{entry_read}
use Rattle.mx_wire.proofs.bodies.entry_of.Goals as goal

pub returns-clause-value : goal.returns-clause-value
returns-clause-value c = entry_read c.args.text.now _ c.read_details.ensures.found c.read_details.ensures.valid c.read_details.ensures.only

pub returns-clause-only : goal.returns-clause-only
returns-clause-only c = λ d valid is.
    sym (entry_read c.args.text.now _ c.read_details.ensures.found c.read_details.ensures.valid c.read_details.ensures.only) ∙ c.read_details.ensures.only d valid is
