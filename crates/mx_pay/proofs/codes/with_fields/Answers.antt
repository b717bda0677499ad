use Rattle.mx_pay.proofs.EntryLemmas.{new_apart}
use Rattle.mx_pay.proofs.codes.with_fields.Goals as goal

pub returns : goal.returns
returns c = new_apart c.new.result _ c.new.ensures.none c.new.ensures.new
