use Rattle.mx_purse.proofs.Laws.{new_is}
use Rattle.mx_purse.proofs.purse.Purse.new.Goals as goal

pub invariant_of-result : goal.invariant_of-result
invariant_of-result c = rw (c.zero.ensures, c.new.ensures) (new_is c.args.name c.as_str-text.ensures.valid)

pub returns-clause-whole : goal.returns-clause-whole
returns-clause-whole c = rw (c.zero.ensures, c.new.ensures) (new_is c.args.name c.as_str-text.ensures.valid)
