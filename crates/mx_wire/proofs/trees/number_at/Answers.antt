use Rattle.std.proofs.Common.{rules, sym}
use Rattle.mx_wire.proofs.TreeLemmas.{number_at_of}
use Rattle.mx_wire.proofs.trees.number_at.Goals as goal

pub returns-in_err-get : goal.returns-in_err-get
returns-in_err-get c = rw (number_at_of c.args.key.now c.args.value.now c.requires, sym c.get.ensures) (search rules)

pub returns-in_err-text : goal.returns-in_err-text
returns-in_err-text c = rw (number_at_of c.args.key.now c.args.value.now c.requires, sym c.get.ensures) (search rules)

pub returns : goal.returns
returns c = rw (number_at_of c.args.key.now c.args.value.now c.requires, sym c.get.ensures) (search rules)
