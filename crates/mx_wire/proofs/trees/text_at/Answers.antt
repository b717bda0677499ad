use Rattle.std.proofs.Common.{rules, sym}
use Rattle.mx_wire.proofs.TreeLemmas.{text_at_of}
use Rattle.mx_wire.proofs.trees.text_at.Goals as goal

pub returns-in_err-found : goal.returns-in_err-found
returns-in_err-found c = rw (text_at_of c.args.key.now c.args.value.now c.requires, sym c.get.ensures) (search rules)

pub returns : goal.returns
returns c = rw (text_at_of c.args.key.now c.args.value.now c.requires, sym c.get.ensures) (search rules)
