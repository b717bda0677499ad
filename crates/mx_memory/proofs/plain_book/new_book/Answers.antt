use Rattle.std.proofs.Common.{refl, sym, subst}
use Rattle.mx_book.specs.Spells.{Spells}
use Rattle.mx_book.specs.World.{opening}
use Rattle.mx_memory.specs.Shelves.{rows_of}
use Rattle.mx_memory.specs.declared.plain_book.PlainBook.{PlainBook}
use Rattle.mx_standing.specs.The.{the_is}
use Rattle.mx_memory.proofs.plain_book.new_book.Goals as goal

pub of-requires-clause-spelled : goal.of-requires-clause-spelled
of-requires-clause-spelled c = λ sure. ∣ (opening c.args.operator, c.new.ensures) ∣₁

pub returns-clause-world : goal.returns-clause-world
returns-clause-world c = sym (the_is (c.of.result.one refl) (opening c.args.operator) (subst (λ (b : PlainBook). Spells (rows_of b.shelves) (opening c.args.operator)) (sym c.of.ensures) c.new.ensures))
