use Rattle.mx_tables.proofs.Common.{◌∙◌}
use Rattle.mx_book.proofs.HeldLemmas.{held_names}
use Rattle.mx_book.proofs.SpellLemmas.{purses_at}
use Rattle.mx_tables.specs.Cached.{index_of}
use Rattle.mx_tables.proofs.ThroughLemmas.{through_fault, through_filled, through_short}
use Rattle.mx_tables.proofs.owners.list_purses.Goals as goal

pub returns-in_err-owners : goal.returns-in_err-owners
returns-in_err-owners g c = through_fault g.S.Store c.in_err-owners.ensures c.from_residual.ensures.1

pub returns-in_err-names : goal.returns-in_err-names
returns-in_err-names g c = through_short g.S.Store
    (through_filled g.S.Store {y = tt {0}} {other = λ rows w x. Unit {0}} c.in_ok-owners.ensures (λ rows w s is it. c.fill_owners.ensures rows is it) (λ rows w s is. tt))
    c.from_residual-in_err-names.ensures.1

pub returns : goal.returns
returns g c = through_filled g.S.Store c.in_ok-owners.ensures (λ rows w s is it. c.fill_owners.ensures rows is it)
    (λ rows w s is. c.in_ok-names.ensures ∙ held_names rows.purses (index_of c.in_ok-owners.owners) is c.args.holder.now ∙ purses_at rows w c.args.holder.now s)
