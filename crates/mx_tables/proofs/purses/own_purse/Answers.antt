use Rattle.mx_tables.proofs.Common.{◌∙◌}
use Rattle.mx_book.proofs.SpellLemmas.{own_at}
use Rattle.mx_tables.proofs.ThroughLemmas.{through_fault, through_to}
use Rattle.mx_tables.proofs.purses.own_purse.Goals as goal

pub returns-in_err-row : goal.returns-in_err-row
returns-in_err-row g c = through_fault g.S.Store c.in_err-row.ensures c.from_residual.ensures.1

pub returns : goal.returns
returns g c = through_to g.S.Store c.in_ok-row.ensures (λ rows w s is. rw is at c.own_in.ensures ∙ own_at rows w c.args.holder.now c.args.name.now s)
