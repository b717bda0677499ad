use Rattle.mx_tables.proofs.Common.{◌∙◌}
use Rattle.std.proofs.Common.{ap, is_some}
use Rattle.mx_book.proofs.SpellLemmas.{there_at}
use Rattle.mx_tables.proofs.ThroughLemmas.{through_fault, through_to}
use Rattle.mx_tables.proofs.purses.has_purse.Goals as goal

pub returns-in_err-read_purse : goal.returns-in_err-read_purse
returns-in_err-read_purse g c = through_fault g.S.Store c.in_err-read_purse.ensures c.from_residual.ensures.1

pub returns : goal.returns
returns g c = through_to g.S.Store c.in_ok-read_purse.ensures (λ rows w s is. c.is_some.ensures ∙ ap is_some is ∙ there_at rows w c.args.name.now s)
