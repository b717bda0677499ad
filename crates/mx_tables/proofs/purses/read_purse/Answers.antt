use Rattle.std.proofs.Common.{sym}
use Rattle.mx_tables.proofs.ThroughLemmas.{through_cache}
use Rattle.mx_tables.proofs.purses.read_purse.Goals as goal

pub returns : goal.returns
returns g c = through_cache g.S.Store (λ rows w s it. (it, sym (rw c.in-Some.is at (c.purse.ensures rows it))))
