use Rattle.mx_tables.proofs.Common.{◌∙◌}
use Rattle.std.proofs.Common.{sym}
use Rattle.mx_tables.proofs.SoundLemmas.{purses_valid}
use Rattle.mx_tables.proofs.ThroughLemmas.{through_filled, through_read, through_stopped, through_to}
use Rattle.mx_tables.proofs.purses.fill_purse.Goals as goal

pub returns-in_err-row : goal.returns-in_err-row
returns-in_err-row g c = through_stopped g.S.Store c.in_err-row.ensures c.from_residual.ensures.1

pub returns-in_default : goal.returns-in_default
returns-in_default g c = through_to g.S.Store (through_read g.S.Store c.in_ok-row.ensures (λ rows w s x is. is (purses_valid rows w s))) (λ rows w s is. sym c.in_default.is ∙ is)

pub returns : goal.returns
returns g c = through_filled g.S.Store (through_read g.S.Store c.in_ok-row.ensures (λ rows w s x is. is (purses_valid rows w s)))
    (λ rows w s is it. c.fill_purse.ensures rows (sym is ∙ c.in-Some.is) it) (λ rows w s is. sym c.in-Some.is ∙ is)
