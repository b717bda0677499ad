use Rattle.mx_tables.proofs.Common.{◌∙◌}
use Rattle.std.proofs.Common.{ap}
use Rattle.std.specs.FinMap as fmap
use Rattle.std.specs.Prelude.{sum_by}
use Rattle.mx_book.proofs.SpellLemmas.{uncollected_at}
use Rattle.mx_memory.specs.Due.{amount_at}
use Rattle.mx_tables.specs.Cached.{IsDue, due_of}
use Rattle.mx_tables.proofs.CollectLemmas.{due_summed}
use Rattle.mx_tables.proofs.ThroughLemmas.{through_fault, through_filled, through_more, through_short, through_then}
use Rattle.mx_tables.proofs.due.sum_due.Goals as goal

pub returns-in_err-due : goal.returns-in_err-due
returns-in_err-due g c = through_fault g.S.Store c.in_err-due.ensures c.from_residual.ensures.1

pub returns-in_err-keys : goal.returns-in_err-keys
returns-in_err-keys g c = through_short g.S.Store
    (through_filled g.S.Store {y = tt {0}} {other = λ rows w x. Unit {0}} c.in_ok-due.ensures (λ r w s is it. c.fill_due.ensures r is it) (λ r w s is. tt))
    c.from_residual-in_err-keys.ensures.1

pub returns : goal.returns
returns g c = through_more g.S.Store (through_then g.S.Store {is = λ r w x. IsDue r (due_of c.in_ok-due.due)}
    (through_filled g.S.Store {y = tt {0}} c.in_ok-due.ensures (λ r w s is it. c.fill_due.ensures r is it) (λ r w s is. is))
    (c.sum_amounts.ensures _))
    (λ r w s n both.
    both.1 ∙ ap (sum_by (λ key. amount_at (fmap.get r.redemptions key))) (c.deref.ensures.value ∙ c.in_ok-keys.ensures)
    ∙ due_summed r (due_of c.in_ok-due.due) both.0 c.args.member ∙ uncollected_at r w c.args.member s)
