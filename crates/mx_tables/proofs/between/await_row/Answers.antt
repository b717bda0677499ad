use Rattle.mx_tables.proofs.Common.{◌∙◌}
use Rattle.std.proofs.Common.{sym, ap}
use Rattle.mx_book.specs.RowTotals.{awaited}
use Rattle.mx_tables.proofs.CallLemmas.{asks_as, asks_more, asks_never, asks_ok, reads_none}
use Rattle.mx_tables.proofs.CountedSums.{none_awaited, wait_is}
use Rattle.mx_tables.proofs.between.await_row.Goals as goal

pub returns-in-Epv-clause-asks : goal.returns-in-Epv-clause-asks
returns-in-Epv-clause-asks g c live = asks_more g.S.Store (asks_as g.S.Store c.value_left.ensures.asks (λ r holds it. it.0)) (λ r holds n is purses archive.
    is purses archive ∙ ap (awaited r.purses r.archive) (sym c.in-Epv.is)
    ∙ wait_is r c.args.row.now c.in_ok-details.field-0 c.in_ok-details.ensures.shown.0 c.in_ok-details.ensures.shown.1 c.in_ok-details.ensures.valid)

pub returns-in_default-clause-asks : goal.returns-in_default-clause-asks
returns-in_default-clause-asks g c live = asks_ok g.S.Store (reads_none g.S.Store live (λ r holds purses archive.
    none_awaited r c.args.row.now c.in_ok-details.field-0 c.in_default.not-Epv
    ∙ wait_is r c.args.row.now c.in_ok-details.field-0 c.in_ok-details.ensures.shown.0 c.in_ok-details.ensures.shown.1 c.in_ok-details.ensures.valid))

pub returns-in_err-details-clause-asks : goal.returns-in_err-details-clause-asks
returns-in_err-details-clause-asks g c live = asks_never g.S.Store c.from_residual.ensures.0 (λ r holds it.
    absurd (let ok = c.in_err-details.ensures.there it.1.0 it.1.1 it.1.2.0 it.1.2.1.0 in cc))
