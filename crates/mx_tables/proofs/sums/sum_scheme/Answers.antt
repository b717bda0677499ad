use Rattle.mx_tables.proofs.Common.{◌+◌, ◌∙◌, arith}
use Rattle.std.proofs.Common.{ap, ap₂}
use Rattle.mx_tables.specs.declared.sums.Sums.{Sums}
use Rattle.mx_tables.proofs.CallLemmas.{asks_ok, asks_then, asks_wrong, reads_to, reads_then}
use Rattle.mx_tables.proofs.ToldLemmas.{tell_totals, tells_fault}
use Rattle.mx_tables.proofs.sums.sum_scheme.Goals as goal

pub returns-in_err-granted : goal.returns-in_err-granted
returns-in_err-granted g c = tells_fault g.S.Store c.in_err-granted.ensures c.from_residual.ensures.1

pub returns-in_err-sums : goal.returns-in_err-sums
returns-in_err-sums g c =
    tells_fault g.S.Store (asks_then g.S.Store c.in_ok-granted.ensures.reads c.in_err-sums.ensures) c.from_residual-in_err-sums.ensures.1

pub returns-in_err-transit : goal.returns-in_err-transit
returns-in_err-transit g c =
    tells_fault g.S.Store
    (asks_then g.S.Store (reads_then g.S.Store c.in_ok-granted.ensures.reads c.in_ok-sums.ensures.reads) c.in_err-transit.ensures.asks)
    c.from_residual-in_err-transit.ensures.1

pub returns-in_err-in_logs : goal.returns-in_err-in_logs
returns-in_err-in_logs g c =
    tells_fault g.S.Store
    (asks_then g.S.Store (reads_then g.S.Store (reads_then g.S.Store c.in_ok-granted.ensures.reads c.in_ok-sums.ensures.reads) c.in_ok-transit.ensures.asks.reads) c.in_err-in_logs.ensures.asks)
    c.from_residual-in_err-in_logs.ensures.1

pub returns-in_err-in_archive : goal.returns-in_err-in_archive
returns-in_err-in_archive g c =
    tells_fault g.S.Store
    (asks_then g.S.Store (reads_then g.S.Store (reads_then g.S.Store (reads_then g.S.Store c.in_ok-granted.ensures.reads c.in_ok-sums.ensures.reads) c.in_ok-transit.ensures.asks.reads) c.in_ok-in_logs.ensures.asks.reads) c.in_err-in_archive.ensures.asks)
    c.from_residual-in_err-in_archive.ensures.1

pub returns : goal.returns
returns g c =
    tell_totals g.S.Store (
    asks_ok g.S.Store (reads_to g.S.Store
    (reads_then g.S.Store (reads_then g.S.Store (reads_then g.S.Store (reads_then g.S.Store c.in_ok-granted.ensures.reads c.in_ok-sums.ensures.reads) c.in_ok-transit.ensures.asks.reads) c.in_ok-in_logs.ensures.asks.reads) c.in_ok-in_archive.ensures.asks.reads)
    (λ rows holds all purses entries k.
    let sums = all.0.0.0.1 purses entries in
    record {
      granted = all.0.0.0.0.0 k;
      float = all.0.0.0.0.1 k;
      uncollected = ap (λ (s : Sums). s.uncollected) sums k;
      issued = ap (λ (s : Sums). s.issued) sums k;
      redeemed = ap (λ (s : Sums). s.redeemed) sums k;
      balances = ap (λ (s : Sums). s.balances) sums k;
      transit = all.0.0.1 purses entries k;
      lost = (c.in_ok-plus.ensures.is ∙ ap₂ ◌+◌ (all.0.1 purses entries) (all.1 purses entries)) k;
    })))

pub returns-in_err-plus : goal.returns-in_err-plus
returns-in_err-plus g c = tell_totals g.S.Store (asks_wrong g.S.Store (reads_then g.S.Store (reads_then g.S.Store (reads_then g.S.Store (reads_then g.S.Store c.in_ok-granted.ensures.reads c.in_ok-sums.ensures.reads) c.in_ok-transit.ensures.asks.reads) c.in_ok-in_logs.ensures.asks.reads) c.in_ok-in_archive.ensures.asks.reads) c.from_residual-in_err-plus.ensures.0 (λ r holds it all.
    absurd (let ok = c.in_err-plus.ensures.fits (omega (arith, c.in_ok-in_logs.ensures.small, c.in_ok-in_archive.ensures.small)) in cc)))
