use Rattle.mx_tables.proofs.Common.{Option, Some, Row, ◌∙◌, arith}
use Rattle.std.proofs.Common.{sym, ap, subst}
use Rattle.std.specs.FinMap as fmap
use Rattle.std.specs.Prelude.{IfSome}
use Rattle.mx_cells.specs.Cells.{purse_shown}
use Rattle.mx_tables.proofs.ValueLemmas.{purse_back}
use Rattle.mx_tables.proofs.ReadLemmas.{one_mapped}
use Rattle.mx_tables.proofs.CallLemmas.{asks_fault, asks_ok, asks_wrong, reads_to}
use Rattle.mx_tables.proofs.FaultLemmas.{HasPurse, purse_read}
use Rattle.mx_tables.proofs.purses.find_purse.Goals as goal

pub returns-in_err-row : goal.returns-in_err-row
returns-in_err-row g c = asks_fault g.S.Store c.in_err-row.ensures c.from_residual.ensures.1

pub returns-in-None : goal.returns-in-None
returns-in-None g c = asks_ok g.S.Store (reads_to g.S.Store c.in_ok-row.ensures.reads (λ r holds is purses. grind (arith, is)))

pub returns-in_ok-purse_in-in-Some : goal.returns-in_ok-purse_in-in-Some
returns-in_ok-purse_in-in-Some g c = asks_ok g.S.Store (reads_to g.S.Store c.in_ok-row.ensures.reads (λ r holds is purses.
    let one = one_mapped purse_shown (fmap.get r.purses c.args.name.now) c.in-Some.row (sym c.in-Some.is ∙ is) in
    let read = c.in_ok-purse_in-in-Some in
    let kept = purses c.args.name.now one.0 one.1 in
    ap Some (purse_back one.0 read.field-0 c.in-Some.row kept.1 read.ensures.valid (kept.0 ∙ sym read.ensures.named) one.2 read.ensures.shown) ∙ sym one.1))

pub returns-in_err-purse_in-in-Some : goal.returns-in_err-purse_in-in-Some
returns-in_err-purse_in-in-Some g c = asks_wrong g.S.Store c.in_ok-row.ensures.reads c.from_residual-in_err-purse_in-in-Some.ensures.0 (λ r holds it is.
    let x : HasPurse c.args.name.now c.in-Some.row = subst (λ (o : Option Row). IfSome o (HasPurse c.args.name.now)) c.in-Some.is (purse_read r it.0 it.1 c.args.name.now _ is) in
    absurd (let ok = c.in_err-purse_in-in-Some.ensures.there x.0 x.1 x.2 x.3 x.4 in cc))
