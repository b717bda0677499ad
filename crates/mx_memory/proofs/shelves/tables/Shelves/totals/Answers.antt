use Rattle.std.proofs.Common.{◌∙◌}
use Rattle.mx_book.specs.Sums.{sum_entries, sum_values}
use Rattle.mx_book.specs.RowTotals.{row_totals_of}
use Rattle.mx_memory.specs.Shelves.{rows_of}
use Rattle.mx_book.specs.declared.values.Scope.TheVariants.{Scheme}
use Rattle.mx_memory.proofs.JoinLemmas.{balances_joined, transit_joined}
use Rattle.mx_memory.proofs.shelves.tables.Shelves.totals.Goals as goal

pub returns : goal.returns
unfolding sum_entries sum_values
returns c =
    let r = rows_of c.args.self.now in
    let granted = rw c.rows.ensures at c.granted_in.ensures in
    let float = rw c.rows-2.ensures at c.float_in.ensures in
    let uncollected = rw c.rows-3.ensures at c.uncollected_in.ensures in
    let issued = rw c.rows-4.ensures at c.issued_in.ensures in
    let redeemed = rw c.rows-5.ensures at c.redeemed_in.ensures in
    let balances = (rw c.rows-6.ensures at c.balances_in.ensures) ∙ balances_joined r.holders Scheme r.purses in
    let transit = (rw c.rows-7.ensures at c.transit_in.ensures) ∙ transit_joined r.purses r.archive in
    λ i. record (row_totals_of r) {
      granted = granted i;
      float = float i;
      uncollected = uncollected i;
      issued = issued i;
      redeemed = redeemed i;
      balances = balances i;
      transit = transit i;
      lost = c.lost.ensures i;
    }
