use Rattle.std.proofs.Common.{◌∙◌}
use Rattle.mx_book.specs.Sums.{sum_entries, sum_values}
use Rattle.mx_book.specs.RowTotals.{row_sums_of}
use Rattle.mx_memory.specs.Shelves.{rows_of}
use Rattle.mx_book.specs.declared.values.Scope.TheVariants.{Member}
use Rattle.mx_memory.proofs.JoinLemmas.{balances_joined}
use Rattle.mx_memory.proofs.shelves.tables.Shelves.sums_of.Goals as goal

pub returns : goal.returns
unfolding sum_entries sum_values
returns c =
    let r = rows_of c.args.self.now in
    let uncollected = rw c.rows.ensures at c.uncollected_in.ensures in
    let issued = rw c.rows-2.ensures at c.issued_in.ensures in
    let redeemed = rw c.rows-3.ensures at c.redeemed_in.ensures in
    let balances = (rw c.rows-4.ensures at c.balances_in.ensures) ∙ balances_joined r.holders (Member c.args.member) r.purses in
    λ i. record (row_sums_of r c.args.member c.args.row.now) {
      uncollected = uncollected i;
      issued = issued i;
      redeemed = redeemed i;
      balances = balances i;
    }
