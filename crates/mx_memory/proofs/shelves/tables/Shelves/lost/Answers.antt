use Rattle.std.proofs.Common.{◌+◌, ◌∙◌}
use Rattle.mx_book.specs.RowTotals.{lost_in_log}
use Rattle.mx_memory.specs.Shelves.{rows_of}
use Rattle.mx_book.specs.Sums.{sum_entries}
use Rattle.mx_memory.proofs.JoinLemmas.{logs_joined}
use Rattle.mx_memory.proofs.shelves.tables.Shelves.lost.Goals as goal

pub returns : goal.returns
unfolding sum_entries
returns c =
    let r = rows_of c.args.self.now in
    let in_logs = (rw c.rows.ensures at c.lost_in_logs-in_logs.ensures.value) ∙ logs_joined r.purses (lost_in_log r.purses r.archive r.settled) in
    let in_archive = rw c.rows-2.ensures at c.lost_in_results-in_archive.ensures.value in
    λ i. in_logs i + in_archive i
