use Rattle.std.proofs.Common.{ap}
use Rattle.mx_sorted.specs.Blocks.{rows_in}
use Rattle.mx_sorted.proofs.TableLemmas.{empty_is}
use Rattle.mx_sorted.proofs.table.Table.new.Goals as goal

pub returns : goal.returns
returns g c = empty_is g.K.Ord.cmp (rows_in c.new.result.items) (ap rows_in c.new.ensures.items)
