use Rattle.std.proofs.Common.{◌≡◌, ◌++◌, ◌∙◌, ap}
use Rattle.std.specs.FinMap.{entries}
use Rattle.std.specs.Ordering.{nat_cmp}
use Rattle.mx_pay.specs.Names.{name_cmp}
use Rattle.mx_sorted.specs.Blocks.{rows_in, first_of}
use Rattle.mx_book.specs.RowReads.{of_name}
use Rattle.mx_sorted.specs.Slots.{map_of}
use Rattle.mx_book.specs.Under.{pair_cmp}
use Rattle.mx_book.proofs.FrontLemmas.{rows_of_purse}
use Rattle.mx_memory.proofs.shelves.tables.Shelves.inbox_of.Goals as goal

pub returns : goal.returns
returns c =
    let m = map_of (pair_cmp name_cmp nat_cmp) c.args.self.now.inbox in
    let e : first_of c.args.purse (c.rows_from.result.block.now ++ rows_in c.rows_from.result.rest.now) ≡ of_name c.args.purse (entries m) = ap (first_of c.args.purse) c.rows_from.ensures ∙ rows_of_purse c.args.purse m in
    rw (← e) c.read_messages.ensures
