use Rattle.std.proofs.Common.{length, ◌∙◌, ap}
use Rattle.std.specs.Ordering.{nat_cmp}
use Rattle.mx_pay.specs.Names.{name_cmp}
use Rattle.mx_sorted.specs.Blocks.{first_of}
use Rattle.mx_sorted.specs.Slots.{map_of}
use Rattle.mx_book.specs.Under.{pair_cmp}
use Rattle.mx_book.proofs.FrontLemmas.{rows_of_purse}
use Rattle.mx_memory.proofs.shelves.tables.Shelves.held.Goals as goal

pub returns : goal.returns
returns c =
    let m = map_of (pair_cmp name_cmp nat_cmp) c.args.self.now.inbox in
    c.count_messages.ensures ∙ ap length (ap (first_of c.args.purse) c.rows_from.ensures ∙ rows_of_purse c.args.purse m)
