use Rattle.std.proofs.Common.{◌≡◌, ℕ, List, ◌&&◌, ◌++◌, ◌∙◌, ap}
use Rattle.std.specs.Prelude.{filter, nat_lt}
use Rattle.std.specs.FinMap.{entries}
use Rattle.std.specs.Ordering.{nat_cmp}
use Rattle.mx_pay.specs.Names.{name_cmp, is_name}
use Rattle.mx_book.specs.declared.values.LineRow.{LineRow}
use Rattle.mx_sorted.specs.Blocks.{rows_in, first_of}
use Rattle.mx_sorted.specs.Slots.{map_of}
use Rattle.mx_book.specs.Under.{pair_cmp}
use Rattle.mx_book.proofs.FrontLemmas.{rows_above}
use Rattle.mx_memory.proofs.shelves.tables.Shelves.lines_of.Goals as goal

pub returns : goal.returns
returns c =
    let m = map_of (pair_cmp name_cmp nat_cmp) c.args.self.now.lines in
    let above = λ (e : (List ℕ × ℕ) × LineRow). nat_lt c.args.after e.0.1 in
    let e : filter above (first_of c.args.purse (c.rows_from.result.block.now ++ rows_in c.rows_from.result.rest.now)) ≡ filter (λ (e : (List ℕ × ℕ) × LineRow). is_name c.args.purse e.0.0 && nat_lt c.args.after e.0.1) (entries m) = ap (λ es. filter above (first_of c.args.purse es)) c.rows_from.ensures ∙ rows_above c.args.purse m c.args.after in
    rw (← e) c.lines_above.ensures
