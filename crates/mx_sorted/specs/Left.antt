-- What an iterator over rows has left.
use Rattle.std.specs.Prelude.{List, ◌++◌}
use Rattle.mx_sorted.specs.declared.rows.Rows.{Rows}
use Rattle.mx_sorted.specs.Blocks.{rows_in}

abbrev pub rows_left : {K V : Type 0} → Rows K V → List (K × V)
rows_left r = r.block.now ++ rows_in r.rest.now
