use Rattle.std.specs.FinMap.Entries.{is_sorted-where_key}
use Rattle.mx_sorted.specs.Blocks.{rows_in}
use Rattle.mx_sorted.proofs.TableLemmas.{remove_is}
use Rattle.mx_sorted.proofs.table.Table.remove.Goals as goal

pub invariant_of-self : goal.invariant_of-self
invariant_of-self g c = record {
  sorted = rw c.remove.ensures.rows (is_sorted-where_key g.K.Ord.cmp _ _ c.self.invariant.sorted);
  sound = c.remove.ensures.sound;
}

pub returns-clause-map : goal.returns-clause-map
returns-clause-map g c = rw (← c.self.view_is) (remove_is g.met.K.Ord.total g.met.K.Key.exact (rows_in c.self.inside.blocks.items) (rows_in c.remove.new.blocks.items) c.args.key c.self.invariant.sorted c.remove.ensures.rows)
