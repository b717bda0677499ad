use Rattle.std.proofs.Common.{is_some, sym, ◌∙◌, ap}
use Rattle.std.specs.FinMap.{get-from_sorted}
use Rattle.std.specs.FinMap.Entries.{is_sorted-put}
use Rattle.mx_sorted.specs.Blocks.{rows_in}
use Rattle.mx_sorted.proofs.TableLemmas.{put_is}
use Rattle.mx_sorted.proofs.table.Table.put.Goals as goal

pub invariant_of-self : goal.invariant_of-self
invariant_of-self g c = record {
  sorted = rw c.put.ensures.rows (is_sorted-put g.K.Ord.cmp g.met.K.Ord.total _ _ _ c.self.invariant.sorted);
  sound = c.put.ensures.sound;
}

pub returns-clause-map : goal.returns-clause-map
returns-clause-map g c = rw (← c.self.view_is) (put_is g.met.K.Ord.total (rows_in c.self.inside.blocks.items) (rows_in c.put.new.blocks.items) c.args.key c.args.value c.self.invariant.sorted c.put.ensures.rows)

pub returns-clause-kept : goal.returns-clause-kept
returns-clause-kept g c = rw (← c.self.view_is) (λ there. c.put.ensures.kept (ap is_some (sym (get-from_sorted g.K.Ord.cmp (rows_in c.self.inside.blocks.items) c.args.key c.self.invariant.sorted)) ∙ there))
