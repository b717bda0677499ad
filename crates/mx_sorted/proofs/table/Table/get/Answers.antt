use Rattle.std.proofs.Common.{ap, option_map}
use Rattle.mx_sorted.specs.Blocks.{rows_in}
use Rattle.mx_sorted.proofs.TableLemmas.{get_is}
use Rattle.mx_sorted.proofs.table.Table.get.Goals as goal

pub returns : goal.returns
returns g c = rw (← c.self.view_is) (get_is g.K.Ord.cmp (rows_in c.self.inside.blocks.items) (rows_in c.deref.result.now) c.args.key (option_map (λ v. v.now) c.get.result) c.self.invariant.sorted (ap rows_in c.deref.ensures.value) c.get.ensures)
