use Rattle.mx_sorted.proofs.PlaceLemmas.{put_at}
use Rattle.mx_sorted.proofs.blocks.put_row.Goals as goal

pub returns-in-At-clause-items : goal.returns-in-At-clause-items
returns-in-At-clause-items g c = put_at g.K.Ord.cmp c.args.key c.deref.result.now c.args.rows.now.items c.in-At.i c.index_mut.result.now c.args.value c.deref.ensures.value c.in-At.ensures c.index_mut.ensures.value
