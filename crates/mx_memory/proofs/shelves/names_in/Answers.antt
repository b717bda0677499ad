use Rattle.std.proofs.Common.{◌++◌, rules}
use Rattle.std.proofs.lemmas.Iterator.{items_from_collect, YieldsList-from_map}
use Rattle.std.proofs.lemmas.Iterator.Consumers.{YieldsList-from_first}
use Rattle.mx_sorted.specs.Blocks.{rows_in}
use Rattle.mx_memory.proofs.shelves.names_in.Goals as goal

pub returns : goal.returns
returns g c =
    items_from_collect _ c.collect.ensures.ran
    (YieldsList-from_map _ _ (YieldsList-from_first (λ x. x.now) (λ s. s.block.now ++ rows_in s.rest.now) (c.args.rows.block.now ++ rows_in c.args.rows.rest.now) (cc)) c.map.ensures.closure (λ x r q k. search rules))
