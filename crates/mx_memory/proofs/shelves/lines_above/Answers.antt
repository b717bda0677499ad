use Rattle.std.proofs.Common.{◌++◌, rules}
use borrow.Author.Tests.{tests}
use Rattle.std.proofs.lemmas.Iterator.{items_from_collect, YieldsList-from_map, YieldsList-from_take}
use Rattle.std.proofs.lemmas.Iterator.Consumers.{YieldsList-from_first, YieldsList-from_filter, YieldsList-at}
use Rattle.std.proofs.lemmas.Iterator.Search.{YieldsList-from_take_while}
use Rattle.mx_sorted.specs.Blocks.{rows_in}
use Rattle.mx_memory.proofs.shelves.lines_above.Goals as goal

pub returns : goal.returns
returns c =
    items_from_collect _ c.collect.ensures.ran
    (YieldsList-from_map _ _ (YieldsList-at c.map.ensures.source
    (YieldsList-from_take _ (YieldsList-at c.take.ensures.source
    (YieldsList-from_filter _ _ (YieldsList-at c.filter.ensures.source
    (YieldsList-from_take_while _ _ (YieldsList-from_first (λ x. x.now) (λ s. s.block.now ++ rows_in s.rest.now) (c.args.rows.block.now ++ rows_in c.args.rows.rest.now) (cc)) c.take_while.ensures.closure c.take_while.ensures.done (λ x r q k. search (rules, tests))))
    c.filter.ensures.closure (λ x r q k. search (rules, tests)))) c.take.ensures.count))
    c.map.ensures.closure (λ x r q k. search rules))
