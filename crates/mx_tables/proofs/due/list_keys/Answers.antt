use Rattle.std.proofs.Common.{◌++◌, rules}
use borrow.Author.Tests.{tests}
use Rattle.std.proofs.lemmas.Iterator.{items_from_collect}
use Rattle.std.proofs.lemmas.Iterator.Consumers.{YieldsList-from_first, YieldsList-from_filter_map, YieldsList-at}
use Rattle.std.proofs.lemmas.Iterator.Search.{YieldsList-from_take_while}
use Rattle.mx_sorted.specs.Blocks.{rows_in}
use Rattle.mx_tables.proofs.due.list_keys.Goals as goal

pub returns : goal.returns
returns c =
    rw (← c.rows_from-rows.ensures) (items_from_collect _ c.collect.ensures.ran
    (YieldsList-from_filter_map _ _ (YieldsList-at c.filter_map.ensures.source (YieldsList-from_take_while _ _ (YieldsList-from_first (λ x. x.now) (λ s. s.block.now ++ rows_in s.rest.now) (c.rows_from-rows.result.block.now ++ rows_in c.rows_from-rows.result.rest.now) (cc)) c.take_while.ensures.closure c.take_while.ensures.done (λ x r q k. search (rules, tests)))) c.filter_map.ensures.closure (λ x r q k. search (rules, tests))))
