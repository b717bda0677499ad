use Rattle.std.proofs.Common.{◌++◌, rules}
use borrow.Author.Tests.{tests}
use Rattle.std.proofs.lemmas.Iterator.Consumers.{YieldsList-from_first, count_from_yields_List}
use Rattle.std.proofs.lemmas.Iterator.Search.{YieldsList-from_take_while}
use Rattle.mx_sorted.specs.Blocks.{rows_in}
use Rattle.mx_memory.proofs.shelves.count_messages.Goals as goal

pub returns : goal.returns
returns c =
    count_from_yields_List c.take_while.result _ c.count.ensures.ran
    (YieldsList-from_take_while _ _ (YieldsList-from_first (λ x. x.now) (λ s. s.block.now ++ rows_in s.rest.now) (c.args.rows.block.now ++ rows_in c.args.rows.rest.now) (cc)) c.take_while.ensures.closure c.take_while.ensures.done (λ x r q k. search (rules, tests)))
