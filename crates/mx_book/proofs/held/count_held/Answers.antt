use Rattle.std.proofs.Common.{Option, length, filter_map, ◌++◌, ◌∙◌, ap, rules}
use borrow.Author.Tests.{tests}
use Rattle.std.proofs.lemmas.Iterator.Consumers.{YieldsList-from_first, YieldsList-from_filter_map, YieldsList-at, count_from_yields_List}
use Rattle.std.proofs.lemmas.Iterator.Search.{YieldsList-from_take_while}
use Rattle.mx_sorted.specs.Blocks.{rows_in, first_of}
use Rattle.mx_book.specs.World.{Name}
use Rattle.mx_book.proofs.held.count_held.Goals as goal

pub returns : goal.returns
returns c =
    count_from_yields_List c.filter_map.result _ c.count.ensures.ran
    (YieldsList-from_filter_map _ _ (YieldsList-at c.filter_map.ensures.source (YieldsList-from_take_while _ _ (YieldsList-from_first (λ x. x.now) (λ s. s.block.now ++ rows_in s.rest.now) (c.rows_from.result.block.now ++ rows_in c.rows_from.result.rest.now) (cc)) c.take_while.ensures.closure c.take_while.ensures.done (λ x r q k. search (rules, tests)))) c.filter_map.ensures.closure (λ x r q k. search (rules, tests)))
    ∙ ap (λ es. length (filter_map (λ (e : (Name × Option Name) × Unit {0}). e.0.1) (first_of c.args.holder es))) c.rows_from.ensures
