use Rattle.std.proofs.Common.{◌++◌, ◌∙◌, sym, rules}
use borrow.Author.Tests.{tests}
use Rattle.std.proofs.lemmas.Iterator.Consumers.{YieldsList-from_first}
use Rattle.std.proofs.lemmas.Iterator.Search.{all_from_yields_List}
use Rattle.std.proofs.lemmas.List.Folds.{list_all-map}
use Rattle.mx_book.specs.World.{Name}
use Rattle.mx_sorted.specs.Blocks.{rows_in}
use Rattle.mx_audit.specs.Seen.{is_whole_holder}
use Rattle.mx_audit.specs.declared.seen.HolderSeen.{HolderSeen}
use Rattle.mx_audit.proofs.seen.are_whole_holders.Goals as goal

pub returns : goal.returns
returns c =
    let rows = c.args.rows.block.now ++ rows_in c.args.rows.rest.now in
    let given = YieldsList-from_first (λ x. x.now) (λ s. s.block.now ++ rows_in s.rest.now) rows (cc) in
    all_from_yields_List (λ (e : Name × HolderSeen). is_whole_holder e.1) c.all.new.self _ c.all.result c.all.ensures.ran given (λ x b q k. search (rules, tests))
    ∙ sym (list_all-map is_whole_holder (λ (e : Name × HolderSeen). e.1) rows)
