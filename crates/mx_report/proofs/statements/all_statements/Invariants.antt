use Rattle.std.proofs.Common.{◌≡◌, ◌++◌, Some, drop, flat_map, take}
use Rattle.std.specs.List.{list_all}
use Rattle.mx_book.specs.Reads.{purse_names_of}
use Rattle.mx_book.specs.Views.{Keeps}
use Rattle.mx_report.specs.Even.{is_even_purse}
use Rattle.mx_report.specs.Statement.{lines_text, own_lines, statements_text}
use Rattle.mx_report.proofs.statements.all_statements.Given as goal

-- the book was only read; and the statements so far, and those of the purses to come
abbrev pub invariant-loop-purse : goal.invariant-loop-purse
invariant-loop-purse g l =
    let old = g.B.Book.view l.fn.book in
    let new = g.B.Book.view l.book in
    record {
      keeps : Keeps old new;
      names : new.doubt ≡ 0 → l.purse-items ≡ purse_names_of old.world;
      text : new.doubt ≡ 0
          → l.text ++ flat_map (λ p. lines_text (Some p) (own_lines old.world p)) (drop l.purse-index l.purse-items) ≡ statements_text old.world;
      even : new.doubt ≡ 0 → l.are_even ≡ list_all (is_even_purse old.world) (take l.purse-index l.purse-items);
    }
