use Rattle.std.proofs.Common.{◌≡◌, ◌++◌, drop, flat_map, string_bytes}
use Rattle.mx_book.specs.Views.{Keeps}
use Rattle.mx_tasks.specs.Evenness.{uneven_purse}
use Rattle.mx_tasks.proofs.report.evenness.uneven_purses.Given as goal

-- the book was only read; and the lines so far, and those of the purses to come
abbrev pub invariant-loop-purse : goal.invariant-loop-purse
invariant-loop-purse g l =
    let old = g.B.Book.view l.fn.book in
    let new = g.B.Book.view l.book in
    record {
      keeps : Keeps old new;
      lines : new.doubt ≡ 0
          → string_bytes l.text ++ flat_map (uneven_purse old.world) (drop l.purse-index l.fn.purses) ≡ flat_map (uneven_purse old.world) l.fn.purses;
    }
