use Rattle.std.proofs.Common.{◌≡◌, ◌<◌, true, false, length}
use Rattle.mx_desk.specs.Held.{HoldsMore}
use Rattle.mx_desk.proofs.rounds.hold_more.Given as goal

abbrev pub invariant-loop-goes_on : goal.invariant-loop-goes_on
invariant-loop-goes_on g l = record {
  held : HoldsMore g.B.Book.fails (g.B.Book.view l.fn.office.book) (g.B.Book.view l.office.book) l.fn.workspace.callers l.workspace.callers l.fn.workspace.round.held.items l.workspace.round.held.items l.fn.input l.input;
  alone : l.workspace.round.alone ≡ l.fn.workspace.round.alone;
  one : l.fn.workspace.round.alone ≡ true → l.workspace.round.held.items ≡ l.fn.workspace.round.held.items;
  room : l.goes_on ≡ true → (l.workspace.round.alone ≡ false) × (length l.workspace.round.held.items < 64);
}

abbrev pub decreases-loop-goes_on : goal.decreases-loop-goes_on
decreases-loop-goes_on g l = length l.input
