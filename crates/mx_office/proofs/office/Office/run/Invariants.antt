use Rattle.std.proofs.Common.{◌≡◌, ◌≤◌, length, take, vec_len}
use Rattle.std.specs.Vec.{vec_capacity}
use Rattle.std.specs.List.{AllByRecursion}
use Rattle.mx_command.specs.Commands.{IsAsked}
use Rattle.mx_office.specs.Run.{IsUndone, Runs}
use Rattle.mx_office.proofs.office.Office.run.Given as goal

abbrev pub invariant-loop-caller : goal.invariant-loop-caller
invariant-loop-caller g l =
    let old = g.B.Book.view l.fn.self.book in
    let new = g.B.Book.view l.self.book in
    record {
      count : vec_len l.outcomes ≡ l.caller-index;
      room : length l.commands ≤ vec_capacity l.outcomes;
      values : AllByRecursion IsAsked (take l.caller-index l.commands);
      still : old.IsSettled → new.IsSettled;
      later : old.IsSettled → old.doubt ≤ new.doubt;
      run : old.IsSettled → new.doubt ≤ 1 → Runs g.B.Book.fails old new (take l.caller-index l.commands) l.outcomes.items;
      undone : old.IsSettled → new.doubt ≡ 0 → AllByRecursion IsUndone l.outcomes.items → new.world ≡ old.world;
    }
