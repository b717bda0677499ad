use Rattle.std.proofs.Common.{◌≡◌, [], drop}
use Rattle.mx_wire.specs.Routes.{rows_after, entries}
use Rattle.mx_wire.proofs.routes.router_of.Given as goal

abbrev pub invariant-loop-entry : goal.invariant-loop-entry
invariant-loop-entry l = rows_after l.router (entries (drop l.entry-index l.table)) ≡ rows_after [] (entries l.table)
