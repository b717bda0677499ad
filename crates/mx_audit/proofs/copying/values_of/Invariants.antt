use Rattle.std.proofs.Common.{◌≡◌, map, take}
use Rattle.sqlite.specs.Values.{bound, bound_value}
use Rattle.mx_audit.proofs.copying.values_of.Given as goal

-- the values so far
abbrev pub invariant-loop-at : goal.invariant-loop-at
invariant-loop-at l = bound l.values.items ≡ map bound_value (take l.at l.row)
