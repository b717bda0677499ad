use Rattle.std.proofs.Common.{◌≡◌, ◌++◌, take, map}
use Rattle.mx_pay.specs.Log.{logged}
use Rattle.mx_audit.proofs.audit.keep_all.Given as goal

-- the entries so far are kept
abbrev pub invariant-loop-place : goal.invariant-loop-place
invariant-loop-place l = l.kept.items ≡ l.initial.kept.items ++ map (λ d. (l.purse, d)) (take l.place (logged l.set))
