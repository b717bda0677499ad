use Rattle.std.proofs.Common.{◌≡◌, ◌++◌, drop}
use Rattle.mx_report.specs.Reconciliation.{members_text}
use Rattle.mx_report.proofs.reconciliation.with_members.Given as goal

abbrev pub invariant-loop-name : goal.invariant-loop-name
invariant-loop-name l = l.text ++ members_text (drop l.name-index l.members) ≡ l.fn.text ++ members_text l.members
