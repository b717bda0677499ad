use Rattle.std.proofs.Common.{◌≡◌, [], arith, refl}
use Rattle.std.proofs.lemmas.Grind.{common_steps}
use Rattle.mx_office.proofs.CallLemmas.{bides_none}
use Rattle.mx_office.proofs.office.Office.commit.Goals as goal

pub returns-then-is_empty-clause-changes : goal.returns-then-is_empty-clause-changes
returns-then-is_empty-clause-changes g c = record { later = omega arith; ok = λ sure. (let none : c.args.decided.now.edits ≡ [] = grind (arith, common_steps) in rw none refl); err = λ sure. tt; bides = bides_none _; fault = tt }
