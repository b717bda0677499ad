use Rattle.std.proofs.Common.{refl, arith}
use Rattle.mx_book.specs.World.{World}
use Rattle.mx_office.specs.Step.{steps}
use Rattle.mx_report.specs.Import.{import, no_rows}
use Rattle.mx_office.proofs.StayLemmas.{step_stays, steps_stay}
use Rattle.mx_report.proofs.KeptLemmas.{added_same, adds_nothing, all_standing, same_stays, tallies_again}
use Rattle.mx_report.proofs.rows.rows_stay.Goals as goal

pub returns-clause-kept : goal.returns-clause-kept
returns-clause-kept c = λ w caller command row is. same_stays w _ row (step_stays w caller command) is

pub returns-clause-again : goal.returns-clause-again
returns-clause-again c = added_same

pub returns-clause-stand : goal.returns-clause-stand
returns-clause-stand c = λ w records. all_standing (record { world = w; tally = no_rows }) records

pub returns-clause-twice : goal.returns-clause-twice
returns-clause-twice c = λ w records commands.
    let again : World = (steps (import w records).world commands).end in
    let counts = tallies_again (record { world = w; tally = no_rows }) (record { world = again; tally = no_rows }) records (steps_stay (import w records).world commands) in
    omega (arith, counts)

pub returns-clause-nothing : goal.returns-clause-nothing
returns-clause-nothing c = λ w records commands whole.
    let again : World = (steps (import w records).world commands).end in
    adds_nothing (record { world = w; tally = no_rows }) (record { world = again; tally = no_rows }) records refl refl (steps_stay (import w records).world commands) whole
