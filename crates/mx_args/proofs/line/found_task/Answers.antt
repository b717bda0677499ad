-- The command that is found is the one that clap's readers give.
use Rattle.std.proofs.Common.{List, Option, ap, refl, sym, subst, Ok}
use Rattle.clap.specs.Words.{Row, Text, found_of, rows_of, subcommand_rows_of}
use Rattle.mx_args.specs.Misfits.{HasFoundMisfit}
use Rattle.mx_args.specs.declared.line.Misfit.TheVariants.{Missing}
use Rattle.mx_args.proofs.CommandLemmas.{found_named}
use Rattle.mx_args.proofs.MisfitLemmas.{found_nothing, told}
use Rattle.mx_args.proofs.TaskLemmas.{found_none, found_once}
use Rattle.mx_args.proofs.line.found_task.Goals as goal

pub returns-in-Ok-clause-named : goal.returns-in-Ok-clause-named
returns-in-Ok-clause-named c =
    let found = found_named c.args.matches.now c.in-Some.name.now (rows_of (found_of c.in-Some.found.now)) c.in-Some.ensures.name c.in-Some.ensures.rows in
    (c.in-Some.name.now, rows_of (found_of c.in-Some.found.now), found, c.in-Ok.ensures.named)

pub returns-in-Ok-clause-answered : goal.returns-in-Ok-clause-answered
returns-in-Ok-clause-answered c = λ task named.
    ap Ok (found_once (subcommand_rows_of c.args.matches.now) c.in-Ok.task task (returns-in-Ok-clause-named c) named)

pub returns-in-Err-clause-answered : goal.returns-in-Err-clause-answered
returns-in-Err-clause-answered c = λ task named.
    let found = found_named c.args.matches.now c.in-Some.name.now (rows_of (found_of c.in-Some.found.now)) c.in-Some.ensures.name c.in-Some.ensures.rows in
    absurd (found_none (subcommand_rows_of c.args.matches.now) c.in-Some.name.now (rows_of (found_of c.in-Some.found.now)) found c.in-Err.ensures.unnamed task named)

pub returns-in_default-clause-misfit : goal.returns-in_default-clause-misfit
returns-in_default-clause-misfit c =
    let nothing = found_nothing c.args.matches.now c.in_default.ensures.name in
    told (subcommand_rows_of c.args.matches.now) Missing c.misfit_fault.result
    (subst (λ (f : Option (Text × List Row)). HasFoundMisfit f Missing) (sym nothing) refl) c.misfit_fault.ensures

pub returns-in-Err-clause-misfit : goal.returns-in-Err-clause-misfit
returns-in-Err-clause-misfit c =
    let found = found_named c.args.matches.now c.in-Some.name.now (rows_of (found_of c.in-Some.found.now)) c.in-Some.ensures.name c.in-Some.ensures.rows in
    told (subcommand_rows_of c.args.matches.now) c.in-Err.misfit c.misfit_fault-in-Err.result
    (subst (λ (f : Option (Text × List Row)). HasFoundMisfit f c.in-Err.misfit) (sym found) c.in-Err.ensures.misfit) c.misfit_fault-in-Err.ensures
