-- Without its port, or its count, a `serve` is no task.
use Rattle.std.proofs.Common.{ap, is_some, refl}
use Rattle.clap.specs.Words.{found_of, rows_of}
use Rattle.mx_args.proofs.TaskLemmas.{no_count, no_port}
use Rattle.mx_args.proofs.line.serve_task.Goals as goal

pub returns-in_default-clause-unnamed : goal.returns-in_default-clause-unnamed
returns-in_default-clause-unnamed c =
    no_port (rows_of (found_of c.args.matches.now)) (λ n h. c.in_default.ensures.none refl n h)

pub returns-in_default-number_of-clause-unnamed : goal.returns-in_default-number_of-clause-unnamed
returns-in_default-number_of-clause-unnamed c =
    no_count (rows_of (found_of c.args.matches.now)) (λ n h. c.in_default-number_of.ensures.none refl n h)

pub returns-in_default-clause-misfit : goal.returns-in_default-clause-misfit
returns-in_default-clause-misfit c =
    (refl, ap is_some c.in_ok-file.ensures.given, λ port. c.in_default.ensures.none refl port.0 port.1)

pub returns-in_default-number_of-clause-misfit : goal.returns-in_default-number_of-clause-misfit
returns-in_default-number_of-clause-misfit c =
    (refl, ap is_some c.in_ok-file.ensures.given, (c.in-Some.port, c.in-Some.ensures.some), λ count. c.in_default-number_of.ensures.none refl count.0 count.1)
