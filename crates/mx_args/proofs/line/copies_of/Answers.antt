-- The value of `--every` is no number of seconds.
use Rattle.std.proofs.Common.{ap, is_some, refl, sym}
use Rattle.clap.specs.Words.{found_of, rows_of}
use Rattle.mx_args.proofs.TaskLemmas.{no_every}
use Rattle.mx_args.proofs.line.copies_of.Goals as goal

pub returns-in-None-clause-unnamed : goal.returns-in-None-clause-unnamed
returns-in-None-clause-unnamed c =
    no_every (rows_of (found_of c.args.matches.now)) (ap is_some (sym c.in-Some-Some.ensures)) (λ n h. c.in-None.ensures.none refl n h)
