use Rattle.std.proofs.Common.{◌≡◌, drop}
use Rattle.clap.specs.Words.{app_of}
use Rattle.mx_args.specs.Forms.{app_with_forms}
use Rattle.mx_args.specs.Line.{program_app}
use Rattle.mx_args.proofs.commands.program_of.Given as goal

abbrev pub invariant-loop-form : goal.invariant-loop-form
invariant-loop-form l = app_with_forms (app_of l.program) (drop l.form-index l.forms) ≡ app_with_forms program_app l.forms
