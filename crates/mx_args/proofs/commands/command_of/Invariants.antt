use Rattle.std.proofs.Common.{◌≡◌, false, drop}
use Rattle.clap.specs.Words.{app_of}
use Rattle.clap.specs.declared.Command.TheViews.{out-Command}
use Rattle.mx_args.specs.Forms.{app_with, form_app}
use Rattle.mx_args.proofs.commands.command_of.Given as goal

abbrev pub invariant-loop-argument : goal.invariant-loop-argument
invariant-loop-argument l = record {
  app : app_with (app_of l.command) (drop l.argument-index l.argument-items) ≡ form_app l.form;
  local : (out-Command l.command).has_globals ≡ false;
}
