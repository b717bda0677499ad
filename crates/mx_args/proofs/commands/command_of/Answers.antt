-- Each argument adds its rule, and none is global.
use Rattle.std.proofs.Common.{◌∙◌, ◌||◌, ap₂}
use Rattle.mx_args.proofs.CommandLemmas.{argument_more, arguments_done}
use Rattle.mx_args.proofs.commands.command_of.Goals as goal

pub loop-argument-preserved : goal.loop-argument-preserved
loop-argument-preserved c = record {
  app = argument_more c.args.form.now.arguments.now c.loop-argument.argument-index _ c.loop-argument-test.true c.loop-argument.invariant.app
      c.arg_of.ensures.rule c.arg_of.ensures.local c.in_ok-command.ensures;
  local = c.in_ok-command.ensures.globals ∙ ap₂ ◌||◌ c.loop-argument.invariant.local c.arg_of.ensures.local;
}

pub returns-clause-app : goal.returns-clause-app
returns-clause-app c =
    arguments_done c.args.form.now.arguments.now c.loop-argument.argument-index c.loop-argument.command c.loop-argument-test.false c.loop-argument.invariant.app
