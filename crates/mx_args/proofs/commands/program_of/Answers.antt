-- Each form adds its command, in which nothing is global.
use Rattle.mx_args.proofs.CommandLemmas.{form_more, forms_done}
use Rattle.mx_args.proofs.commands.program_of.Goals as goal

pub loop-form-preserved : goal.loop-form-preserved
loop-form-preserved c =
    form_more c.args.forms.now c.loop-form.form-index _ c.loop-form-test.true c.loop-form.invariant c.in_ok-command_of.ensures.app
    c.in_ok-command_of.ensures.local c.in_ok-program-2.ensures

pub returns : goal.returns
returns c = forms_done c.args.forms.now c.loop-form.form-index c.loop-form.program c.loop-form-test.false c.loop-form.invariant
