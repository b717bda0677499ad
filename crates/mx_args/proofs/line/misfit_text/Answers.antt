-- The usage is that which clap gives.
use Rattle.std.proofs.Common.{◌∙◌, ap}
use Rattle.std.proofs.lemmas.Result.{IfOk-weaker}
use Rattle.clap.specs.Words.{Text}
use Rattle.mx_args.specs.Misfits.{error_text}
use Rattle.mx_args.proofs.line.misfit_text.Goals as goal

pub returns : goal.returns
returns c =
    IfOk-weaker c.error_text.result _ _
    (λ _ h. (c.as_str.result.now, h ∙ ap (λ (words : Text). error_text words c.as_str.result.now) c.text.ensures)) c.error_text.ensures
