use Rattle.std.proofs.Common.{◌∙◌, ap}
use Rattle.std.specs.Prelude.{decimal}
use Rattle.mx_pay.proofs.CodeLemmas.{pushed}
use Rattle.mx_pay.proofs.codes.push_entry.Goals as goal

pub returns : goal.returns
returns c =
    pushed _ _ _ _ _ c.args.details.now c.in_ok-push_field.ensures c.in_ok-push_field-2.ensures c.in_ok-push_field-3.ensures c.in_ok-push_field-4.ensures c.in_ok-push_str.ensures.bytes
    (c.as_str.ensures.text ∙ c.from.ensures.value) (c.as_str-2.ensures.text ∙ c.to.ensures.value)
    (c.format.ensures.text ∙ ap decimal (c.get.ensures.value ∙ c.value.ensures.value))
    (c.format-2.ensures.text ∙ ap decimal (c.get-2.ensures.value ∙ c.from_seq.ensures.value))
    (c.format-3.ensures.text ∙ ap decimal (c.get-3.ensures.value ∙ c.to_seq.ensures.value))
