use Rattle.std.proofs.Common.{sym, ap, ◌∙◌}
use Rattle.std.specs.Prelude.{option_and_then}
use Rattle.mx_pay.specs.Limits.{most_number}
use Rattle.mx_pay.specs.Reading.{limited}
use Rattle.mx_wire.proofs.RouteLemmas.{walk_text}
use Rattle.mx_wire.proofs.routes.number_in.Goals as goal

pub returns-in_err-part : goal.returns-in_err-part
returns-in_err-part c =
    c.from_residual.ensures ∙
    sym (ap (option_and_then (limited most_number)) (c.in_err-part.ensures (walk_text c.args.params.now.pattern.now _ _ _ 0 0 c.requires.text c.requires.path)))

pub returns : goal.returns
returns c =
    c.read_seq.ensures ∙
    sym (ap (option_and_then (limited most_number)) (c.in_ok-part.ensures (walk_text c.args.params.now.pattern.now _ _ _ 0 0 c.requires.text c.requires.path)))
