use Rattle.std.proofs.Common.{sym, ap, ◌∙◌}
use Rattle.std.specs.Prelude.{option_and_then}
use Rattle.mx_wire.specs.Routes.{name_of}
use Rattle.mx_wire.proofs.RouteLemmas.{walk_text}
use Rattle.mx_wire.proofs.routes.name_in.Goals as goal

pub returns-in_err-part : goal.returns-in_err-part
returns-in_err-part c =
    c.from_residual.ensures ∙
    sym (ap (option_and_then name_of) (c.in_err-part.ensures (walk_text c.args.params.now.pattern.now _ _ _ 0 0 c.requires.text c.requires.path)))

pub returns : goal.returns
returns c =
    c.read.ensures ∙
    sym (ap (option_and_then name_of) (c.in_ok-part.ensures (walk_text c.args.params.now.pattern.now _ _ _ 0 0 c.requires.text c.requires.path)))
