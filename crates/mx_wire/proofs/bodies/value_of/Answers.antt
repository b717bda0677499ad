use Rattle.std.proofs.Common.{◌≡◌, [], true, is_some, ◌∙◌, rules}
use Rattle.json.specs.Value.{value_view}
use Rattle.serde_json.specs.Read.{of_json}
use Rattle.mx_wire.proofs.BodyLemmas.{value_of_text, value_of_none}
use Rattle.mx_wire.proofs.TreeLemmas.{read_one, is_data}
use Rattle.mx_wire.proofs.bodies.value_of.Goals as goal

pub returns-in_default-clause-bad : goal.returns-in_default-clause-bad
returns-in_default-clause-bad c = λ _. value_of_none _ (λ utf8. absurd (c.in_default.ensures.cases.0 utf8))

pub returns-clause-ok : goal.returns-clause-ok
returns-clause-ok c =
    let v = c.in-Ok-read.value in
    let taken : is_some (of_json (value_view v)) ≡ true = search rules in
    let none : c.read.new.reader ≡ [] = search rules in
    value_of_text _ _ c.in-Ok.ensures.cases.1 (read_one _ _ (rw (c.in-Ok-new.ensures.ok, c.in-Ok.ensures.cases.0, none) at c.in-Ok-read.ensures.ok) ∙ is_data v taken)

pub returns-clause-taken : goal.returns-clause-taken
returns-clause-taken c =
    let taken : is_some (of_json (value_view c.in-Ok-read.value)) ≡ true = search rules in
    is_data c.in-Ok-read.value taken
