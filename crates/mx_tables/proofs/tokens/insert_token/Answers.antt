use Rattle.mx_tables.proofs.Common.{◌∙◌}
use Rattle.std.proofs.Common.{ap}
use Rattle.mx_cells.specs.Cells.{kind_text, owner_text}
use Rattle.mx_tables.proofs.CallLemmas.{runs_to, steps_to}
use Rattle.mx_tables.proofs.MadeLemmas.{opens_with}
use Rattle.mx_tables.proofs.MemberLemmas.{adds_token}
use Rattle.mx_tables.proofs.tokens.insert_token.Goals as goal

pub returns-clause-writes : goal.returns-clause-writes
returns-clause-writes g c =
    let text = c.text.ensures in
    let kind = c.as_bytes.ensures.value ∙ c.kind_of.ensures in
    let owner = c.as_bytes-2.ensures.value ∙ c.owner_of.ensures in
    runs_to g.S.Store _ _ c.run.ensures (λ count one has ran. adds_token c.args.token.now c.args.caller.now _ _ count text.valid has (rw (text.value, kind, owner) at ran))

pub returns-clause-first : goal.returns-clause-first
returns-clause-first g c =
    let text = c.text.ensures in
    let kind = c.as_bytes.ensures.value ∙ c.kind_of.ensures in
    let owner = c.as_bytes-2.ensures.value ∙ c.owner_of.ensures in
    steps_to g.S.Store c.run.ensures (λ x it fresh operator.
    opens_with c.args.token.now _ _ it.0 text.valid fresh (rw (text.value, kind ∙ ap kind_text operator, owner ∙ ap owner_text operator) at it.2))
