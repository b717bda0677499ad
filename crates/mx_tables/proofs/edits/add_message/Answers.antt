use Rattle.mx_tables.proofs.CallLemmas.{steps_then, steps_to}
use Rattle.mx_tables.proofs.InboxLemmas.{delivers}
use Rattle.mx_tables.proofs.edits.add_message.Goals as goal

pub returns : goal.returns
returns g c =
    steps_to g.S.Store (steps_then g.S.Store c.in_ok-raise_next.ensures c.insert_message.ensures) (λ x both has.
    let raised = both.0 has in
    delivers c.args.key.0 c.args.message.now c.args.key.1 _ _ _ raised (both.1 raised.goes.schema))
