use Rattle.mx_tables.proofs.CallLemmas.{runs_to}
use Rattle.mx_tables.proofs.InboxLemmas.{drops_message}
use Rattle.mx_tables.proofs.inbox.drop_message.Goals as goal

pub returns : goal.returns
returns g c =
    runs_to g.S.Store _ _ c.run_one.ensures (λ count one has ran. drops_message c.args.purse.now c.args.number _ _ count has
    (rw (c.text.ensures, c.as_str.ensures.text, c.number.ensures) at ran))
