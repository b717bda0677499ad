use Rattle.mx_tables.proofs.CallLemmas.{runs_to}
use Rattle.mx_tables.proofs.InboxLemmas.{adds_message}
use Rattle.mx_tables.proofs.inbox.insert_message.Goals as goal

pub returns : goal.returns
returns g c =
    runs_to g.S.Store _ _ c.run_one.ensures (λ count one has ran. adds_message c.args.key.0 c.args.key.1 c.args.message.now _ _ count has
    (rw (c.text.ensures, c.as_str.ensures.text, c.number.ensures, c.text-2.ensures, c.message_word.ensures, c.text-3.ensures, c.deref.ensures, c.in_ok-details.ensures) at ran))
