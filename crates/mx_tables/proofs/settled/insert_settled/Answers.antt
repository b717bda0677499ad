use Rattle.mx_tables.proofs.CallLemmas.{runs_to}
use Rattle.mx_tables.proofs.SettledLemmas.{adds_settled}
use Rattle.mx_tables.proofs.settled.insert_settled.Goals as goal

pub returns : goal.returns
returns g c =
    runs_to g.S.Store _ _ c.run.ensures (λ count one has ran. adds_settled c.args.details.now _ _ count has
    (rw (c.text.ensures, c.deref.ensures, c.in_ok-text.ensures.text) at ran))
