use Rattle.mx_tables.proofs.CallLemmas.{runs_to}
use Rattle.mx_tables.proofs.ResultLemmas.{adds_tray}
use Rattle.mx_tables.proofs.results.insert_tray.Goals as goal

pub returns : goal.returns
returns g c =
    runs_to g.S.Store _ _ c.run.ensures (λ count one has ran. adds_tray c.args.purse.now c.args.details.now _ _ count has
    (rw (c.text.ensures, c.as_str.ensures.text, c.text-2.ensures, c.deref.ensures, c.in_ok-text.ensures.text) at ran))
