use Rattle.mx_tables.proofs.CallLemmas.{runs_to}
use Rattle.mx_tables.proofs.LoadLemmas.{collects_key}
use Rattle.mx_tables.proofs.collecting.collect_key.Goals as goal

pub returns : goal.returns
returns g c =
    runs_to g.S.Store _ _ c.run.ensures (λ count one has ran. collects_key c.args.key.now _ _ count has
    (rw (c.text.ensures, c.as_str.ensures.text, c.text-2.ensures, c.as_str-2.ensures.text) at ran))
