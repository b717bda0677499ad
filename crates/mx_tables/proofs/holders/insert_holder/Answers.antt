use Rattle.mx_tables.proofs.CallLemmas.{runs_to}
use Rattle.mx_tables.proofs.MemberLemmas.{adds_holder}
use Rattle.mx_tables.proofs.holders.insert_holder.Goals as goal

pub returns : goal.returns
returns g c =
    runs_to g.S.Store _ _ c.run.ensures (λ count one has ran. adds_holder c.args.name.now c.args.member.now _ _ count has
    (rw (c.text.ensures, c.as_str.ensures.text, c.text-2.ensures, c.as_str-2.ensures.text) at ran))
