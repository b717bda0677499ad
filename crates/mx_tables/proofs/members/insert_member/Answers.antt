use Rattle.mx_tables.proofs.CallLemmas.{runs_to}
use Rattle.mx_tables.proofs.MemberLemmas.{adds_member}
use Rattle.mx_tables.proofs.members.insert_member.Goals as goal

pub returns : goal.returns
returns g c =
    runs_to g.S.Store _ _ c.run.ensures (λ count one has ran. adds_member c.args.name.now _ _ count has (rw (c.text.ensures, c.as_str.ensures.text) at ran))
