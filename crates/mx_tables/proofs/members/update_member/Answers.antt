use Rattle.mx_tables.proofs.CallLemmas.{runs_one}
use Rattle.mx_tables.proofs.MemberLemmas.{resets}
use Rattle.mx_tables.proofs.members.update_member.Goals as goal

pub returns : goal.returns
returns g c =
    runs_one g.S.Store _ _ c.run_one.ensures (λ has ran. resets c.args.name.now (record { granted = c.args.granted; float = c.args.float }) _ _ has
    (rw (c.text.ensures, c.as_str.ensures.text, c.number.ensures, c.number-2.ensures) at ran))
