use Rattle.mx_tables.proofs.Common.{IfOk-weaker}
use Rattle.mx_tables.proofs.ReadLemmas.{about_query, about_is}
use Rattle.mx_tables.proofs.CallLemmas.{finds_to}
use Rattle.mx_tables.proofs.asking.ask_about_inside.Goals as goal

pub ask_inside-requires : goal.ask_inside-requires
ask_inside-requires g c = rw c.text.ensures (about_query c.args.about)

pub returns : goal.returns
returns g c = finds_to g.S.Store c.only.result c.in_ok-ask_inside.ensures (λ r holds shown.
    IfOk-weaker c.only.result _ _ (λ row one. about_is c.args.name.now _ _ _ r holds row one c.args.about (rw (c.text.ensures, c.text-2.ensures, c.as_str.ensures.text) at shown)) c.only.ensures.one)
