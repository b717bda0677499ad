use Rattle.mx_tables.proofs.Common.{refl}
use Rattle.mx_tables.proofs.CallLemmas.{asks_as, asks_more}
use Rattle.mx_tables.proofs.ReadLemmas.{about_is, about_query}
use Rattle.mx_tables.proofs.FaultLemmas.{about_one}
use Rattle.mx_tables.proofs.asking.ask_about.Goals as goal

pub ask_one-requires : goal.ask_one-requires
ask_one-requires g c = rw c.text.ensures (about_query c.args.about)

pub returns : goal.returns
returns g c = asks_more g.S.Store (asks_as g.S.Store c.ask_one.ensures (λ r holds it. rw (c.text.ensures, c.text-2.ensures, c.as_str.ensures.text) (about_one c.args.about c.args.name.now _ _ r holds)))
    (λ r holds row shown. about_is c.args.name.now _ _ _ r holds row refl c.args.about (rw (c.text.ensures, c.text-2.ensures, c.as_str.ensures.text) at shown))
