use Rattle.mx_tables.proofs.CallLemmas.{runs_to}
use Rattle.mx_tables.proofs.LoadLemmas.{adds_redemption}
use Rattle.mx_tables.proofs.redemptions.insert_redemption.Goals as goal

pub returns : goal.returns
returns g c =
    runs_to g.S.Store _ _ c.run_one.ensures (λ count one has ran. adds_redemption c.args.purse.now c.args.reference.now c.args.amount _ _ count has
    (rw (c.text.ensures, c.as_str.ensures.text, c.text-2.ensures, c.as_str-2.ensures.text, c.number.ensures, c.get.ensures.value) at ran))
