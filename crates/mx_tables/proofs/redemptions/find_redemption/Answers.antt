use Rattle.mx_tables.proofs.Common.{arith, refl}
use Rattle.mx_tables.proofs.CallLemmas.{asks_as, asks_by, asks_fault}
use Rattle.mx_tables.proofs.CauseLemmas.{no_fault}
use Rattle.mx_tables.proofs.LoadLemmas.{redemption_is, select_redemption_is}
use Rattle.mx_tables.proofs.ShownLemmas.{redemption_one, redemption_read}
use Rattle.mx_tables.proofs.redemptions.find_redemption.Goals as goal

pub ask_one-requires : goal.ask_one-requires
ask_one-requires g c = select_redemption_is.query

pub returns : goal.returns
returns g c = asks_by g.S.Store c.in_ok-row.ensures.reads (λ r holds shown.
    let it = redemption_is c.args.purse.now c.args.reference.now _ _ _ (rw (c.text.ensures, c.as_str.ensures.text, c.text-2.ensures, c.as_str-2.ensures.text) at shown) r holds _ refl in
    grind (arith, it, c.amount_in.ensures.is))
    (λ r holds it shown.
    let is = redemption_is c.args.purse.now c.args.reference.now _ _ _ (rw (c.text.ensures, c.as_str.ensures.text, c.text-2.ensures, c.as_str-2.ensures.text) at shown) r holds _ refl in
    no_fault c.amount_in.result _ (c.amount_in.ensures.there (redemption_read r it.0 it.1 _ _ _ is)))

pub returns-in_err-row : goal.returns-in_err-row
returns-in_err-row g c =
    asks_fault g.S.Store (asks_as g.S.Store c.in_err-row.ensures
    (λ r holds it. rw (c.text.ensures, c.as_str.ensures.text, c.text-2.ensures, c.as_str-2.ensures.text) (redemption_one c.args.purse.now c.args.reference.now _ _ r holds))) c.from_residual.ensures.1
