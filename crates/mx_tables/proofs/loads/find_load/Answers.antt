use Rattle.mx_tables.proofs.Common.{arith, refl}
use Rattle.mx_tables.proofs.CallLemmas.{asks_as, asks_by}
use Rattle.mx_tables.proofs.CauseLemmas.{no_fault}
use Rattle.mx_tables.proofs.LoadLemmas.{load_is, select_load_is}
use Rattle.mx_tables.proofs.ShownLemmas.{load_one, load_read}
use Rattle.mx_tables.proofs.ToldLemmas.{tell_load, tells_fault}
use Rattle.mx_tables.proofs.loads.find_load.Goals as goal

pub ask_one-requires : goal.ask_one-requires
ask_one-requires g c = select_load_is.query

pub returns : goal.returns
returns g c = tell_load g.S.Store _ _ (asks_by g.S.Store c.in_ok-row.ensures.reads (λ r holds shown.
    let it = load_is c.args.purse.now c.args.reference.now _ _ _ (rw (c.text.ensures, c.as_str.ensures.text, c.text-2.ensures, c.as_str-2.ensures.text) at shown) r holds _ refl in
    grind (arith, it, c.amount_in.ensures.is))
    (λ r holds it shown.
    let is = load_is c.args.purse.now c.args.reference.now _ _ _ (rw (c.text.ensures, c.as_str.ensures.text, c.text-2.ensures, c.as_str-2.ensures.text) at shown) r holds _ refl in
    no_fault c.amount_in.result _ (c.amount_in.ensures.there (load_read r it.0 it.1 _ _ _ is))))

pub returns-in_err-row : goal.returns-in_err-row
returns-in_err-row g c =
    tells_fault g.S.Store (asks_as g.S.Store c.in_err-row.ensures
    (λ r holds it. rw (c.text.ensures, c.as_str.ensures.text, c.text-2.ensures, c.as_str-2.ensures.text) (load_one c.args.purse.now c.args.reference.now _ _ r holds))) c.from_residual.ensures.1
