use Rattle.mx_tables.proofs.Common.{[], ◌∷◌, ◌∙◌, arith, number, refl}
use Rattle.mx_pay.specs.Details.{details_cmp}
use Rattle.mx_tables.proofs.CallLemmas.{asks_as, asks_fault, asks_lacking, asks_ok, reads_to}
use Rattle.mx_tables.proofs.ReadLemmas.{got}
use Rattle.mx_tables.proofs.CauseLemmas.{err_weaker}
use Rattle.mx_tables.proofs.FaultLemmas.{few}
use Rattle.mx_tables.proofs.KeptLemmas.{details_key}
use Rattle.mx_tables.proofs.SoundLemmas.{entries_valid}
use Rattle.mx_tables.proofs.SettledLemmas.{finds_settled, settled_accepted, select_settled_is}
use Rattle.mx_tables.proofs.settled.find_settled.Goals as goal

pub ask_one-requires : goal.ask_one-requires
ask_one-requires g c = select_settled_is.query

pub returns : goal.returns
returns g c = asks_ok g.S.Store (reads_to g.S.Store c.in_ok-row.ensures.reads (λ r holds shown each.
    let found = finds_settled c.args.details.now c.in_ok-text.ensures.valid _ _ _ (rw (c.text.ensures, c.deref.ensures, c.in_ok-text.ensures.text) at shown) r holds each in
    let it = got details_cmp (λ _. number 1 ∷ []) c.args.details.now r.settled _ c.in_ok-row.row found refl in
    grind (arith, it, c.is_some.ensures)))

pub returns-in_err-text : goal.returns-in_err-text
returns-in_err-text g c = asks_lacking g.S.Store (err_weaker c.from_residual.result _ _ c.from_residual.ensures.1 (λ e is. is ∙ c.in_err-text.ensures.fault))

pub returns-in_err-row : goal.returns-in_err-row
returns-in_err-row g c = asks_fault g.S.Store (asks_as g.S.Store c.in_err-row.ensures
    (λ r holds it. record {
      accepts = rw (c.text.ensures, c.deref.ensures) (settled_accepted _ _);
      few = λ rows shown.
          let found = finds_settled c.args.details.now c.in_ok-text.ensures.valid _ _ _ (rw (c.text.ensures, c.deref.ensures, c.in_ok-text.ensures.text) at shown) r holds (entries_valid r it.0 it.1).settled in
          few details_cmp details_key.exact c.args.details.now r.settled _ _ found;
    }))
    c.from_residual-in_err-row.ensures.1
