use Rattle.mx_tables.proofs.Common.{arith}
use Rattle.mx_tables.proofs.CallLemmas.{asks_by, asks_fault}
use Rattle.mx_tables.proofs.CauseLemmas.{no_fault}
use Rattle.mx_tables.proofs.FaultLemmas.{holder_read}
use Rattle.mx_tables.proofs.holders.find_holder.Goals as goal

pub returns-in_err-ask_about : goal.returns-in_err-ask_about
returns-in_err-ask_about g c = asks_fault g.S.Store c.in_err-ask_about.ensures c.from_residual.ensures.1

pub returns : goal.returns
returns g c = asks_by g.S.Store c.in_ok-ask_about.ensures.reads (λ r holds is. grind (arith, is))
    (λ r holds it is. no_fault c.name_in.result _ (c.name_in.ensures.there (holder_read r it.0 it.1 c.args.name.now _ is)))
