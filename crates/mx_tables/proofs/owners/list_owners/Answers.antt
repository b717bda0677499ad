use Rattle.mx_tables.proofs.Common.{IfOk-weaker, state}
use Rattle.mx_tables.specs.Cached.{index_of}
use Rattle.mx_tables.proofs.AcceptLemmas.{owners_accepted}
use Rattle.mx_tables.proofs.CallLemmas.{asks_as, asks_by, asks_fault}
use Rattle.mx_tables.proofs.OwnerLemmas.{held_listed}
use Rattle.mx_tables.proofs.ShownLemmas.{owners_shown}
use Rattle.mx_tables.proofs.Texts.{select_owners_is}
use Rattle.mx_tables.proofs.owners.list_owners.Goals as goal

pub ask-requires : goal.ask-requires
ask-requires g c = select_owners_is.query

pub returns-in_err-rows : goal.returns-in_err-rows
returns-in_err-rows g c = asks_fault g.S.Store (asks_as g.S.Store c.in_err-rows.ensures.asks (λ r holds it. owners_accepted _)) c.from_residual.ensures.1

pub returns : goal.returns
returns g c = asks_by g.S.Store c.in_ok-rows.ensures.asks.reads (λ r holds shown. IfOk-weaker c.index_rows.result _ _
    (λ held lists. held_listed (state g.S.Store c.args.conn.now) (state g.S.Store c.ask.new.conn) _ (index_of held) (rw (← c.deref.ensures.value) at shown) r holds lists) c.index_rows.ensures.is)
    (λ r holds it shown. c.index_rows.ensures.there (owners_shown r it.0 it.1 _ _ _ (rw (← c.deref.ensures.value) at shown) holds))
