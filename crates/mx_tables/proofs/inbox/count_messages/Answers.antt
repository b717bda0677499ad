use Rattle.mx_tables.proofs.Common.{arith}
use Rattle.mx_tables.proofs.CallLemmas.{asks_as, asks_fault, asks_ok, reads_to}
use Rattle.mx_tables.proofs.Texts.{select_held_numbers_is}
use Rattle.mx_tables.proofs.InboxLemmas.{finds_numbers, held_accepted}
use Rattle.mx_tables.proofs.inbox.count_messages.Goals as goal

pub ask-requires : goal.ask-requires
ask-requires g c = select_held_numbers_is.query

pub returns-in_err-rows : goal.returns-in_err-rows
returns-in_err-rows g c = asks_fault g.S.Store (asks_as g.S.Store c.in_err-rows.ensures.asks (λ r holds it. rw (c.text.ensures, c.as_str.ensures.text) (held_accepted _ _))) c.from_residual.ensures.1

pub returns : goal.returns
returns g c = asks_ok g.S.Store (reads_to g.S.Store c.in_ok-rows.ensures.asks.reads (λ rows holds shown.
    let found = finds_numbers c.args.purse.now _ _ _ (rw (c.text.ensures, c.as_str.ensures.text) at shown) rows holds in
    omega (arith, found, c.len.ensures)))
