use Rattle.mx_tables.proofs.Common.{state}
use Rattle.mx_tables.proofs.BookLemmas.{round_stopped, round_changed}
use Rattle.mx_tables.proofs.edits.change_in.Goals as goal

pub returns-in_err-begin : goal.returns-in_err-begin
returns-in_err-begin g c =
    round_stopped c.args.begun.now c.begin.new.begun (state g.S.Store c.args.conn.now) (state g.S.Store c.begin.new.conn)
    c.begin.result c.from_residual.result _ c.from_residual.ensures.0 c.begin.ensures

pub returns : goal.returns
returns g c =
    round_changed c.args.begun.now c.begin.new.begun (state g.S.Store c.args.conn.now) (state g.S.Store c.begin.new.conn)
    (state g.S.Store c.edit_marked.new.conn) c.edit_marked.result c.in_ok-begin.ensures c.edit_marked.ensures
