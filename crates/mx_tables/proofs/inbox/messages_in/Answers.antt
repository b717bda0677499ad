use Rattle.mx_tables.proofs.Common.{◌≡◌, ◌<◌, ◌≤◌, ◌∷◌, ◌++◌, [], ◌∙◌, length, rules}
use Rattle.std.proofs.Common.{ap, map, sym}
use Rattle.std.proofs.ByRecursion.{All-push}
use Rattle.std.proofs.lemmas.List.{take_all}
use Rattle.mx_purse.specs.Messages.{IsMessage}
use Rattle.mx_cells.specs.Cells.{first_three, message_row}
use Rattle.mx_tables.proofs.MapLists.{grown_alike}
use Rattle.mx_tables.proofs.inbox.messages_in.Goals as goal

pub loop-row-preserved : goal.loop-row-preserved
loop-row-preserved c =
    let within : c.loop-row.row-index < length c.args.rows.now = search rules in
    let pushed : c.push.new.self.items ≡ c.loop-row.messages.items ++ c.in_ok-message.message ∷ [] = search rules in
    rw pushed (
      grown_alike first_three c.args.rows.now c.loop-row.row-index c.row-item.result within c.row-item.is message_row c.loop-row.messages.items c.in_ok-message.message c.loop-row.invariant.0 c.in_ok-message.ensures.shown,
      All-push (λ m. IsMessage m.1) c.loop-row.messages.items c.in_ok-message.message c.loop-row.invariant.1 c.in_ok-message.ensures.valid,
    )

pub returns-clause-shown : goal.returns-clause-shown
returns-clause-shown c =
    let past : length c.args.rows.now ≤ c.loop-row.row-index = search rules in
    sym (ap (map first_three) (take_all c.loop-row.row-index c.args.rows.now past)) ∙ c.loop-row.invariant.0
