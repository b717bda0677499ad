use Rattle.mx_tables.proofs.Common.{◌≡◌, take, AllByRecursion}
use Rattle.std.proofs.Common.{map}
use Rattle.mx_purse.specs.Messages.{IsMessage}
use Rattle.mx_cells.specs.Cells.{first_three, message_row}
use Rattle.mx_tables.proofs.inbox.messages_in.Given as goal

abbrev pub invariant-loop-row : goal.invariant-loop-row
invariant-loop-row l = (map first_three (take l.row-index l.rows) ≡ map message_row l.messages.items) × AllByRecursion (λ m. IsMessage m.1) l.messages.items
