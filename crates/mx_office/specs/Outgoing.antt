-- What purses send for payments, as the messages that come into inboxes.
use Rattle.std.specs.Prelude.{Option, Some, None}
use Rattle.mx_purse.specs.declared.message.Message.{Message}
use Rattle.mx_purse.specs.declared.message.Message.TheVariants as message
use Rattle.mx_book.specs.World.{Name}
use Rattle.mx_office.specs.declared.decisions.Outgoing.{Outgoing}
use Rattle.mx_office.specs.declared.decisions.Outgoing.TheVariants.{Nothing, Req, Val, Ack}

-- the message, and the purse into whose inbox it comes
abbrev pub carried : Outgoing → Option (Name × Message)
carried Nothing = None
carried (Req d) = Some (d.from, message.Req d)
carried (Val d) = Some (d.to, message.Val d)
carried (Ack d) = Some (d.from, message.Ack d)
