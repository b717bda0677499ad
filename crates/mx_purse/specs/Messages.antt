-- Messages between purses.
use Rattle.mx_pay.specs.Details.{IsDetails}
use Rattle.mx_pay.specs.Log.{IsLogValue}
use Rattle.mx_purse.specs.declared.message.Message.{Message}
use Rattle.mx_purse.specs.declared.message.Message.TheVariants.{Req, Val, Ack, Clear}

-- the details of a message, or the set of them, are within their limits
abbrev pub IsMessage : Message → Type 0
IsMessage (Req d) = IsDetails d
IsMessage (Val d) = IsDetails d
IsMessage (Ack d) = IsDetails d
IsMessage (Clear set) = IsLogValue set
