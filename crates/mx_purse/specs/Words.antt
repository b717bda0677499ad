-- The words of statuses and of messages with the texts of their details, as they stand in replies and in tables.
use Rattle.std.specs.Prelude.{ℕ, List, [], codes}
use Rattle.mx_pay.specs.Codes.{code, entry_text}
use Rattle.mx_purse.specs.declared.status.Status.{Status}
use Rattle.mx_purse.specs.declared.status.Status.TheVariants.{EaFrom, EaTo, Epr, Epv, Epa}
use Rattle.mx_purse.specs.declared.message.Message.{Message}
use Rattle.mx_purse.specs.declared.message.Message.TheVariants.{Req, Val, Ack, Clear}

-- the word for a status
abbrev pub status_word : Status → List ℕ
status_word EaFrom = codes "eaFrom"
status_word EaTo = codes "eaTo"
status_word (Epr d) = codes "epr"
status_word (Epv d) = codes "epv"
status_word (Epa d) = codes "epa"

-- the text of the details of the payment under way, empty at rest
abbrev pub status_details : Status → List ℕ
status_details EaFrom = []
status_details EaTo = []
status_details (Epr d) = entry_text d
status_details (Epv d) = entry_text d
status_details (Epa d) = entry_text d

-- the word for a message
abbrev pub message_word : Message → List ℕ
message_word (Req d) = codes "req"
message_word (Val d) = codes "val"
message_word (Ack d) = codes "ack"
message_word (Clear set) = codes "clear"

-- the text of its details: one entry, or the code text of the set that a clear has
abbrev pub message_details : Message → List ℕ
message_details (Req d) = entry_text d
message_details (Val d) = entry_text d
message_details (Ack d) = entry_text d
message_details (Clear set) = code set
