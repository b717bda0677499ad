-- The words of lines, as they stand in replies and in statements.
use Rattle.std.specs.Prelude.{ℕ, List, codes}
use Rattle.mx_pay.specs.Codes.{entry_text}
use Rattle.mx_book.specs.declared.values.LineKind.{LineKind}
use Rattle.mx_book.specs.declared.values.LineKind.TheVariants.{Loaded, Redeemed, Sent, Received, Logged, Settled}
use Rattle.mx_book.specs.declared.values.Note.{Note}
use Rattle.mx_book.specs.declared.values.Note.TheVariants.{Reference, Details}

-- the word for a line
abbrev pub kind_text : LineKind → List ℕ
kind_text Loaded = codes "loaded"
kind_text Redeemed = codes "redeemed"
kind_text Sent = codes "sent"
kind_text Received = codes "received"
kind_text Logged = codes "logged"
kind_text Settled = codes "settled"

-- what a line refers to: a reference, or one entry
abbrev pub note_text : Note → List ℕ
note_text (Reference reference) = reference
note_text (Details d) = entry_text d
