-- The book of an office, lent for writing.
use Rattle.std.specs.Borrow.{Lends, MutBor, Fml, RattleType}
use Rattle.mx_office.specs.declared.office.Office.{Office}
use Rattle.mx_office.specs.contracts.office.Office.{the_row}

-- the office ends with the book that is there last behind r
abbrev pub LendsBook : (B : RattleType) → MutBor (Office B.Denot) → MutBor B.Denot → Fml
LendsBook B s r = Lends (the_row B) B s r (λ b. record { book = b })
