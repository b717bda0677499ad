-- What is answered to a request, over a book.
use Rattle.std.specs.Prelude.{◌≡◌, Result, Ok, Err}
use Rattle.mx_book.specs.World.{World}
use Rattle.mx_book.specs.declared.contract.StoreFault.{StoreFault}
use Rattle.mx_wire.specs.Made.{parts_of}
use Rattle.mx_wire.specs.declared.replies.Response.{Response}
use Rattle.mx_desk.specs.Respond.{Responded}

-- a response as it has to be, and the book has the World that goes with it; or a fault, which may be, and nothing is done
abbrev pub IsAnswer : (World → Type 0) → World → Responded → Type 0 → Result Response StoreFault → Type 0
IsAnswer Has w to MayFail (Ok r) = (parts_of r ≡ to.response) × Has to.world
IsAnswer Has w to MayFail (Err e) = MayFail × Has w
