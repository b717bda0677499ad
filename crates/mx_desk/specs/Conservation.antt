-- Nothing that requests ask is refused because something is full.
use Rattle.std.specs.Prelude.{◌≡◌, Bool, List, [], ◌∷◌, Some}
use Rattle.mx_book.specs.World.{World}
use Rattle.mx_office.specs.Conservation.{IsNeverFull}
use Rattle.mx_command.specs.Commands.{Asked}
use Rattle.mx_office.specs.Step.{step}
use Rattle.mx_desk.specs.Isolation.{asked_of}
use Rattle.mx_desk.specs.Serve.{Marked, world_after_one}

-- the command that a request asks isn't refused because a purse or a float is full, unless the request is given up
abbrev pub AsksNeverFull : World → Marked → Type 0
AsksNeverFull w m = (c : Asked) → asked_of w m.request ≡ Some c → m.given_up ≡ Bool.false → IsNeverFull (step w c.0 c.1).reply

-- so of each of these requests, in order
abbrev pub NeverFull : World → List Marked → Type 0
NeverFull w [] = Unit {0}
NeverFull w (m ∷ ms) = AsksNeverFull w m × NeverFull (world_after_one w m) ms
