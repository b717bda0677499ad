-- What requests ask.
use Rattle.std.specs.Prelude.{List, [], ◌∷◌, ◌++◌, Option, None, if◌then◌else◌}
use Rattle.mx_book.specs.World.{World}
use Rattle.mx_command.specs.Commands.{Asked}
use Rattle.mx_office.specs.Step.{listed}
use Rattle.mx_desk.specs.Isolation.{asked_of}
use Rattle.mx_desk.specs.Serve.{Marked, world_after_one}

-- the command that a request asks, with its caller, unless the request is given up
abbrev pub asked_in : World → Marked → Option Asked
asked_in w m = if m.given_up then None else asked_of w m.request

-- the commands that requests ask, in order
abbrev pub commands_of : World → List Marked → List Asked
commands_of w [] = []
commands_of w (m ∷ ms) = listed (asked_in w m) ++ commands_of (world_after_one w m) ms
