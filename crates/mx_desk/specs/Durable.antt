-- What a stop leaves of requests, and lives with stops between them.
use Rattle.std.specs.Prelude.{◌≡◌, ◌⊎◌, true, List, [], ◌∷◌, ◌++◌}
use Rattle.mx_book.specs.World.{World}
use Rattle.mx_desk.specs.Leaves.{Lawful}
use Rattle.mx_desk.specs.Rounds.{Round, all_of}
use Rattle.mx_desk.specs.Serve.{Marked, world_after}

-- one of these rounds, from the World w, was given up, and nothing was changed behind it
abbrev pub IsGivenUpOf : World → List Round → Round → Type 0
IsGivenUpOf w rs r = (before : List Round) × (after : List Round) × (rs ≡ before ++ r ∷ after) × (r.given_up ≡ true)
    × (world_after w (all_of before) ≡ world_after w (all_of rs))

-- what a stop leaves after these rounds is the World now, or that with one such round done after all
abbrev pub Lasts : (World → Type 0) → World → List Round → World → Type 0
Lasts Left w rs now = Left now ⊎ ((r : Round) × IsGivenUpOf w rs r × Left (world_after now r.held))

-- lives over the same books, each beginning with the World that the one before left: by its end, or by a stop after which one
-- such round was done after all; and the requests of all of them
pub data Lives : World → List Marked → World → Type 0 where
  unborn : {w : World} → Lives w [] w
  ended : {w v now : World} {ms ns : List Marked} → Lives w ms v → Lawful v ns now → Lives w (ms ++ ns) now
  stopped : {w v now : World} {ms : List Marked} {rs : List Round} → Lives w ms v → Lawful v (all_of rs) now → (r : Round) → IsGivenUpOf v rs r → Lives w (ms ++ (all_of rs ++ r.held)) (world_after now r.held)
