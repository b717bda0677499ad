-- What becomes of a client that was answered nothing before.
use Rattle.std.specs.Prelude.{ℕ, List, [], ◌∷◌, Option}
use Rattle.mx_desk.specs.Clients.{IsUnframed}
use Rattle.mx_desk.specs.declared.held.Held.{Held}
use Rattle.mx_tasks.specs.Seats.{IsFresh, IsUntold}
use Rattle.mx_tasks.specs.declared.serve.desk.Attended.{Attended}
use Rattle.mx_tasks.specs.declared.serve.desk.Attended.TheVariants.{Asks, Leaves, Waits}

-- it was told nothing, and unless its connection ends, what came of it is all that was read
abbrev pub IsAttended : {S : Type 0} → (S → Option (List ℕ)) → (S → Option (List ℕ)) → Attended S → Type 0
IsAttended received written (Waits v) = IsFresh received written v
IsAttended received written (Leaves v) = IsUntold written v
IsAttended received written (Asks v h goes_on) = IsFresh received written v

-- what came of a client for which something is held, and that
abbrev pub came_by : {S : Type 0} → Attended S → List (List ℕ)
came_by (Asks v h goes_on) = v.came.items ∷ []
came_by _ = []

abbrev pub held_by : {S : Type 0} → Attended S → List Held
held_by (Asks v h goes_on) = h ∷ []
held_by _ = []

-- what came of a client for which something is held can't be framed, and that is held
abbrev pub IsUnframedBy : {S : Type 0} → Attended S → Type 0
IsUnframedBy (Asks v h goes_on) = IsUnframed v.came.items h
IsUnframedBy _ = Unit {0}
