-- The places of clients that are connected, and what becomes of them.
use Rattle.std.specs.Prelude.{◌≡◌, ℕ, ◌+◌, ◌≤◌, List, Option, Some, None, Contains, All, sum_by}
use Rattle.mx_desk.specs.Clients.{Exchange}
use Rattle.mx_desk.specs.Devices.{capped}
use Rattle.mx_tasks.specs.Clients.{AreFewer, Clients, EndSo}
use Rattle.mx_tasks.specs.Seats.{AreSeated}
use Rattle.mx_tasks.specs.declared.serve.reception.Reception.{Reception}
use Rattle.mx_tasks.specs.declared.serve.seat.Seat.{Seat}
use Rattle.mx_tasks.specs.declared.serve.seat.Seat.TheVariants.{Asking, Taking}

-- nobody has this place
abbrev pub IsFree : {S : Type 0} → Option (Seat S) → Type 0
IsFree place = place ≡ None

-- how many at it were answered nothing yet
abbrev pub asks : {S : Type 0} → Option (Seat S) → ℕ
asks None = 0
asks (Some (Asking v)) = 1
asks (Some (Taking a)) = 0

-- the places, what is known of the clients, and how many were taken and have ended, of how many in all
pub record Hall (S : Type 0) : Type 0 where
  pub places : List (Option (Seat S))
  pub clients : Clients
  pub taken : ℕ
  pub ended : ℕ
  pub count : ℕ

-- Clients are taken, told something, and their connections end. Where this is so of exchanges, each was told one of them. So many
-- that were answered nothing yet are given places, and so many are taken out.
pub record Tends {S : Type 0} (received written : S → Option (List ℕ)) (IsSo : List Exchange → Type 0) (given out : ℕ) (old new : Hall S) : Type 0 where
  pub told : (xs : List Exchange) → AreSeated received written xs old.places → IsSo xs → AreSeated received written xs new.places
  pub ends : ℕ
  pub ended : (xs : List Exchange) → AreSeated received written xs old.places → IsSo xs → EndSo xs ends old.clients.ended new.clients.ended
  pub counted : capped new.ended ≡ capped (old.ended + ends)
  pub takes : ℕ
  pub fewer : AreFewer takes old.clients.coming new.clients.coming
  pub taken : new.taken ≡ old.taken + takes
  pub most : old.taken ≤ old.count → new.taken ≤ old.count
  pub count : new.count ≡ old.count
  pub asking : sum_by asks new.places + out ≤ sum_by asks old.places + given + takes

-- whatever the exchanges are
abbrev pub Always : List Exchange → Type 0
Always xs = Unit {0}

-- these are among them
abbrev pub Have : List Exchange → List Exchange → Type 0
Have ys xs = All (Contains xs) ys

-- those of a reception
abbrev pub hall : {L S V : Type 0} → (L → Clients) → Reception L S V → Hall S
hall clients r = record { places = r.places.items; clients = clients r.listener; taken = r.taken; ended = r.ended; count = r.count }
