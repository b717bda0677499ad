-- Clients that are connected, and what they were told.
use Rattle.std.specs.Prelude.{◌≡◌, ◌⊎◌, ℕ, ◌<◌, ◌≤◌, List, [], Option, Some, None, IfSome, All, Contains, length, map, take, Bool, false, nat_le, ◌||◌, ◌+◌}
use Rattle.std.specs.Time.{instant_nanos, FitsClock}
use Rattle.std.specs.declared.time.Instant.{Instant}
use Rattle.mx_desk.specs.Clients.{Exchange}
use Rattle.mx_desk.specs.Held.{text_of}
use Rattle.mx_desk.specs.declared.held.Held.{Held}
use Rattle.mx_tasks.specs.Clients.{IsKnown, IsPrefix}
use Rattle.mx_tasks.specs.declared.serve.seat.Answered.{Answered}
use Rattle.mx_tasks.specs.declared.serve.seat.Arrival.{Arrival}
use Rattle.mx_tasks.specs.declared.serve.seat.Arrival.TheVariants.{Failed}
use Rattle.mx_tasks.specs.declared.serve.seat.Asked.{Asked}
use Rattle.mx_tasks.specs.declared.serve.seat.Seat.{Seat}
use Rattle.mx_tasks.specs.declared.serve.seat.Seat.TheVariants.{Asking, Taking}
use Rattle.mx_tasks.specs.declared.serve.seat.Visitor.{Visitor}

-- nothing was written to a client
abbrev pub IsUntold : {S : Type 0} → (S → Option (List ℕ)) → Visitor S → Type 0
IsUntold written v = IsKnown (written v.stream) []

-- and what came of it is all that was read
abbrev pub IsFresh : {S : Type 0} → (S → Option (List ℕ)) → (S → Option (List ℕ)) → Visitor S → Type 0
IsFresh received written v = IsKnown (received v.stream) v.came.items × IsUntold written v

-- a read of it may have failed
abbrev pub IsRead : {S : Type 0} → (S → Option (List ℕ)) → (S → Option (List ℕ)) → Arrival → Visitor S → Type 0
IsRead received written Failed v = IsUntold written v
IsRead received written _ v = IsFresh received written v

-- the text of an answer
abbrev pub answer_of : {S : Type 0} → Answered S → List ℕ
answer_of a = text_of a.kept a.held

-- its first bytes are what was written, so many
abbrev pub IsSentSo : {S : Type 0} → (S → Option (List ℕ)) → Answered S → Type 0
IsSentSo written a = (a.sent ≤ length (answer_of a)) × IsKnown (written a.stream) (take a.sent (answer_of a))

-- it is the answer of one of these exchanges, with whose bytes begins what was read
abbrev pub IsAnswerOf : {S : Type 0} → (S → Option (List ℕ)) → List Exchange → Answered S → Type 0
IsAnswerOf received xs a = (x : Exchange) × Contains xs x × (x.answer ≡ answer_of a) × IfSome (received a.stream) (IsPrefix x.came)

-- less than a megabyte was read behind its request
abbrev pub IsRestFew : {S : Type 0} → Answered S → Type 0
IsRestFew a = IfSome a.behind (λ n. n < 1048576)

-- the connection of a client
abbrev pub stream_of : {S : Type 0} → Seat S → S
stream_of (Asking v) = v.stream
stream_of (Taking a) = a.stream

-- a client was told nothing, or so much of one of these answers
abbrev pub IsSeated : {S : Type 0} → (S → Option (List ℕ)) → (S → Option (List ℕ)) → List Exchange → Seat S → Type 0
IsSeated received written xs (Asking v) = IsFresh received written v
IsSeated received written xs (Taking a) = IsAnswerOf received xs a × IsSentSo written a

-- its connection may be ended
abbrev pub IsEnding : {S : Type 0} → (S → Option (List ℕ)) → (S → Option (List ℕ)) → List Exchange → Seat S → Type 0
IsEnding received written xs (Asking v) = IsUntold written v
IsEnding received written xs (Taking a) = IsAnswerOf received xs a × IsSentSo written a

abbrev pub AreSeated : {S : Type 0} → (S → Option (List ℕ)) → (S → Option (List ℕ)) → List Exchange → List (Option (Seat S)) → Type 0
AreSeated received written xs places = All (λ place. IfSome place (IsSeated received written xs)) places

-- what came of clients, and what is held for them
abbrev pub came_of : {S : Type 0} → List (Asked S) → List (List ℕ)
came_of round = map (λ a. a.visitor.came.items) round

abbrev pub held_of : {S : Type 0} → List (Asked S) → List Held
held_of round = map (λ a. a.held) round

abbrev pub AreFresh : {S : Type 0} → (S → Option (List ℕ)) → (S → Option (List ℕ)) → List (Asked S) → Type 0
AreFresh received written round = All (λ a. IsFresh received written a.visitor) round

-- how many clients that is
abbrev pub visitor_of : {S : Type 0} → Option (Visitor S) → ℕ
visitor_of None = 0
visitor_of (Some v) = 1

-- how many clients come, if one can be taken
abbrev pub visitors_of : {S : Type 0} → Option (ℕ × Visitor S) → ℕ
visitors_of None = 0
visitors_of (Some p) = 1

-- ---- times

-- so many nanoseconds from then, if the clock counts so far
abbrev pub IsAfter : Instant → ℕ → Instant → Type 0
IsAfter now n t = FitsClock (instant_nanos now + n) → instant_nanos t ≡ instant_nanos now + n

-- How long is waited for a client that is answered goes on as it was: until ten seconds from now where its answer is written just
-- now, until a second from now where something came, and for less than a megabyte behind its request.
pub record WaitsOn {S : Type 0} (now : Instant) (old new : Answered S) : Type 0 where
  pub until : (new.until ≡ old.until) ⊎ ((old.behind ≡ None) × IsAfter now 10000000000 new.until)
  pub silent : (new.silent ≡ old.silent) ⊎ IsAfter now 1000000000 new.silent
  pub few : IsRestFew old → IsRestFew new

-- the time of a client is over: that for its request; or that for taking its answer and for what comes behind the request, or it was
-- silent for too long
abbrev pub is_over : {S : Type 0} → Instant → Seat S → Bool
is_over now (Asking v) = nat_le (instant_nanos v.until) (instant_nanos now)
is_over now (Taking a) = nat_le (instant_nanos a.until) (instant_nanos now) || nat_le (instant_nanos a.silent) (instant_nanos now)

-- nobody has a place whose time is over
abbrev pub AreInTime : {S : Type 0} → Instant → List (Option (Seat S)) → Type 0
AreInTime now places = All (λ place. IfSome place (λ seat. is_over now seat ≡ false)) places
