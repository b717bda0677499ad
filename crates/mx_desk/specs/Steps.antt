-- One turn of the desk, and what a fault leaves.
use Rattle.std.specs.Prelude.{◌≡◌, ℕ, ◌<◌, ◌≤◌, ◌⊎◌, List, [], ◌++◌, length, take, Option, IfSome, Result, Ok, Err}
use mathlib.Core.Logic.{inl}
use Rattle.std.specs.Io.KnownBytes.{Appends, Consumes, IsAtEnd}
use Rattle.mx_book.specs.World.{World}
use Rattle.mx_book.specs.declared.contract.StoreFault.{StoreFault}
use Rattle.mx_desk.specs.declared.head.Stop.{Stop}
use Rattle.mx_desk.specs.declared.desk.Served.{Served}
use Rattle.mx_desk.specs.declared.desk.Served.TheVariants as served
use Rattle.mx_desk.specs.declared.fault.DeskFault.{DeskFault}
use Rattle.mx_desk.specs.declared.fault.DeskFault.TheVariants as fault
use Rattle.mx_desk.specs.Requests.{Next, Stops, Begins, First, IsEnd}
use Rattle.mx_desk.specs.Serve.{Marked, AllMayBeMarked, outputs, requests_of, stop_text, world_after, Answered}

-- where a run stands: the bytes read and not used, what the reader has left, what was written, and the World
pub record State : Type 0 where
  pub pending : List ℕ
  pub input : Option (List ℕ)
  pub output : Option (List ℕ)
  pub world : World

abbrev pub state : List ℕ → Option (List ℕ) → Option (List ℕ) → World → State
state pending input output world = record { pending = pending; input = input; output = output; world = world }

-- nothing was answered: the bytes wait, and no whole request is among them
pub record Waits (s : State) (b : List ℕ) (t : State) : Type 0 where
  pub next : Next
  pub first : First b next
  pub is_end : IsEnd next
  pub pending : t.pending ≡ b
  pub wrote : Appends s.output t.output []
  pub world : t.world ≡ s.world

-- the first requests of b were answered, so many, and one at least
pub record Answers (fails : StoreFault → Type 0) (s : State) (b : List ℕ) (n : ℕ) (t : State) : Type 0 where
  pub marked : List Marked
  pub marks : AllMayBeMarked fails s.world marked
  pub begins : Begins b (requests_of marked) t.pending
  pub count : n ≡ length marked
  pub some : 0 < n
  pub wrote : Appends s.output t.output (outputs s.world marked)
  pub world : t.world ≡ world_after s.world marked

-- a fault of the input ends the run, whatever the reader would still give
pub record Stopping (s : State) (b : List ℕ) (t : State) : Type 0 where
  pub stop : Stop
  pub first : IfSome t.input (λ rest. First (b ++ rest) (Stops stop))
  pub wrote : Appends s.output t.output (stop_text stop)
  pub world : t.world ≡ s.world

-- the responses to the first requests of b, which one round answered, were cut, or are whole and weren't flushed
pub record CutAnswer (fails : StoreFault → Type 0) (s : State) (b : List ℕ) (t : State) : Type 0 where
  pub marked : List Marked
  pub few : length marked ≤ 64
  pub marks : AllMayBeMarked fails s.world marked
  pub rest : List ℕ
  pub count : ℕ
  pub begins : Begins b (requests_of marked) rest
  pub cut : count ≤ length (outputs s.world marked)
  pub wrote : Appends s.output t.output (take count (outputs s.world marked))
  pub world : t.world ≡ world_after s.world marked

-- the response to a fault of the input was cut, or is whole and wasn't flushed
pub record CutStop (s : State) (b : List ℕ) (t : State) : Type 0 where
  pub stop : Stop
  pub count : ℕ
  pub first : IfSome t.input (λ rest. First (b ++ rest) (Stops stop))
  pub cut : count ≤ length (stop_text stop)
  pub wrote : Appends s.output t.output (take count (stop_text stop))
  pub world : t.world ≡ s.world

-- nothing came first and the input is at its end
pub record Ends (s : State) (b : List ℕ) (t : State) : Type 0 where
  pub empty : b ≡ []
  pub at_end : IsAtEnd t.input
  pub wrote : Appends s.output t.output []
  pub world : t.world ≡ s.world

-- a write or a flush that failed: at the responses to requests, at that to a fault of the input, or before a read
abbrev pub WriteFailed : (StoreFault → Type 0) → State → List ℕ → State → Type 0
WriteFailed fails s b t = CutAnswer fails s b t ⊎ (CutStop s b t ⊎ Waits s b t)

abbrev pub StepCase : (StoreFault → Type 0) → State → List ℕ → Result Served DeskFault → State → Type 0
StepCase fails s b (Ok served.Nothing) t = Ends s b t
StepCase fails s b (Ok (served.Answered n)) t = Answers fails s b n t
StepCase fails s b (Ok served.Stopped) t = Stopping s b t
StepCase fails s b (Err fault.Read) t = Waits s b t
StepCase fails s b (Err fault.Turns) t = Waits s b t
StepCase fails s b (Err fault.Write) t = WriteFailed fails s b t

-- one turn: some bytes came, and then that case
pub record Steps (fails : StoreFault → Type 0) (s : State) (r : Result Served DeskFault) (t : State) : Type 0 where
  pub came : List ℕ
  pub consumed : Consumes s.input t.input came
  pub then : StepCase fails s (s.pending ++ came) r t

-- the requests that were answered on the way from s to t, with their marks
pub record Ran (fails : StoreFault → Type 0) (s : State) (marked : List Marked) (t : State) : Type 0 where
  pub came : List ℕ
  pub out : List ℕ
  pub consumed : Consumes s.input t.input came
  pub wrote : Appends s.output t.output out
  pub answered : Answered fails s.world (s.pending ++ came) marked t.pending out t.world

-- the requests that a turn answered, be their responses whole or cut
abbrev pub answered_by : (fails : StoreFault → Type 0) (s : State) (b : List ℕ) (t : State) (r : Result Served DeskFault) → StepCase fails s b r t → List Marked
answered_by fails s b t (Ok (served.Answered n)) c = c.marked
answered_by fails s b t (Err fault.Write) (inl c) = c.marked
answered_by fails s b t r c = []

abbrev pub answered_in : {fails : StoreFault → Type 0} {s : State} {r : Result Served DeskFault} {t : State} → Steps fails s r t → List Marked
answered_in {fails} {s} {r} {t} turn = answered_by fails s (s.pending ++ turn.came) t r turn.then

-- one turn, and the requests that it answered
pub record Turns (fails : StoreFault → Type 0) (s : State) (r : Result Served DeskFault) (ms : List Marked) (t : State) : Type 0 where
  pub turn : Steps fails s r t
  pub answered : answered_in turn ≡ ms

-- these requests were answered, the last of them perhaps in the turn in which that fault came
pub record Faults (fails : StoreFault → Type 0) (s : State) (ms : List Marked) (e : DeskFault) (t : State) : Type 0 where
  pub before : List Marked
  pub at : State
  pub ran : Ran fails s before at
  pub left : List ℕ
  pub turn : Steps fails at (Err e) (record t { pending = left })
  pub all : ms ≡ before ++ answered_in turn
