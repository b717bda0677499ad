-- What a call of the desk leaves. All that is promised of it is said of one list of requests.
use Rattle.std.specs.Prelude.{◌≡◌, ◌⊎◌, ◌≤◌, ℕ, List, ◌++◌, length, take, Result, Ok, Err}
use Rattle.std.specs.Io.KnownBytes.{Appends, Consumes}
use Rattle.mx_book.specs.World.{World, Name, Token, opening}
use Rattle.mx_book.specs.declared.contract.StoreFault.{StoreFault}
use Rattle.mx_office.specs.Abstract.{Refines, RefinesFromNone}
use Rattle.mx_office.specs.Reachable.{IsReachable}
use Rattle.mx_desk.specs.declared.desk.Served.{Served}
use Rattle.mx_desk.specs.declared.fault.DeskFault.{DeskFault}
use Rattle.mx_desk.specs.declared.head.Stop.{Stop}
use Rattle.mx_desk.specs.Conservation.{NeverFull}
use Rattle.mx_desk.specs.Isolation.{IsApart}
use Rattle.mx_desk.specs.Refinement.{commands_of}
use Rattle.mx_desk.specs.Requests.{Begins}
use Rattle.mx_desk.specs.Serve.{Marked, AllMayBeMarked, ServedAll, outputs, requests_of, stop_text, world_after}
use Rattle.mx_desk.specs.Steps.{State, Turns, Faults}

-- Requests lead from one World to another. They keep each holder apart. From a World that commands lead to, they lead to such
-- a World, none is refused because a purse or a float is full, and what they ask is what the abstract purses do (PRG-126: the
-- backward simulation); from a World that has nothing but an operator's token it is so from no purses.
pub record Lawful (w : World) (ms : List Marked) (now : World) : Type 0 where
  pub world : now ≡ world_after w ms
  pub apart : (h : Name) → IsApart w h ms
  pub reachable : IsReachable w → IsReachable now
  pub never_full : IsReachable w → NeverFull w ms
  pub refines : IsReachable w → Refines w (commands_of w ms) now
  pub from_none : (operator : Token) → w ≡ opening operator → RefinesFromNone operator (commands_of w ms) now

-- what was written: the responses to these requests; and then the response to a fault of the input, whole or cut; or the
-- responses to the last of them, which one round answered, were cut
abbrev pub IsWritten : World → List Marked → List ℕ → Type 0
IsWritten w ms out =
    (out ≡ outputs w ms)
    ⊎ ((stop : Stop) × (count : ℕ) × (out ≡ outputs w ms ++ take count (stop_text stop)))
    ⊎ ((before : List Marked) × (last : List Marked) × (count : ℕ) × (length last ≤ 64) × (ms ≡ before ++ last) × (out ≡ outputs w before ++ take count (outputs (world_after w before) last)))

-- the first requests of what came in were answered, or given up where they may be; what was written are their responses
pub record Leaves (fails : StoreFault → Type 0) (s : State) (ms : List Marked) (out : List ℕ) (t : State) : Type 0 where
  pub came : List ℕ
  pub rest : List ℕ
  pub consumed : Consumes s.input t.input came
  pub wrote : Appends s.output t.output out
  pub begins : Begins (s.pending ++ came) (requests_of ms) rest
  pub marks : AllMayBeMarked fails s.world ms
  pub written : IsWritten s.world ms out
  pub lawful : Lawful s.world ms t.world

-- the first request alone: one turn, and what that leaves of the request that it answered
pub record Serves (fails : StoreFault → Type 0) (s : State) (r : Result Served DeskFault) (ms : List Marked) (t : State) : Type 0 where
  pub alone : length ms ≤ 1
  pub left : List ℕ
  pub turns : Turns fails s r ms (record t { pending = left })
  pub out : List ℕ
  pub leaves : Leaves fails s ms out t

-- how a run ends: the whole input was served, or a fault came
abbrev pub RunEnds : (StoreFault → Type 0) → State → List Marked → List ℕ → Result ℕ DeskFault → State → Type 0
RunEnds fails s ms out (Ok n) t = ServedAll s.world s.input ms out n
RunEnds fails s ms out (Err e) t = Faults fails s ms e t

-- a run: what it leaves of the requests that were answered, and how it ends
pub record Runs (fails : StoreFault → Type 0) (s : State) (r : Result ℕ DeskFault) (ms : List Marked) (t : State) : Type 0 where
  pub out : List ℕ
  pub leaves : Leaves fails s ms out t
  pub ends : RunEnds fails s ms out r t
