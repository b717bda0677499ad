-- Clients that are served in rounds.
use Rattle.std.specs.Prelude.{◌≡◌, ◌≤◌, ℕ, List, ◌++◌, length, Option, Result, OnOk}
use Rattle.mx_book.specs.Views.{View}
use Rattle.mx_book.specs.World.{World, Token}
use Rattle.mx_book.specs.declared.contract.StoreFault.{StoreFault}
use Rattle.mx_book.specs.declared.values.Caller.{Caller}
use Rattle.mx_desk.specs.Clients.{Exchange, Exchanges, HoldsEach}
use Rattle.mx_desk.specs.Leaves.{Lawful}
use Rattle.mx_desk.specs.Serve.{Marked}
use Rattle.mx_tasks.specs.Halls.{Always, Hall, Have, Tends}
use Rattle.mx_tasks.specs.Seats.{AreFresh, AreSeated, came_of, held_of}
use Rattle.mx_tasks.specs.declared.serve.seat.Asked.{Asked}

-- Clients that are ready are attended to, and this is held for those that asked, behind what was held before.
pub record Gathers {S : Type 0} (fails : StoreFault → Type 0) (received written : S → Option (List ℕ)) (old new : View) (known knows : List (Option (Token × Caller))) (h k : Hall S) (before after : List (Asked S)) : Type 0 where
  pub more : List (Asked S)
  pub items : after ≡ before ++ more
  pub holds : HoldsEach fails old new known knows (came_of more) (held_of more)
  pub fresh : (xs : List Exchange) → AreSeated received written xs h.places → AreFresh received written more
  pub tends : Tends received written Always 0 (length more) h k

-- Clients are answered one after another, each in the World that the one before left, and told that.
pub record ServesRound {S : Type 0} (fails : StoreFault → Type 0) (received written : S → Option (List ℕ)) (w : World) (old new : Hall S) (ms : List Marked) (now : World) : Type 0 where
  pub exchanged : List Exchange
  pub served : Exchanges fails w exchanged ms now
  pub tends : Tends received written (Have exchanged) 0 (length exchanged) old new

-- Clients were taken, as many as there were to be unless a fault came. Some of them were answered, each once, in this order; and all
-- that is promised of requests holds of theirs.
pub record ServesClients {X E : Type 0} (fails : StoreFault → Type 0) (w : World) (count : ℕ) (result : Result X E) (ms : List Marked) (now : World) : Type 0 where
  pub exchanged : List Exchange
  pub served : Exchanges fails w exchanged ms now
  pub taken : ℕ
  pub some : length exchanged ≤ taken
  pub most : taken ≤ count
  pub all : OnOk result (taken ≡ count)
  pub lawful : Lawful w ms now
