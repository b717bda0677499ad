-- Lives over the same books: each is a run of requests over an input of its own, and is ended by a stop or a close.
use Rattle.std.specs.Prelude.{◌≡◌, ℕ, Bool, true, List, [], ◌∷◌, ◌++◌, Option, Some, IfErr}
use Rattle.sqlite_disk.specs.declared.Disk.{Ghosts}
use Rattle.sqlite_disk.specs.declared.Files.{Files}
use Rattle.sqlite.specs.Files.{image_of}
use Rattle.mx_book.specs.World.{World}
use Rattle.mx_book.specs.declared.contract.StoreFault.{StoreFault}
use Rattle.mx_desk.specs.Durable.{IsGivenUpOf, Lives}
use Rattle.mx_desk.specs.Rounds.{Round, all_of}
use Rattle.mx_desk.specs.Serve.{Marked, world_after}
use Rattle.mx_desk.specs.Steps.{state}
use Rattle.mx_lives.specs.declared.answered.Life.{Life}
use Rattle.mx_tasks.specs.Runs.{IsRunFault, TaskRuns}
use Rattle.mx_files.specs.InFiles.{AreClosed, HoldBooks}

-- a run over exactly these bytes, from the World w, which ended and wrote as the life says: it answered these requests, which lead
-- to the World now
pub record RunsOver (fails : StoreFault → Type 0) (w : World) (input : List ℕ) (life : Life) (ms : List Marked) (now : World) : Type 0 where
  -- the bytes that it left of the input
  pub rest : Option (List ℕ)
  -- a fault is want of memory, or one of the desk
  pub fault : IfErr life.ended IsRunFault
  pub runs : TaskRuns fails (state [] (Some input) (Some []) w) life.ended ms (state [] rest (Some life.written.items) now)

-- Lives over these inputs, in order, of which this came, lead from one World to another with these requests. Each begins with the
-- World that the one before left: the World in its end, or, where lives are ended by stops, that with one round more, which it
-- gave up and behind which nothing was changed.
pub data LivesOver (fails : StoreFault → Type 0) (have_stops : Bool) : List (List ℕ) → List Life → World → List Marked → World → Type 0 where
  unlived : {w : World} → LivesOver fails have_stops [] [] w [] w
  lived : {inputs : List (List ℕ)} {input : List ℕ} {lives : List Life} {life : Life} {w v now : World} {ms ns : List Marked}
      → LivesOver fails have_stops inputs lives w ms v → RunsOver fails v input life ns now
      → LivesOver fails have_stops (inputs ++ input ∷ []) (lives ++ life ∷ []) w (ms ++ ns) now
  lived_more : {inputs : List (List ℕ)} {input : List ℕ} {lives : List Life} {life : Life} {w v now : World} {ms : List Marked} {rs : List Round}
      → have_stops ≡ true → LivesOver fails have_stops inputs lives w ms v → RunsOver fails v input life (all_of rs) now → (r : Round) → IsGivenUpOf v rs r
      → LivesOver fails have_stops (inputs ++ input ∷ []) (lives ++ life ∷ []) w (ms ++ (all_of rs ++ r.held)) (world_after now r.held)

-- lives over these inputs, of which this came, led from the World w to one that the books spell
pub record LivedTo (fails : StoreFault → Type 0) (have_stops : Bool) (Stands : World → Type 0) (inputs : List (List ℕ)) (lives : List Life) (w : World) : Type 0 where
  -- the requests of all lives, in order
  pub marked : List Marked
  -- the World after them
  pub end : World
  -- life by life, each tied to the bytes of its input, to how it ended and to what it wrote
  pub over : LivesOver fails have_stops inputs lives w marked end
  -- all lives as one list of requests: what is promised of it is said by the law `lives` of mx_desk
  pub as_one : Lives w marked end
  pub stands : Stands end

-- what lives over these inputs left, each of which ended with a close: files that were closed, where there was a life
abbrev pub AreLeft : {D : Type 0} → Ghosts D → Files D → List (List ℕ) → World → Type 0
AreLeft g files [] w = HoldBooks (image_of g files) w
AreLeft g files (input ∷ inputs) w = AreClosed g files w
