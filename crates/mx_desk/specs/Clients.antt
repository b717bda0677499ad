-- Clients whose requests are answered in rounds, each over a connection of its own (RFC 9112, section 9).
use Rattle.std.specs.Prelude.{◌≡◌, ℕ, Bool, List, [], ◌∷◌, ◌++◌, Option}
use Rattle.mx_book.specs.Views.{View}
use Rattle.mx_book.specs.World.{World, Token}
use Rattle.mx_book.specs.declared.contract.StoreFault.{StoreFault}
use Rattle.mx_book.specs.declared.values.Caller.{Caller}
use Rattle.mx_desk.specs.declared.clients.Looked.{Looked}
use Rattle.mx_desk.specs.declared.clients.Looked.TheVariants.{Asks, Waits}
use Rattle.mx_desk.specs.declared.head.Stop.{Stop}
use Rattle.mx_desk.specs.declared.held.Held.{Held}
use Rattle.mx_desk.specs.Found.{IsOpen}
use Rattle.mx_desk.specs.Held.{Holds, text_of}
use Rattle.mx_desk.specs.Requests.{First, Request, Stops, Whole}
use Rattle.mx_desk.specs.Serve.{Marked, MayBeMarked, response_to, stop_text, world_after_one}

-- what came of a client, and what it is answered
pub record Exchange : Type 0 where
  pub came : List ℕ
  pub answer : List ℕ

-- A client is answered in the World w: not at all; or that what came can't be framed; or the response to its first request, which
-- is given up only where it may be. This is the request, and the World then.
pub data Exchanged (fails : StoreFault → Type 0) (w : World) (x : Exchange) : List Marked → World → Type 0 where
  unanswered : x.answer ≡ [] → Exchanged fails w x [] w
  unframed : {stop : Stop} → First x.came (Stops stop) → x.answer ≡ stop_text stop → Exchanged fails w x [] w
  answered : {m : Marked} {rest : List ℕ} → First x.came (Whole m.request rest) → MayBeMarked fails w m → x.answer ≡ response_to w m → Exchanged fails w x (m ∷ []) (world_after_one w m)

-- clients are answered in this order, each in the World that the one before left
pub data Exchanges (fails : StoreFault → Type 0) : World → List Exchange → List Marked → World → Type 0 where
  none : {w : World} → Exchanges fails w [] [] w
  then : {w v now : World} {x : Exchange} {xs : List Exchange} {ms ns : List Marked} → Exchanged fails w x ms v → Exchanges fails v xs ns now → Exchanges fails w (x ∷ xs) (ms ++ ns) now

-- ---- a round

-- what came can't be framed, and that is sent
abbrev pub IsUnframed : List ℕ → Held → Type 0
IsUnframed came h = (stop : Stop) × First came (Stops stop) × ((kept : Bool) → text_of kept h ≡ stop_text stop)

-- of each of these clients this came, and this is held for it: of its first request, or since what came can't be framed. The
-- requests, and what is held of them.
pub data BeginEach : List (List ℕ) → List Held → List Request → List Held → Type 0 where
  no_client : BeginEach [] [] [] []
  framed : {b rest : List ℕ} {bs : List (List ℕ)} {h : Held} {hs gs : List Held} {r : Request} {rs : List Request} → First b (Whole r rest) → BeginEach bs hs rs gs → BeginEach (b ∷ bs) (h ∷ hs) (r ∷ rs) (h ∷ gs)
  not_framed : {b : List ℕ} {bs : List (List ℕ)} {h : Held} {hs gs : List Held} {rs : List Request} → IsUnframed b h → BeginEach bs hs rs gs → BeginEach (b ∷ bs) (h ∷ hs) rs gs

-- This is held for clients of whom this came.
pub record HoldsEach (fails : StoreFault → Type 0) (old new : View) (known knows : List (Option (Token × Caller))) (came : List (List ℕ)) (hs : List Held) : Type 0 where
  pub rs : List Request
  pub gs : List Held
  pub begin : BeginEach came hs rs gs
  pub holds : Holds fails old new known knows gs rs

-- what they are answered, where the round is kept or not
abbrev pub exchanges : Bool → List (List ℕ) → List Held → List Exchange
exchanges kept [] hs = []
exchanges kept (b ∷ bs) [] = []
exchanges kept (b ∷ bs) (h ∷ hs) = record { came = b; answer = text_of kept h } ∷ exchanges kept bs hs

-- ---- one client of it

abbrev pub came_by : List ℕ → Looked → List (List ℕ)
came_by came (Asks h goes_on) = came ∷ []
came_by came (Waits fault) = []

abbrev pub held_by : Looked → List Held
held_by (Asks h goes_on) = h ∷ []
held_by (Waits fault) = []

-- more has to come
abbrev pub IsOpenWhere : List ℕ → Looked → Type 0
IsOpenWhere came (Waits fault) = IsOpen came fault
IsOpenWhere came (Asks h goes_on) = Unit {0}

-- what came of a client is looked at in a round
pub record Looks (fails : StoreFault → Type 0) (old new : View) (known knows : List (Option (Token × Caller))) (came : List ℕ) (looked : Looked) : Type 0 where
  pub holds : HoldsEach fails old new known knows (came_by came looked) (held_by looked)
  pub waits : IsOpenWhere came looked
