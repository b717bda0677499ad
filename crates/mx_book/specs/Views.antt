-- What a book shows, and what calls of it leave of that.
use Rattle.std.specs.Prelude.{◌≡◌, ◌⊎◌, ◌≤◌, ℕ, true, false, List, [], ◌∷◌, Result, IfOk, IfErr, OnOk, OnErr}
use Rattle.mx_book.specs.World.{World}
use Rattle.mx_book.specs.Conditions.{IsWorld}
use Rattle.mx_book.specs.Stands.{Attempt, attempt, attempt_all, OneMore}
use Rattle.mx_book.specs.declared.contract.StoreFault.{StoreFault}
use Rattle.mx_book.specs.Keeps.{HasCause}

-- what a book shows
pub record View : Type 1 where
  -- 0 while the World is the one that the changes made: there is no harm, and no fault has undone what waits for a settle. It
  -- falls at a settle alone
  pub doubt : ℕ
  -- 0 while the store has returned what was written to it, and works. 1 from a fault that shut it: then nothing is known of
  -- the World but what a stop leaves. More from a lie of the store. It never falls
  pub harm : ℕ
  -- the World, where there is no doubt
  pub world : World
  -- the World as the last settle left it, where there is no harm
  pub base : World
  -- changes wait for a settle
  pub defers : Type 0
  -- nothing waits for a settle
  pub IsSettled : Type 0
  -- what an opening after a stop at this moment may find
  pub leaves : World → Type 0
  -- how often the store has failed or refused
  pub faults : ℕ
  -- the store stops a query that takes too many steps
  pub limited : Type 0

-- The store of a book is sound; or a fault has shut it; or it has lied.
abbrev pub HasSoundStore : View → Type 0
HasSoundStore v = v.harm ≡ 0

-- it hasn't lied
abbrev pub HasHonestStore : View → Type 0
HasHonestStore v = v.harm ≤ 1

-- The book is sure of its World; or a fault has shut its store or undone what waited; or its store has lied.
abbrev pub IsSure : View → Type 0
IsSure v = v.doubt ≡ 0

-- no lie was told
abbrev pub IsHonest : View → Type 0
IsHonest v = v.doubt ≤ 1

-- What holds of what every book shows.
pub record IsLawful (v : View) : Type 0 where
  -- Worlds meet their conditions
  pub sound : IsSure v → IsWorld v.world
  pub based : HasSoundStore v → IsWorld v.base
  pub left : (w : World) → v.leaves w → IsWorld w
  -- while there is no harm, a stop leaves what was settled, if it leaves any
  pub steady : HasSoundStore v → (w : World) → v.leaves w → w ≡ v.base
  -- where nothing waits for a settle, the World is what was settled, and is doubted for harm alone
  pub rest : v.IsSettled → (v.doubt ≡ v.harm) × (HasSoundStore v → v.world ≡ v.base)
  -- harm is a doubt of the World too
  pub deep : v.harm ≤ v.doubt

-- ---- calls

-- Harm doesn't fall. Where there is none in the end, what the last settle left is there, if changes wait for a settle. While no
-- lie was told, a stop leaves nothing that it couldn't leave before.
pub record Bides (old new : View) : Type 0 where
  pub lasts : old.harm ≤ new.harm
  pub stands : new.defers → HasSoundStore new → (new.base ≡ old.base) × old.defers
  pub stops : HasHonestStore new → (w : World) → new.leaves w → old.leaves w

-- Doubt doesn't fall, and where there is none in the end the World is as it was. What was settled is left, and nothing waits
-- for a settle where nothing did. Faults of the store are counted.
pub record Keeps (old new : View) : Type 0 where
  pub later : old.doubt ≤ new.doubt
  pub same : IsSure new → new.world ≡ old.world
  pub bides : Bides old new
  pub rests : old.IsSettled → new.IsSettled
  pub counts : old.faults ≤ new.faults
  pub limits : new.limited → old.limited

-- What an answer says of the World, where there is no doubt in the end.
abbrev pub Gives : {T E : Type 0} → View → View → Result T E → (World → T → Type 0) → Type 0
Gives old new result said = IsSure new → IfOk result (said old.world)

-- A read: the World stays, this is said of it, and a fault is one of these, and has a cause where there is no doubt in the end.
pub record Answers {T : Type 0} (fails : StoreFault → Type 0) (old new : View)
    (result : Result T StoreFault) (said : World → T → Type 0) : Type 0 where
  pub keeps : Keeps old new
  pub value : Gives old new result said
  pub fault : IfErr result fails
  pub cause : IsSure new → IfErr result (HasCause old.limited old.faults new.faults)

-- A change of the World is made and waits for a settle, or nothing is where there is a fault, which is one of these. Doubt
-- doesn't fall.
pub record Changes {T E : Type 0} (fails : E → Type 0) (old new : View) (result : Result T E)
    (change : World → World) : Type 0 where
  pub later : old.doubt ≤ new.doubt
  pub ok : IsSure new → OnOk result (new.world ≡ change old.world)
  pub err : IsSure new → OnErr result (new.world ≡ old.world)
  pub bides : Bides old new
  pub fault : IfErr result fails

-- How a settle ends: all that waited stands, or nothing of it. A stop leaves what it could leave before, or all of it.
pub record Settles {T E : Type 0} (old new : View) (result : Result T E) : Type 0 where
  pub lasts : old.harm ≤ new.harm
  pub ends : new.IsSettled
  pub ok : HasHonestStore new
      → OnOk result (IsSure old × HasSoundStore new × (new.world ≡ old.world))
  pub err : HasSoundStore new → OnErr result (old.defers × (new.world ≡ old.base))
  pub stops : HasHonestStore new → (w : World) → new.leaves w
      → old.leaves w ⊎ (IsSure old × (w ≡ old.world))

-- ---- rounds

-- In a round: the World is changed so, where there is no doubt, and the change waits for a settle.
pub record Drafts (old new : View) (change : World → World) : Type 0 where
  pub later : old.doubt ≤ new.doubt
  pub world : IsSure new → new.world ≡ change old.world
  pub bides : Bides old new

-- ---- attempts

-- Nothing waits for a settle, and where there is no doubt this is the World.
pub record RestsAt (v : View) (w : World) : Type 0 where
  pub still : v.IsSettled
  pub is : IsSure v → v.world ≡ w

-- all of them were given up
abbrev pub AreGivenUp : List Attempt → Type 0
AreGivenUp [] = Unit {0}
AreGivenUp (t ∷ ts) = (t.given_up ≡ true) × AreGivenUp ts

-- what a stop leaves after attempts: what it could leave before, where all were given up; or, where there was no doubt, the
-- World that they lead to, or that with one more attempt
abbrev pub IsLeft : View → List Attempt → World → Type 0
IsLeft old ts w = (old.leaves w × AreGivenUp ts)
    ⊎ (IsSure old × ((w ≡ attempt_all old.world ts) ⊎ OneMore old.world ts w))

-- Attempts lead a book from where it rests to where it rests again. While no lie was told, a stop leaves nothing else.
pub record MovesTo (old new : View) (ts : List Attempt) : Type 0 where
  pub later : old.doubt ≤ new.doubt
  pub rests : new.IsSettled
  pub world : IsSure new → new.world ≡ attempt_all old.world ts
  pub left : IsHonest new → (w : World) → new.leaves w → IsLeft old ts w

-- A change of the World is made and answered, or it is given up. While no lie was told, nothing that is answered is doubted.
pub record Attempts {T E : Type 0} (old new : View) (result : Result T E)
    (change : World → World) : Type 0 where
  pub made : OnOk result (MovesTo old new (attempt false change))
  pub undone : OnErr result (MovesTo old new (attempt true change))
  pub sure : IsHonest new → OnOk result (IsSure new)
