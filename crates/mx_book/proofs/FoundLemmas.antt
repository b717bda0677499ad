-- What is found in a map by names after a write.
use Rattle.std.proofs.Common.{◌≡◌, ◌⊎◌, refl, Option, Some, None, IsSome, arith}
use Rattle.std.specs.Prelude.{IsNone}
use Rattle.std.specs.FinMap as fmap
use Rattle.mx_pay.specs.Names.{name_cmp}
use Rattle.mx_book.specs.World.{Name}
use Rattle.mx_book.proofs.NameLemmas.{names_total, same_name}
use Rattle.std.specs.FinMap.{gets}
pub use Rattle.std.proofs.lemmas.Option.{same_Some as inside}

-- a fact of the value that is found is a fact of some value
pub some_of : {X : Type 0} (o : Option X) (x : X) → o ≡ Some x → IsSome o
some_of o x e = grind arith

-- some value is found
pub value_found : {X : Type 0} (o : Option X) → IsSome o → (x : X) × (o ≡ Some x)
value_found None h = absurd (cc)
value_found (Some x) h = (x, refl)

-- none is found
pub none_is : {X : Type 0} (o : Option X) → IsNone o → o ≡ None
none_is o h = grind arith

-- nothing is found, and so no value is
pub none_found : {X Y : Type 0} (o : Option X) (x : X) → o ≡ None → o ≡ Some x → Y
none_found o x none some = absurd (cc)

pub none_some : {X Y : Type 0} (o : Option X) → o ≡ None → IsSome o → Y
none_some o none some = absurd (grind arith)

module _ {X : Type 0} (m : fmap.FinMap name_cmp X) (k : Name) (v : X) where
  -- what holds of each value after a write
  pub each_inserted : (P : Name → X → Type 0) → P k v → ((q : Name) (x : X) → fmap.get m q ≡ Some x → P q x) → (q : Name) (x : X) → fmap.get (fmap.insert m k v) q ≡ Some x → P q x
  each_inserted P new old q x e = grind (arith, gets, names_total, same_name)

  -- a key that is there after a write is the one that was written, or was there before
  pub some_inserted : (q : Name) → IsSome (fmap.get (fmap.insert m k v) q) → (q ≡ k) ⊎ IsSome (fmap.get m q)
  some_inserted q h = grind (arith, gets, names_total, same_name)

  -- a key that is there stays there
  pub still_some : (q : Name) → IsSome (fmap.get m q) → IsSome (fmap.get (fmap.insert m k v) q)
  still_some q h = grind (arith, gets, names_total)

  -- a value stays where another key is new
  pub kept_value : fmap.get m k ≡ None → (q : Name) (x : X) → fmap.get m q ≡ Some x → fmap.get (fmap.insert m k v) q ≡ Some x
  kept_value none q x at = grind (arith, gets, names_total, same_name)
