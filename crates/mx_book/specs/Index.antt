-- Indexes of a book in memory: the keys under names, in the order of the names and then of the keys.
use Rattle.std.specs.Prelude.{◌≡◌, Bool, List, filter_map, Option, Some, None}
use Rattle.std.specs.declared.cmp.Ordering.{Ordering}
use Rattle.std.specs.Option.{option_cmp}
use Rattle.std.specs.FinMap as fmap
use Rattle.std.specs.FinSet.{FinSet}
use Rattle.mx_pay.specs.Names.{name_cmp, is_name}
use Rattle.mx_book.specs.declared.values.PurseRow.{PurseRow}
use Rattle.mx_sorted.specs.Blocks.{rows_from, first_of}
use Rattle.mx_book.specs.Under.{pair_cmp}
use Rattle.mx_book.specs.World.{Name}

-- the order of an index. Under each name None comes before all keys, so that a search for it finds the first
abbrev pub index_cmp : {K : Type 0} → (K → K → Ordering) → Name × Option K → Name × Option K → Ordering
index_cmp R = pair_cmp name_cmp (option_cmp R)

-- what a test says of a key under a name; None is no key
abbrev pub stands : {K : Type 0} → (Name → K → Bool) → Name → Option K → Bool
stands test n None = Bool.false
stands test n (Some k) = test n k

-- exactly those keys are under each name of which the test says so
abbrev pub IsIndex : {K : Type 0} (R : K → K → Ordering) → (Name → K → Bool) → FinSet (index_cmp R) → Type 0
IsIndex {K = K} R test index = (n : Name) (k : Option K) → fmap.contains_key index (n, k) ≡ stands test n k

-- what a test says of a value, and no where there is none
abbrev pub is_met : {X : Type 0} → (X → Bool) → Option X → Bool
is_met test None = Bool.false
is_met test (Some x) = test x

-- ---- the purses of each holder

-- whether a purse is there and is the holder's
abbrev pub is_held : fmap.FinMap name_cmp PurseRow → Name → Name → Bool
is_held purses h p = is_met (λ (x : PurseRow). is_name h x.holder) (fmap.get purses p)

-- each purse is under its holder, and nothing else is there
abbrev pub IsHeld : fmap.FinMap name_cmp PurseRow → FinSet (index_cmp name_cmp) → Type 0
IsHeld purses held = IsIndex name_cmp (is_held purses) held

-- the names under a holder, in order
abbrev pub names_under : FinSet (index_cmp name_cmp) → Name → List Name
names_under held h = filter_map (λ (e : (Name × Option Name) × Unit {0}). e.0.1) (first_of h (rows_from (index_cmp name_cmp) (h, None) (fmap.entries held)))

-- the index without a purse, which had this holder or isn't there
abbrev pub released : FinSet (index_cmp name_cmp) → Option Name → Name → FinSet (index_cmp name_cmp)
released held None p = held
released held (Some h) p = fmap.remove held (h, Some p)
