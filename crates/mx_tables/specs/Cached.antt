-- What tables cache of their rows, and that it agrees with them.
use Rattle.std.specs.Prelude.{◌≡◌, ◌≤◌, ◌<◌, ◌⊎◌, ℕ, Bool, true, false, List, Option, Some, None, IfSome, IfOk, IsTrue, Result, is_some, filter_map, fold, get_or, take, length}
use Rattle.std.specs.Ordering.{nat_cmp}
use Rattle.std.specs.FinMap as fmap
use Rattle.std.specs.FinSet.{FinSet}
use Rattle.sqlite_trees.specs.declared.store.Store.{Ghosts}
use Rattle.sqlite.specs.Held.{Held, state}
use Rattle.sqlite.specs.declared.savepoint.Savepoint.{Savepoint}
use Rattle.sqlite.specs.State.{State}
use Rattle.mx_pay.specs.Names.{is_name, name_cmp}
use Rattle.mx_memory.specs.Due.{IsTied, due_cmp, is_fit}
use Rattle.mx_sorted.specs.Blocks.{first_of, rows_from}
use Rattle.mx_sorted.specs.Slots.{Slots, map_of}
use Rattle.mx_book.specs.Index.{index_cmp, IsHeld}
use Rattle.mx_book.specs.RowEdits.{rewritten}
use Rattle.mx_book.specs.RowReads.{of_name}
use Rattle.mx_book.specs.Rows.{Rows}
use Rattle.mx_book.specs.Spells as book
use Rattle.mx_book.specs.Under.{pair_cmp}
use Rattle.mx_book.specs.World.{World, Name}
use Rattle.mx_book.specs.declared.contract.StoreFault.{StoreFault}
use Rattle.mx_book.specs.declared.edits.Edit.{Edit}
use Rattle.mx_book.specs.declared.values.PurseRow.{PurseRow}
use Rattle.mx_tables.specs.Holds.{Holds, Spells}
use Rattle.mx_tables.specs.Rounds.{IsKept}
use Rattle.mx_tables.specs.Schema.{office_schema}
use Rattle.mx_tables.specs.States.{IsExplained, IsOurs, SpellAny, Stays, Steps, unsure, worry}
use Rattle.mx_tables.specs.declared.cache.Cache.{Cache}

-- an index of purses by holder, as code keeps it
abbrev pub index_of : Slots (Name × Option Name) (Unit {0}) → FinSet (index_cmp name_cmp)
index_of = map_of (index_cmp name_cmp)

-- an index of the redemptions that aren't collected, as code keeps it
abbrev pub due_of : Slots (Name × Option (Name × Name)) (Unit {0}) → FinSet due_cmp
due_of = map_of due_cmp

-- exactly those of these rows are under each member
abbrev pub IsDue : Rows → FinSet due_cmp → Type 0
IsDue r due = IsTied r.purses r.holders r.redemptions due

-- those under a member, by purse and reference
abbrev pub keys_due : FinSet due_cmp → Name → List (Name × Name)
keys_due due m =
    filter_map (λ (e : (Name × Option (Name × Name)) × Unit {0}). e.0.1)
    (first_of m (rows_from due_cmp (m, None) (fmap.entries due)))

-- what is cached is so of these rows: which purses each holder has, which redemptions of each member aren't collected, purses, how
-- many messages lie in an inbox at most, and that a message is there
pub record Agrees (r : Rows) (k : Cache) : Type 0 where
  pub owners : IfSome k.owners (λ held. IsHeld r.purses (index_of held))
  pub due : IfSome k.due (λ due. IsDue r (due_of due))
  pub purses : (p : Name) (x : PurseRow) → fmap.get (map_of name_cmp k.purses) p ≡ Some x → fmap.get r.purses p ≡ Some x
  pub inboxes : (p : Name) (n : ℕ) → fmap.get (map_of name_cmp k.inboxes) p ≡ Some n → length (of_name p (fmap.entries r.inbox)) ≤ n
  pub messages : (q : Name × ℕ) → fmap.contains_key (map_of (pair_cmp name_cmp nat_cmp) k.messages) q ≡ true → is_some (fmap.get r.inbox q) ≡ true

-- ---- edits

-- what stands under names is this value under that name, if there is one, or what stood under another
abbrev pub Replaces : {V : Type 0} → fmap.FinMap name_cmp V → fmap.FinMap name_cmp V → Name → Option V → Type 0
Replaces {V = V} old new p value = (q : Name) (v : V) → fmap.get new q ≡ Some v → ((q ≡ p) × (value ≡ Some v)) ⊎ ((is_name q p ≡ false) × (fmap.get old q ≡ Some v))

-- what stands under names is what this makes of what stood under that name, or what stood under another
abbrev pub Changes : {V : Type 0} → fmap.FinMap name_cmp V → fmap.FinMap name_cmp V → Name → (V → V) → Type 0
Changes {V = V} old new p f = (q : Name) (v : V) → fmap.get new q ≡ Some v → ((u : V) × (q ≡ p) × (fmap.get old p ≡ Some u) × (v ≡ f u)) ⊎ ((is_name q p ≡ false) × (fmap.get old q ≡ Some v))

-- what edits add is new, and what it stands under is there, in order
abbrev pub AreFit : Rows → List Edit → Type 0
AreFit r es = (i : ℕ) (e : Edit) → i < length es → e ≡ get_or es i e → IsTrue (is_fit (fold rewritten r (take i es)) e)

-- A change by way of the cache: of rows that the cache agrees with, and which it fits, it is made, and the cache agrees with
-- what it makes.
pub record BringsThrough (fits : Rows → Type 0) (change : Rows → Rows) (old new : State)
    (before after : Cache) : Type 0 where
  pub schema : new.now.schema ≡ office_schema
  pub rows : (r : Rows) → Holds old.now r → fits r → Agrees r before
      → Holds new.now (change r) × Agrees (change r) after

-- these edits, in order
abbrev pub EditsThrough : List Edit → State → State → Cache → Cache → Type 0
EditsThrough es = BringsThrough (λ r. AreFit r es) (λ r. fold rewritten r es)

-- a step that makes such a change
abbrev pub WritesThrough : {S T : Type 0} → (g : Ghosts S) → Savepoint S g → Savepoint S g
    → Cache → Cache → Result T StoreFault → (Rows → Type 0) → (Rows → Rows) → Type 0
WritesThrough g old new before after result fits change =
    let a = state g old.conn.now in
    let b = state g new.conn.now in
    Steps g old new result (λ _. a.now.schema ≡ office_schema → BringsThrough fits change a b before after)

-- ---- between calls

-- without doubt, where the rows spell a World, what is cached is so of them
abbrev pub Caches : Bool → State → Cache → Type 0
Caches begun s k = unsure begun s ≡ 0 → (r : Rows) (w : World) → Holds s.now r → book.Spells r w → Agrees r k

-- the rows spell a World, where they aren't doubted, and so do those that the last settle left, where there is no harm
pub record Represents (begun : Bool) (s : State) : Type 0 where
  pub now : unsure begun s ≡ 0 → (w : World) × Spells s.now w
  pub base : worry s ≡ 0 → (w : World) × Spells s.committed w

-- what tables keep true of their connection and their cache, and of the World, where one is known to be there
pub record Invariant (begun : Bool) (s : State) (cache : Cache) (known : Bool) : Type 0 where
  pub kept : IsKept begun s
  pub caches : Caches begun s cache
  pub represents : known ≡ true → Represents begun s

-- ---- reads

-- A read by way of the cache: the connection is as a read leaves it. Without doubt, of rows that spell a World and that the cache
-- agrees with, what is given is so, and the cache agrees with them still; it fails only for a cause.
pub record ReadsThrough {S T : Type 0} (g : Ghosts S) (old new : Held S) (before after : Cache) (result : Result T StoreFault)
    (is : Rows → World → T → Type 0) : Type 0 where
  pub stays : {begun : Bool} → IsOurs begun (state g old) → Stays begun (state g old) (state g new)
  pub agrees : {begun : Bool} → IsOurs begun (state g old) → unsure begun (state g new) ≡ 0 → (r : Rows) (w : World) → Holds (state g old).now r → book.Spells r w → Agrees r before
      → Agrees r after × IfOk result (is r w)
  pub cause : IsExplained g old new result SpellAny
