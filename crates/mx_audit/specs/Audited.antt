-- What an audit of all tables is.
use Rattle.std.specs.Prelude.{◌≡◌, ℕ, Bool, true, false, ◌&&◌, not, List, [], ◌∷◌, map, Result, IfOk, OnOk}
use Rattle.std.specs.List.{list_all}
use Rattle.std.specs.List.Sorted.{IsPermutation}
use Rattle.sqlite_value.specs.Order.{Row, column}
use Rattle.sqlite_trees.specs.Tree.{Trees, IsTable}
use Rattle.sqlite_trees.specs.declared.store.Store.{Ghosts}
use Rattle.sqlite.specs.Held.{Held, state}
use Rattle.mx_pay.specs.Details.{Details}
use Rattle.mx_pay.specs.Log.{has_logged}
use Rattle.mx_book.specs.RowEdits.{log_at}
use Rattle.mx_book.specs.RowReads.{row_is_archived}
use Rattle.mx_book.specs.Rows.{Rows}
use Rattle.mx_book.specs.World.{World, Name}
use Rattle.mx_book.specs.declared.contract.StoreFault.{StoreFault}
use Rattle.std.specs.FinMap as fmap
use Rattle.mx_tables.specs.Holds.{Spells, SpellsOne}
use Rattle.mx_tables.specs.Made.{HasVersion, IsUnknown}
use Rattle.mx_tables.specs.States.{IsAwake, IsOurs, Stays, StaysIdle, unsure, IsHonest, IsSound}
use Rattle.mx_audit.specs.Audit.{Goes}
use Rattle.mx_audit.specs.Scans.{Each, TakesAll}
use Rattle.mx_audit.specs.declared.audit.Audit.{Audit}
use Rattle.mx_audit.specs.declared.opening.Refusal.{Refusal}
use Rattle.mx_audit.specs.declared.opening.Refusal.TheVariants.{NotThisSchema, Unsound}
use Rattle.mx_audit.specs.declared.tables.Checked.{Checked}
use Rattle.mx_audit.specs.declared.typed.Source.{Source}
use Rattle.mx_audit.specs.declared.typed.Source.TheVariants.{Meta, Members, Holders, Tokens, Purses, Inbox, Lines, Tray, Archive, Loads, Redemptions, Settled}

-- the tables, in the order in which they are gone over
abbrev pub sources : List Source
sources = Meta ∷ Members ∷ Holders ∷ Tokens ∷ Purses ∷ Inbox ∷ Lines ∷ Tray ∷ Archive ∷ Loads ∷ Redemptions ∷ Settled ∷ []

-- the tree of each
abbrev pub tree_of : Source → ℕ
tree_of Meta = 0
tree_of Members = 1
tree_of Holders = 6
tree_of Tokens = 3
tree_of Purses = 8
tree_of Inbox = 10
tree_of Lines = 12
tree_of Tray = 14
tree_of Archive = 16
tree_of Loads = 18
tree_of Redemptions = 20
tree_of Settled = 22

-- what its query shows of a row
abbrev pub shown_of : Source → Row → Row
shown_of Meta r = column r 2 ∷ column r 0 ∷ []
shown_of Members r = column r 2 ∷ column r 3 ∷ column r 1 ∷ []
shown_of Holders r = column r 2 ∷ column r 1 ∷ []
shown_of Tokens r = column r 2 ∷ column r 3 ∷ column r 1 ∷ []
shown_of Purses r = column r 2 ∷ column r 3 ∷ column r 4 ∷ column r 5 ∷ column r 6 ∷ column r 7 ∷ column r 8 ∷ column r 9 ∷ column r 1 ∷ []
shown_of Inbox r = column r 2 ∷ column r 3 ∷ column r 4 ∷ column r 1 ∷ []
shown_of Lines r = column r 2 ∷ column r 3 ∷ column r 4 ∷ column r 5 ∷ column r 6 ∷ column r 1 ∷ []
shown_of Tray r = column r 2 ∷ column r 1 ∷ []
shown_of Archive r = column r 2 ∷ column r 1 ∷ []
shown_of Loads r = column r 3 ∷ column r 2 ∷ column r 1 ∷ []
shown_of Redemptions r = column r 3 ∷ column r 4 ∷ column r 2 ∷ column r 1 ∷ []
shown_of Settled r = column r 1 ∷ []

-- these are all rows of a table as its query shows them, and those of tokens come in their order, if they have one
abbrev pub IsScan : Source → Trees → List Row → Type 0
IsScan Tokens db rows = IsTable (db (tree_of Tokens)) → rows ≡ map (shown_of Tokens) (db (tree_of Tokens))
IsScan from db rows = IsPermutation (map (shown_of from) (db (tree_of from))) rows

-- the audit goes over all rows of a table
abbrev pub GoesOverOne : Trees → Source → Audit → Audit → Type 0
GoesOverOne db from old new = (rows : List Row) × IsScan from db rows × TakesAll (λ a r b. Goes r a b) (record old { source = from }) rows new

-- and of tables, one after another
abbrev pub GoesOver : Trees → List Source → Audit → Audit → Type 0
GoesOver db = Each (GoesOverOne db)

-- ---- what is looked up

-- a result in the tray of a purse is an entry of its log, and isn't archived
abbrev pub is_laid_well : Rows → Name × Details → Bool
is_laid_well r e = has_logged (log_at (fmap.get r.purses e.0)) e.1 && not (row_is_archived r e.0 e.1)

-- all that has to be looked up is as it should be
abbrev pub IsLookedUp : Rows → Audit → Type 0
IsLookedUp r a = (list_all (is_laid_well r) a.laid.items ≡ true) × (list_all (λ e. row_is_archived r e.0 e.1) a.cleared.items ≡ true)

-- ---- what is promised of it

-- An audit: the connection is as it was but for a fault. Without doubt, of tables of version 2, it finds nothing exactly where the
-- database spells a World; outside a round, where it finds nothing.
pub record Audits {S : Type 0} (g : Ghosts S) (old new : Held S) (result : Result ℕ StoreFault) : Type 0 where
  pub stays : {begun : Bool} → IsOurs begun (state g old) → Stays begun (state g old) (state g new)
  pub sound : IsOurs false (state g old) → IsSound (state g new) → HasVersion 2 (state g old).now
      → IfOk result (λ found. found ≡ 0 → (w : World) × SpellsOne (state g old).now w)
  pub whole : {begun : Bool} → IsOurs begun (state g old) → unsure begun (state g new) ≡ 0 → (w : World) → Spells (state g old).now w
      → IfOk result (λ found. found ≡ 0)
  pub live : OnOk result (IsAwake (state g new))

-- A store that is refused is as it was, and so is what a stop leaves: as NotThisSchema, only where it has no tables of version 2; as
-- Unsound, only where they spell no World.
pub record Refuses {S : Type 0} (g : Ghosts S) (old : Held S) (fault : Refusal) (new : Held S) : Type 0 where
  pub rests : StaysIdle (state g old) (state g new)
  pub unknown : fault ≡ NotThisSchema → IsHonest (state g new) → IsUnknown (λ _. 2) (state g old).now
  pub unsound : (c : Checked) → fault ≡ Unsound c → IsSound (state g new) → (w : World) → ¬ Spells (state g old).now w
