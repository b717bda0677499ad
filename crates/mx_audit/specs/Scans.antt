-- What a scan of the rows of a query does.
use Rattle.std.specs.Prelude.{◌≡◌, Bool, List, [], ◌∷◌, Result, OnOk}
use Rattle.sqlite_value.specs.Order.{Row}
use Rattle.sqlite_trees.specs.declared.store.Store.{Ghosts}
use Rattle.sqlite_schema.specs.declared.schema.Schema.{Schema}
use Rattle.sqlite.specs.Held.{Held, state}
use Rattle.mx_book.specs.declared.contract.StoreFault.{StoreFault}
use Rattle.mx_tables.specs.Schema.{office_schema}
use Rattle.mx_tables.specs.States.{IsAt, IsAwake, StaysAt, unsure}

-- the rows were taken one after another, and made the old one the new one
abbrev pub TakesAll : {T : Type 0} → (T → Row → T → Type 0) → T → List Row → T → Type 0
TakesAll takes old [] new = new ≡ old
TakesAll {T} takes old (row ∷ rows) new = (mid : T) × takes old row mid × TakesAll takes mid rows new

-- these were done one after another, each from what the one before it left
abbrev pub Each : {X A : Type 0} → (X → A → A → Type 0) → List X → A → A → Type 0
Each does [] old new = new ≡ old
Each {A = A} does (x ∷ xs) old new = (mid : A) × does x old mid × Each does xs mid new

-- A read that does something, of tables of this schema: the connection is as it was but for a fault, without doubt this was done
-- where it answers Ok, and a connection that a fault has shut does nothing.
pub record ScansAt {S T : Type 0} (of : Schema) (g : Ghosts S) (old new : Held S) (result : Result T StoreFault) (did : Type 0) : Type 0 where
  pub stays : {begun : Bool} → IsAt begun of (state g old) → StaysAt begun of (state g old) (state g new)
  pub value : {begun : Bool} → IsAt begun of (state g old) → unsure begun (state g new) ≡ 0 → OnOk result did
  pub live : OnOk result (IsAwake (state g new))

-- the same of the tables of the office
abbrev pub Scans : {S T : Type 0} → Ghosts S → Held S → Held S → Result T StoreFault → Type 0 → Type 0
Scans g old new result did = ScansAt office_schema g old new result did
