-- The data that a tree of `json` stands for; for private clauses.
use Rattle.std.specs.Prelude.{◌≡◌, Some, unwrap_or}
use Rattle.json.specs.Value.{value_view}
use Rattle.json.specs.declared.value.Value.{Value}
use Rattle.serde_json.specs.Data.{Data, null}
use Rattle.serde_json.specs.Read.{of_json}

-- what `serde_json` makes of a tree
unfoldable pub data_of : {A : Type 0} → Value A → Data
data_of v = unwrap_or (of_json (value_view v)) null

-- `serde_json` takes the tree: each of its numbers is in range
abbrev pub IsData : {A : Type 0} → Value A → Type 0
IsData v = of_json (value_view v) ≡ Some (data_of v)
