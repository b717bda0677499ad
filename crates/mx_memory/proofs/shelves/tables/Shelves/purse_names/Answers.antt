use Rattle.std.proofs.Common.{List, ℕ, ◌∙◌, ap, map}
use Rattle.std.specs.FinMap.{entries}
use Rattle.std.proofs.lemmas.Simd.{map-map}
use Rattle.mx_pay.specs.Names.{name_cmp}
use Rattle.mx_sorted.specs.Slots.{map_of}
use Rattle.mx_memory.specs.Logs.{bare_entry}
use Rattle.mx_memory.specs.declared.purses.BareRow.{BareRow}
use Rattle.mx_memory.proofs.shelves.tables.Shelves.purse_names.Goals as goal

pub returns : goal.returns
returns c =
    let names = map (λ (e : List ℕ × BareRow). e.0) in
    let same = ap names c.rows.ensures ∙ map-map (λ (e : List ℕ × BareRow). e.0) bare_entry (entries (map_of name_cmp c.args.self.now.purses)) in
    rw same at c.names_in.ensures
