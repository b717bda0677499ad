use Rattle.std.proofs.Common.{◌∙◌, ap, ℕ, Option}
use Rattle.std.specs.Prelude.{sum_by}
use Rattle.mx_sorted.specs.Blocks.{first_of}
use Rattle.mx_memory.specs.Due.{due_cmp, amount_due}
use Rattle.mx_memory.specs.Shelves.{rows_of}
use Rattle.mx_sorted.specs.Slots.{map_of}
use Rattle.mx_book.specs.World.{Name}
use Rattle.mx_memory.proofs.DueLemmas.{due_sum}
use Rattle.mx_memory.proofs.shelves.tables.Shelves.uncollected_of.Goals as goal

pub returns : goal.returns
returns c =
    let r = rows_of c.args.self.now in
    let f : (Name × Option (Name × Name)) × Unit {0} → ℕ = λ e. amount_due r.redemptions e.0.1 in
    c.due_in.ensures ∙ ap (λ es. sum_by f (first_of c.args.member es)) c.rows_from.ensures
    ∙ due_sum r.purses r.holders r.redemptions (map_of due_cmp c.args.self.now.due) c.args.self.now.tied c.args.member
