use Rattle.std.proofs.Common.{◌≡◌, ℕ, ◌++◌, true, Option, length, sym, ◌∙◌, ap, arith}
use Rattle.std.specs.Prelude.{sum_by}
use Rattle.mx_pay.specs.Names.{name_cmp, is_name}
use Rattle.mx_sorted.specs.Blocks.{rows_in, first_of}
use Rattle.mx_memory.specs.Due.{amount_due}
use Rattle.mx_sorted.specs.Slots.{map_of}
use Rattle.mx_book.specs.Under.{pair_cmp}
use Rattle.mx_book.specs.World.{Name}
use Rattle.mx_memory.proofs.DueLemmas.{sum_more}
use Rattle.mx_memory.proofs.redemptions.due_in.Goals as goal

pub loop-row-preserved : goal.loop-row-preserved
loop-row-preserved c =
    let f : (Name × Option (Name × Name)) × Unit {0} → ℕ = λ e. amount_due (map_of (pair_cmp name_cmp name_cmp) c.args.redemptions.now) e.0.1 in
    let here : is_name c.args.member c.in-Some.row.now.0.0 ≡ true = sym c.if-not-same_name.ensures.value in
    let rest = c.next.new.self.block.now ++ rows_in c.next.new.self.rest.now in
    let more = ap (λ es. sum_by f (first_of c.args.member es)) c.in-Some.ensures.steps ∙ sum_more f c.args.member c.in-Some.row.now rest here in
    let len = ap length c.in-Some.ensures.steps in
    record {
      sum = omega (arith, c.loop-row.invariant.sum, more, c.amount_due.ensures.value);
      few = omega (arith, c.loop-row.invariant.few, len, c.amount_due.ensures.limit);
    }
