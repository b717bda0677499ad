use Rattle.std.proofs.Common.{Some, is_some, sym, ◌∙◌, ap}
use Rattle.mx_pay.specs.Names.{name_cmp}
use Rattle.mx_memory.specs.Due.{due_cmp}
use Rattle.mx_sorted.specs.Slots.{map_of}
use Rattle.mx_book.specs.Under.{pair_cmp}
use Rattle.mx_book.proofs.RowLemmas.{keys_total}
use Rattle.mx_book.proofs.IndexLemmas.{none_under, none_there, one_there, first_case}
use Rattle.mx_memory.proofs.redemptions.first_due.Goals as goal

pub returns-in_err-row : goal.returns-in_err-row
returns-in_err-row c = rw c.from_residual.ensures (λ k. ap is_some (none_under (pair_cmp name_cmp name_cmp) keys_total c.args.member (map_of due_cmp c.args.due.now) (sym c.rows_from.ensures ∙ c.in_err-row.ensures.steps.0) (Some k)))

pub returns-then-same_name : goal.returns-then-same_name
returns-then-same_name c =
    let index = map_of due_cmp c.args.due.now in
    first_case (pair_cmp name_cmp name_cmp) keys_total c.args.member index tt c.in_ok-row.row.now.0.1
    (one_there (pair_cmp name_cmp name_cmp) keys_total c.args.member index c.in_ok-row.row.now _ (sym c.rows_from.ensures ∙ c.in_ok-row.ensures.steps) (sym c.if-same_name.ensures.value))
    c.requires

pub returns-else-same_name : goal.returns-else-same_name
returns-else-same_name c k =
    ap is_some (none_there (pair_cmp name_cmp name_cmp) keys_total c.args.member (map_of due_cmp c.args.due.now) c.in_ok-row.row.now _ (sym c.rows_from.ensures ∙ c.in_ok-row.ensures.steps) (sym c.if-same_name.ensures.value) (Some k))
