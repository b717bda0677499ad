use Rattle.mx_tables.proofs.Common.{◌≡◌, ◌∙◌}
use Rattle.std.proofs.Common.{ap, subst}
use Rattle.mx_tables.specs.Cached.{IsDue, due_of, keys_due}
use Rattle.mx_tables.specs.Counted.{collected_where, is_among}
use Rattle.mx_book.specs.Under.{remake}
use Rattle.mx_tables.proofs.CollectLemmas.{IsWithout, collects_due, due_collected}
use Rattle.mx_tables.proofs.ThroughLemmas.{edits_as, edits_follow}
use Rattle.mx_tables.proofs.collecting.collect.Goals as goal

pub returns-in_default : goal.returns-in_default
returns-in_default g c = edits_follow g.S.Store c.collect_all.ensures (λ r fit it. (c.take_due.ensures r it).0 _)

pub returns : goal.returns
returns g c =
    let due = due_of c.in-Some.due in
    let left = due_of c.drop_keys.new.due in
    let m = c.args.member in
    let keys : c.deref.result.now ≡ keys_due due m = c.deref.ensures.value ∙ c.in_ok-keys.ensures in
    let dropped : IsWithout due left m (keys_due due m) = subst (IsWithout due left m) (c.deref-2.ensures.value ∙ c.in_ok-keys.ensures) c.drop_keys.ensures in
    edits_as g.S.Store c.in_ok-collect_keys.ensures (λ r fit it.
    let both = c.take_due.ensures r it in
    let is : IsDue r due = rw c.in-Some.is at both.1 in (
      λ i. record r { redemptions = (ap (λ ks. remake (collected_where (is_among ks)) r.redemptions) keys ∙ collects_due r due is m left dropped) i },
      c.fill_due.ensures _ (due_collected r due is m left dropped) (both.0 _),
    ))
