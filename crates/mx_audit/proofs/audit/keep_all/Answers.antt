use Rattle.std.proofs.Common.{◌∙◌, ◌++◌, sym, ap, rules}
use Rattle.mx_pay.specs.Log.{logged}
use Rattle.mx_pay.proofs.CodeLemmas.{len_logged}
use Rattle.mx_audit.proofs.KeepLemmas.{kept_one, none_missing, all_taken}
use Rattle.mx_audit.proofs.audit.keep_all.Goals.{in-Some+in_ok-keep_one, in_default}
use Rattle.mx_audit.proofs.audit.keep_all.Goals as goal

pub loop-place-preserved : goal.loop-place-preserved
loop-place-preserved c = elim c.match-at.branch [
  | in-Some+in_ok-keep_one w ↦
      kept_one (λ d. (c.args.purse, d)) (logged c.args.set.now) c.loop-place.place w.in-Some.details c.args.kept.now.items c.loop-place.kept.items c.match-at.kept.items
      (sym c.at.ensures.value ∙ w.in-Some.is) c.loop-place.invariant (ap (λ v. v.items) w.kept-is ∙ w.in_ok-keep_one.ensures)
  | in_default w ↦ absurd (none_missing (logged c.args.set.now) c.loop-place.place (sym c.at.ensures.value ∙ w.in_default.is) (let count = c.len-place-end.ensures.value ∙ len_logged c.args.set.now in search rules))
]

pub returns : goal.returns
returns c = c.loop-place.invariant ∙ ap (λ xs. c.args.kept.now.items ++ xs) (all_taken _ (logged c.args.set.now) c.loop-place.place (let count = c.len-place-end.ensures.value ∙ len_logged c.args.set.now in search rules))
