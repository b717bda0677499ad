use Rattle.std.proofs.Common.{◌≡◌, refl, rules}
use Rattle.mx_pay.proofs.CodeLemmas.{no_gap}
use Rattle.mx_office.proofs.ArchiveLemmas.{one_lacks, archived_more, all_archived}
use Rattle.mx_office.proofs.CallLemmas.{keeps_none, so_more, tells_so, tells_fault_then}
use Rattle.mx_office.proofs.archive.may_clear.Goals as goal
use Rattle.mx_office.proofs.archive.may_clear.Goals.{in-Some+in_ok-archived+else-not-branch, in_default}

pub loop-place-init : goal.loop-place-init
loop-place-init g c = record { far = record { keeps = keeps_none _; value = λ sure. refl } }

pub returns-in_err-archived : goal.returns-in_err-archived
returns-in_err-archived g c = tells_fault_then c.loop-place.invariant.far.keeps c.in_err-archived.ensures c.from_residual.ensures.1

pub returns-then-not-branch : goal.returns-then-not-branch
returns-then-not-branch g c =
    tells_so (g.met.B.Book.lawful _) (so_more c.loop-place.invariant.far c.in_ok-archived.ensures) (λ w world known. one_lacks w _ _ c.loop-place.place c.in-Some.entry (search rules) (search rules))

pub loop-place-preserved : goal.loop-place-preserved
loop-place-preserved g c = elim c.match-at.branch [
  | in-Some+in_ok-archived+else-not-branch x ↦
      let more = so_more c.loop-place.invariant.far x.in_ok-archived.ensures in
      let is : c.match-at.book ≡ x.archived.new.self = search rules in
      record { far = rw is (record { keeps = more.keeps; value = λ sure. let known = more.value sure in archived_more (g.B.Book.view c.args.book.now).world _ _ c.loop-place.place x.in-Some.entry (search rules) (search rules) (search rules) }) }
  | in_default x ↦ absurd (no_gap c.args.details.now c.loop-place.place (search rules) (search rules))
]

pub returns : goal.returns
returns g c = tells_so (g.met.B.Book.lawful _) c.loop-place.invariant.far (λ w world known. all_archived w _ _ c.len.result (search rules) (search rules))
