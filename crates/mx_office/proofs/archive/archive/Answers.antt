use Rattle.std.proofs.Common.{rules, sym, ◌∙◌}
use Rattle.mx_office.proofs.CallLemmas.{so_far, so_more, tells_so, tells_fault, tells_fault_then}
use Rattle.mx_office.proofs.ArchiveLemmas.{archive_refused, nothing_archived, archive_decides}
use Rattle.mx_office.proofs.archive.archive.Goals as goal

pub returns-in_err-has_purse : goal.returns-in_err-has_purse
returns-in_err-has_purse g c =
    tells_fault c.in_err-has_purse.ensures c.from_residual.ensures.1

pub returns-then-not-branch : goal.returns-then-not-branch
returns-then-not-branch g c =
    let has_purse = so_far c.in_ok-has_purse.ensures in
    tells_so (g.met.B.Book.lawful _) has_purse (λ w world known. (archive_refused w _ _ world (sym known ∙ c.if-not-branch.true) c.refuse.ensures.reply c.refuse.ensures.edits, λ none. c.refuse.ensures.edits))

pub returns-in_err-tray : goal.returns-in_err-tray
returns-in_err-tray g c =
    tells_fault_then c.in_ok-has_purse.ensures.keeps c.in_err-tray.ensures c.from_residual-in_err-tray.ensures.1

pub returns-then-results-eq0 : goal.returns-then-results-eq0
returns-then-results-eq0 g c =
    let has_purse = so_far c.in_ok-has_purse.ensures in
    let tray = so_more has_purse c.in_ok-tray.ensures in
    tells_so (g.met.B.Book.lawful _) tray (λ w world known. (nothing_archived w _ _ world (sym known.0 ∙ c.if-not-branch.false) (search rules) c.tell.ensures.reply c.tell.ensures.edits, λ none. c.tell.ensures.edits))

pub returns-else-results-eq0 : goal.returns-else-results-eq0
returns-else-results-eq0 g c =
    let has_purse = so_far c.in_ok-has_purse.ensures in
    let tray = so_more has_purse c.in_ok-tray.ensures in
    tells_so (g.met.B.Book.lawful _) tray (λ w world known. (archive_decides w _ _ world c.len-results.result (sym known.0 ∙ c.if-not-branch.false) (search rules) c.make.ensures.reply c.make.ensures.edits, λ none. search rules))
