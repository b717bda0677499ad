use Rattle.std.proofs.Common.{ℕ, List, ap, arith, ap₂, sym, subst, ◌∙◌}
use Rattle.sqlite_wal.specs.Recovery.{Image}
use Rattle.sqlite.specs.Files.{file_state, IsBlankAs}
use Rattle.sqlite.specs.Start.{FindsIn}
use Rattle.mx_files.proofs.database.open_files.Goals as goal

-- two files of these bytes
abbrev image : List ℕ → List ℕ → Image
image log db = record { log = log; db = db }

pub returns-in-Ok-clause-over : goal.returns-in-Ok-clause-over
returns-in-Ok-clause-over g c = λ clean.
    let seen = g.D.Disk.seen in
    let reads = c.extent_of.ensures in
    let watched = c.watched-files.ensures in
    let found = c.in-Ok.ensures.found clean in
    let same = ap₂ image (ap seen watched.log ∙ reads.log.seen) (ap seen watched.db ∙ reads.db.seen) in
    (subst (λ i. FindsIn i (file_state c.in-Ok.store)) same (record { holds = found.holds; reads = found.reads }), c.in-Ok.ensures.opened clean)

pub returns-in-Ok-clause-sums : goal.returns-in-Ok-clause-sums
returns-in-Ok-clause-sums g c = λ asked clean blank.
    let seen = g.D.Disk.seen in
    let reads = c.extent_of.ensures in
    let watched = c.watched-files.ensures in
    let same = ap₂ image (ap seen watched.log ∙ reads.log.seen) (ap seen watched.db ∙ reads.db.seen) in
    let first = image (seen c.args.files.log) (seen c.args.files.db) in
    c.in-Ok.ensures.sums clean (subst (IsBlankAs c.args.new_has_sums) (sym same) (subst (λ b. IsBlankAs b first) (sym asked) blank)) ∙ asked

pub returns-in-Ok-clause-honest : goal.returns-in-Ok-clause-honest
returns-in-Ok-clause-honest g c = λ clean.
    let reads = c.extent_of.ensures in
    let watched = c.watched-files.ensures in
    let honest = (c.in-Ok.ensures.found clean).honest in
    grind (arith, reads.log.clean, reads.db.clean, watched.log, watched.db, honest)
