use Rattle.std.proofs.Common.{rules, sym, ◌∙◌}
use Rattle.mx_office.proofs.CallLemmas.{so_far, so_more, tells_so, tells_fault, tells_fault_then}
use Rattle.mx_office.proofs.CommandLemmas.{foreign_decides}
use Rattle.mx_office.proofs.ArchiveLemmas.{read_decides}
use Rattle.mx_office.proofs.purses.read_log.Goals as goal

pub returns-in_err-own : goal.returns-in_err-own
returns-in_err-own g c = tells_fault c.in_err-own.ensures c.from_residual.ensures.1

pub returns-in_default : goal.returns-in_default
returns-in_default g c =
    let after = so_far c.in_ok-own.ensures in
    tells_so (g.met.B.Book.lawful _) after (λ w world known. foreign_decides w _ _ _ _ world (sym known ∙ c.in_default.is) c.refuse.ensures.reply c.refuse.ensures.edits)

pub returns-in_err-new : goal.returns-in_err-new
returns-in_err-new g c =
    tells_fault_then c.in_ok-own.ensures.keeps c.in_err-new.ensures c.from_residual-in_err-new.ensures.1

pub returns : goal.returns
returns g c =
    let after = so_far c.in_ok-own.ensures in
    let new = so_more after c.in_ok-new.ensures in
    tells_so (g.met.B.Book.lawful _) new (λ w world known. read_decides w c.args.holder c.args.purse c.in-Some.after c.args.place _ world (sym known.0 ∙ c.in-Some.is) c.read_log-entry.result (search rules) (search rules) (search rules))
