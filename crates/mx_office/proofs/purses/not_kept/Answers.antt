use Rattle.std.proofs.Common.{rules, sym, ◌∙◌, ap}
use Rattle.std.specs.Prelude.{option_map}
use Rattle.mx_office.specs.Decides.{not_kept}
use Rattle.mx_office.proofs.CallLemmas.{so_far, so_more, tells_none, tells_so, tells_fault, tells_fault_then}
use Rattle.mx_office.proofs.ArchiveLemmas.{laid_kept, archived_kept, new_result}
use Rattle.mx_office.proofs.purses.not_kept.Goals as goal

pub returns-in_default : goal.returns-in_default
returns-in_default g c = tells_none (g.met.B.Book.lawful _) (λ w world. search rules)

pub returns-in_err-laid : goal.returns-in_err-laid
returns-in_err-laid g c =
    tells_fault c.in_err-laid.ensures c.from_residual.ensures.1

pub returns-then-has : goal.returns-then-has
returns-then-has g c =
    let laid = so_far c.in_ok-laid.ensures in
    tells_so (g.met.B.Book.lawful _) laid (λ w world known. laid_kept w c.args.purse c.in_ok-laid.laid c.in-Some.details.now known (search rules) ∙ ap (λ o. not_kept w c.args.purse (option_map (λ d. d.now) o)) (sym c.in-Some.is))

pub returns-in_err-archived : goal.returns-in_err-archived
returns-in_err-archived g c =
    tells_fault_then c.in_ok-laid.ensures.keeps c.in_err-archived.ensures c.from_residual-in_err-archived.ensures.1

pub returns-then-branch : goal.returns-then-branch
returns-then-branch g c =
    let laid = so_far c.in_ok-laid.ensures in
    let archived = so_more laid c.in_ok-archived.ensures in
    tells_so (g.met.B.Book.lawful _) archived (λ w world known. archived_kept w c.args.purse c.in_ok-laid.laid c.in-Some.details.now known.0 (search rules) (search rules) ∙ ap (λ o. not_kept w c.args.purse (option_map (λ d. d.now) o)) (sym c.in-Some.is))

pub returns : goal.returns
returns g c =
    let laid = so_far c.in_ok-laid.ensures in
    let archived = so_more laid c.in_ok-archived.ensures in
    tells_so (g.met.B.Book.lawful _) archived (λ w world known. new_result w c.args.purse c.in_ok-laid.laid c.in-Some.details.now known.0 (search rules) (search rules) ∙ ap (λ o. not_kept w c.args.purse (option_map (λ d. d.now) o)) (sym c.in-Some.is))
