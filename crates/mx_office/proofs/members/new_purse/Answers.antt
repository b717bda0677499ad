use Rattle.std.proofs.Common.{rules, sym, ◌∙◌}
use Rattle.mx_command.specs.declared.values.Refusal.TheVariants.{NoSuchHolder, NameTaken, TooManyPurses}
use Rattle.mx_office.proofs.CallLemmas.{so_far, so_more, tells_so, tells_fault, tells_fault_then}
use Rattle.mx_office.proofs.OwnLemmas.{first, next}
use Rattle.mx_office.proofs.DecideLemmas.{refused_decides, no_holder, a_holder, many_held, new_purse_decides}
use Rattle.mx_office.proofs.members.new_purse.Goals as goal

pub returns-in_err-held : goal.returns-in_err-held
returns-in_err-held g c = tells_fault c.in_err-held.ensures c.from_residual.ensures.1

pub returns-in_default : goal.returns-in_default
returns-in_default g c =
    let held = so_far c.in_ok-held.ensures in
    tells_so (g.met.B.Book.lawful _) held (λ w world known. λ valid. refused_decides w _ _ NoSuchHolder _ world (first _ _ _ (no_holder w _ _ (sym known ∙ c.in_default.is))) c.refuse.ensures.reply c.refuse.ensures.edits)

pub returns-in_err-has_purse : goal.returns-in_err-has_purse
returns-in_err-has_purse g c =
    tells_fault_then c.in_ok-held.ensures.keeps c.in_err-has_purse.ensures c.from_residual-in_err-has_purse.ensures.1

pub returns-then-branch : goal.returns-then-branch
returns-then-branch g c =
    let held = so_far c.in_ok-held.ensures in
    let has_purse = so_more held c.in_ok-has_purse.ensures in
    tells_so (g.met.B.Book.lawful _) has_purse (λ w world known. λ valid. refused_decides w _ _ NameTaken _ world (next _ _ _ _ (a_holder w _ _ c.in-Some.held (sym known.0 ∙ c.in-Some.is)) (first _ _ _ (sym known.1 ∙ c.if-branch.true))) c.refuse-then-branch.ensures.reply c.refuse-then-branch.ensures.edits)

pub returns-then-held-ge-MOST_PURSES : goal.returns-then-held-ge-MOST_PURSES
returns-then-held-ge-MOST_PURSES g c =
    let held = so_far c.in_ok-held.ensures in
    let has_purse = so_more held c.in_ok-has_purse.ensures in
    tells_so (g.met.B.Book.lawful _) has_purse (λ w world known. λ valid. refused_decides w _ _ TooManyPurses _ world
    (next _ _ _ _ (a_holder w _ _ c.in-Some.held (sym known.0 ∙ c.in-Some.is)) (next _ _ _ _ (sym known.1 ∙ c.if-branch.false) (first _ _ _ (many_held w c.args.member _ c.in-Some.held _ (sym known.0 ∙ c.in-Some.is) (search rules)))))
    c.refuse-then-held-ge-MOST_PURSES.ensures.reply c.refuse-then-held-ge-MOST_PURSES.ensures.edits)

pub returns : goal.returns
returns g c =
    let held = so_far c.in_ok-held.ensures in
    let has_purse = so_more held c.in_ok-has_purse.ensures in
    tells_so (g.met.B.Book.lawful _) has_purse (λ w world known. λ valid. new_purse_decides w _ _ _ _ world valid.0 (a_holder w _ _ c.in-Some.held (sym known.0 ∙ c.in-Some.is)) (sym known.1 ∙ c.if-branch.false) (many_held w c.args.member _ c.in-Some.held _ (sym known.0 ∙ c.in-Some.is) (search rules)) c.make.ensures.reply c.make.ensures.edits)
