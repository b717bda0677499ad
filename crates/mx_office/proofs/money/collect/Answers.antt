use Rattle.std.proofs.Common.{rules, sym, ◌∙◌, ap, is_none}
use Rattle.mx_command.specs.declared.values.Refusal.TheVariants.{NoSuchMember, FloatFull}
use Rattle.mx_office.proofs.CallLemmas.{so_far, so_more, tells_so, tells_fault, tells_fault_then}
use Rattle.mx_office.proofs.OwnLemmas.{first}
use Rattle.mx_office.proofs.DecideLemmas.{refused_decides}
use Rattle.mx_office.proofs.MoneyLemmas.{full_collect, collect_decides}
use Rattle.mx_office.proofs.money.collect.Goals as goal

pub returns-in_err-row : goal.returns-in_err-row
returns-in_err-row g c = tells_fault c.in_err-row.ensures c.from_residual.ensures.1

pub returns-in_default : goal.returns-in_default
returns-in_default g c =
    let row = so_far c.in_ok-row.ensures in
    tells_so (g.met.B.Book.lawful _) row (λ w world known. refused_decides w _ _ NoSuchMember _ world (first _ _ _ (ap is_none (sym known ∙ c.in_default.is))) c.refuse.ensures.reply c.refuse.ensures.edits)

pub returns-in_err-uncollected : goal.returns-in_err-uncollected
returns-in_err-uncollected g c =
    tells_fault_then c.in_ok-row.ensures.keeps c.in_err-uncollected.ensures c.from_residual-in_err-uncollected.ensures.1

pub returns-then-float-gt-MOST : goal.returns-then-float-gt-MOST
returns-then-float-gt-MOST g c =
    let row = so_far c.in_ok-row.ensures in
    let uncollected = so_more row c.in_ok-uncollected.ensures in
    tells_so (g.met.B.Book.lawful _) uncollected (λ w world known. refused_decides w _ _ FloatFull _ world
    (full_collect w _ c.in-Some.row c.in_ok-uncollected.uncollected c.saturating_add-float.result (sym known.0 ∙ c.in-Some.is) known.1 c.saturating_add-float.ensures c.if-float-gt-MOST.true)
    c.refuse-then-float-gt-MOST.ensures.reply c.refuse-then-float-gt-MOST.ensures.edits)

pub returns : goal.returns
returns g c =
    let row = so_far c.in_ok-row.ensures in
    let uncollected = so_more row c.in_ok-uncollected.ensures in
    tells_so (g.met.B.Book.lawful _) uncollected (λ w world known. collect_decides w _ c.in-Some.row c.in_ok-uncollected.uncollected c.saturating_add-float.result (sym known.0 ∙ c.in-Some.is) known.1 c.saturating_add-float.ensures _ world c.if-float-gt-MOST.false c.make.ensures.reply (search rules))
