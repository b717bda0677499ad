use Rattle.std.proofs.Common.{rules, sym, ◌∙◌, ap, is_none, is_some, inr}
use Rattle.mx_command.specs.declared.values.Refusal.TheVariants.{NoSuchMember, GrantTooLarge, FloatFull}
use Rattle.mx_office.proofs.CallLemmas.{so_far, so_more, tells_so, tells_fault, err_so, tells_fault_then, for_memory}
use Rattle.mx_book.proofs.StandLemmas.{sure_before}
use Rattle.mx_office.proofs.FaultLemmas.{memory_fails}
use Rattle.mx_office.proofs.OwnLemmas.{first}
use Rattle.mx_office.proofs.DecideLemmas.{refused_decides}
use Rattle.mx_office.proofs.MoneyLemmas.{large_grant, full_grant, grant_decides}
use Rattle.mx_office.proofs.money.grant.Goals as goal

pub returns-in_err-row : goal.returns-in_err-row
returns-in_err-row g c =
    record { tells = tells_fault (for_memory c.in_err-row.ensures) c.from_residual.ensures.1; memory = λ sure. err_so _ _ (inr c.in_err-row.ensures.fault) c.from_residual.ensures.1 }

pub returns-in_default : goal.returns-in_default
returns-in_default g c =
    let row = so_far c.in_ok-row.ensures in
    record { tells = tells_so (g.met.B.Book.lawful _) row (λ w world known. refused_decides w _ _ NoSuchMember _ world (first _ _ _ (ap is_none (sym known ∙ c.in_default.is))) c.refuse.ensures.reply c.refuse.ensures.edits); memory = λ sure. tt }

pub returns-in_err-all_granted : goal.returns-in_err-all_granted
returns-in_err-all_granted g c =
    record { tells = tells_fault_then c.in_ok-row.ensures.keeps c.in_err-all_granted.ensures c.from_residual-in_err-all_granted.ensures.1; memory = λ sure. err_so _ _ (memory_fails g.B.Book.fails _ _ (ap is_some (sym (c.in_ok-row.ensures.value (sure_before c.in_err-all_granted.ensures.keeps.later sure)) ∙ c.in-Some.is)) c.in_err-all_granted.ensures.fault) c.from_residual-in_err-all_granted.ensures.1 }

pub returns-then-saturating_add-gt-MOST : goal.returns-then-saturating_add-gt-MOST
returns-then-saturating_add-gt-MOST g c =
    let row = so_far c.in_ok-row.ensures in
    let all_granted = so_more row c.in_ok-all_granted.ensures in
    record {
      tells = tells_so (g.met.B.Book.lawful _) all_granted (λ w world known. refused_decides w _ _ GrantTooLarge _ world
          (large_grant w _ _ c.in-Some.row c.in_ok-all_granted.field-0 c.saturating_add.result (sym known.0 ∙ c.in-Some.is) known.1 (search rules) c.if-saturating_add-gt-MOST.true) c.refuse-then-saturating_add-gt-MOST.ensures.reply c.refuse-then-saturating_add-gt-MOST.ensures.edits);
      memory = λ sure. tt;
    }

pub returns-then-row-more-gt-MOST : goal.returns-then-row-more-gt-MOST
returns-then-row-more-gt-MOST g c =
    let row = so_far c.in_ok-row.ensures in
    let all_granted = so_more row c.in_ok-all_granted.ensures in
    record {
      tells = tells_so (g.met.B.Book.lawful _) all_granted (λ w world known. refused_decides w _ _ FloatFull _ world
          (full_grant w _ _ c.in-Some.row c.in_ok-all_granted.field-0 c.saturating_add.result (sym known.0 ∙ c.in-Some.is) known.1 (search rules) c.if-saturating_add-gt-MOST.false (search rules)) c.refuse-then-row-more-gt-MOST.ensures.reply c.refuse-then-row-more-gt-MOST.ensures.edits);
      memory = λ sure. tt;
    }

pub returns : goal.returns
returns g c =
    let row = so_far c.in_ok-row.ensures in
    let all_granted = so_more row c.in_ok-all_granted.ensures in
    record {
      tells = tells_so (g.met.B.Book.lawful _) all_granted (λ w world known. grant_decides w _ _ c.in-Some.row c.in_ok-all_granted.field-0 c.saturating_add.result (sym known.0 ∙ c.in-Some.is) known.1 (search rules) c.saturating_add-2.result _ world
          c.if-saturating_add-gt-MOST.false (search rules) (search rules) c.make.ensures.reply (search rules));
      memory = λ sure. tt;
    }
