use Rattle.std.proofs.Common.{rules, sym, ◌∙◌}
use Rattle.mx_office.proofs.CallLemmas.{keeps_then, so_far, so_more, tells_so, tells_fault, tells_fault_then}
use Rattle.mx_office.proofs.OwnLemmas.{never_some}
use Rattle.mx_office.proofs.MoneyLemmas.{load_told, foreign_load, memberless_load, load_repeated, load_small_float, load_refuses, load_made}
use Rattle.mx_office.proofs.money.load.Goals as goal

pub returns-in_err-after : goal.returns-in_err-after
returns-in_err-after g c = tells_fault c.in_err-after.ensures c.from_residual.ensures.1

pub returns-in_default : goal.returns-in_default
returns-in_default g c =
    let after = so_far c.in_ok-after.ensures in
    tells_so (g.met.B.Book.lawful _) after (λ w world known. ((λ valid. load_told w _ _ _ _ _ _ world (foreign_load w _ _ _ _ (sym known ∙ c.in_default.is)) c.refuse.ensures.reply c.refuse.ensures.edits), λ some. c.refuse.ensures.edits))

pub returns-in_err-row : goal.returns-in_err-row
returns-in_err-row g c =
    tells_fault_then c.in_ok-after.ensures.keeps c.in_err-row.ensures c.from_residual-in_err-row.ensures.1

pub returns-in_default-2 : goal.returns-in_default-2
returns-in_default-2 g c =
    let after = so_far c.in_ok-after.ensures in
    let row = so_more after c.in_ok-row.ensures in
    tells_so (g.met.B.Book.lawful _) row (λ w world known. ((λ valid. load_told w _ _ _ _ _ _ world (memberless_load w _ _ _ _ c.in-Some.after (sym known.0 ∙ c.in-Some.is) (sym known.1 ∙ c.in_default-2.is)) c.refuse-in_default-2.ensures.reply c.refuse-in_default-2.ensures.edits), λ some. c.refuse-in_default-2.ensures.edits))

pub returns-in_err-before : goal.returns-in_err-before
returns-in_err-before g c =
    tells_fault_then (keeps_then c.in_ok-after.ensures.keeps c.in_ok-row.ensures.keeps) c.in_err-before.ensures c.from_residual-in_err-before.ensures.1

pub returns-in-Some-3 : goal.returns-in-Some-3
returns-in-Some-3 g c =
    let after = so_far c.in_ok-after.ensures in
    let row = so_more after c.in_ok-row.ensures in
    let before = so_more row c.in_ok-before.ensures in
    tells_so (g.met.B.Book.lawful _) before (λ w world known. ((λ valid. load_told w _ _ _ _ _ _ world (load_repeated w _ _ _ _ c.in-Some.after (sym known.0.0 ∙ c.in-Some.is) c.in-Some-2.row (sym known.0.1 ∙ c.in-Some-2.is) c.in-Some-3.before (sym known.1 ∙ c.in-Some-3.is)) c.again.ensures.reply c.again.ensures.edits), λ some. c.again.ensures.edits))

pub returns-then-row-get : goal.returns-then-row-get
returns-then-row-get g c =
    let after = so_far c.in_ok-after.ensures in
    let row = so_more after c.in_ok-row.ensures in
    let before = so_more row c.in_ok-before.ensures in
    tells_so (g.met.B.Book.lawful _) before (λ w world known. ((λ valid. load_told w _ _ _ _ _ _ world (load_small_float w _ _ _ _ c.in-Some.after (sym known.0.0 ∙ c.in-Some.is) c.in-Some-2.row (sym known.0.1 ∙ c.in-Some-2.is) (sym known.1 ∙ c.in_default-3.is) (search rules)) c.refuse-then-row-get.ensures.reply c.refuse-then-row-get.ensures.edits), λ some. c.refuse-then-row-get.ensures.edits))

pub returns-in-Err : goal.returns-in-Err
returns-in-Err g c =
    let after = so_far c.in_ok-after.ensures in
    let row = so_more after c.in_ok-row.ensures in
    let before = so_more row c.in_ok-before.ensures in
    tells_so (g.met.B.Book.lawful _) before (λ w world known. ((λ valid. load_told w _ _ _ _ _ _ world (load_refuses w _ _ _ _ c.in-Some.after (sym known.0.0 ∙ c.in-Some.is) c.in-Some-2.row (sym known.0.1 ∙ c.in-Some-2.is) c.in-Err.refusal (sym known.1 ∙ c.in_default-3.is) (search rules) (sym c.in-Err.ensures.answer)) (search rules) c.refuse-in-Err.ensures.edits), λ some. c.refuse-in-Err.ensures.edits))

pub returns-in-Ok : goal.returns-in-Ok
returns-in-Ok g c =
    let after = so_far c.in_ok-after.ensures in
    let row = so_more after c.in_ok-row.ensures in
    let before = so_more row c.in_ok-before.ensures in
    tells_so (g.met.B.Book.lawful _) before (λ w world known. (
      (λ valid.
          load_made w _ _ _ _ c.in-Some.after (sym known.0.0 ∙ c.in-Some.is) c.in-Some-2.row (sym known.0.1 ∙ c.in-Some-2.is) c.load.new.self _ world (sym known.1 ∙ c.in_default-3.is) (search rules) valid.2 valid.1 (sym c.in-Ok.ensures.answer) c.in-Ok.ensures.new c.make_load.ensures.reply c.make_load.ensures.edits),
      λ some. absurd (never_some _ (sym known.1 ∙ c.in_default-3.is) some),
    ))
