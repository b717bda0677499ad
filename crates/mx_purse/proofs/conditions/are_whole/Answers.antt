use Rattle.std.proofs.Common.{◌≡◌, Bool, true, false, sym, ◌∙◌}
use Rattle.std.proofs.lemmas.Bool.{lt-leb}
use Rattle.mx_purse.specs.State.{State}
use Rattle.mx_purse.proofs.ConditionLemmas.{whole_iff, last_decides, balance_fails, status_fails}
use Rattle.mx_purse.proofs.conditions.are_whole.Goals as goal
use Rattle.mx_purse.proofs.conditions.are_whole.Goals.{then-balance-le-MOST_NUMBER, else-balance-le-MOST_NUMBER}

both : {X : Type 0} {b : Bool} → b ≡ true → b ≡ false → X
both holds fails = absurd (let e : true ≡ false = sym holds ∙ fails in cc)

pub returns-then-fits_status : goal.returns-then-fits_status
returns-then-fits_status c =
    let p : State = record { name = c.args.name.now; balance = c.args.balance; next = c.args.next; status = c.args.status.now; log = c.args.log.now; lines = c.args.lines } in
    elim c.if-balance-le-MOST_NUMBER.branch [
      | then-balance-le-MOST_NUMBER w ↦ whole_iff p c.are_of.result
          (last_decides p c.are_of.result w.if-balance-le-MOST_NUMBER.true (sym w.fits_status.ensures.value ∙ sym w.value-is ∙ c.if-fits_status.true) c.are_of.ensures.value)
          (λ holds. record {
            name = c.as_str-text.ensures.valid;
            next = c.get-next.ensures.limit;
            details = w.fits_status.ensures.details;
            log = c.are_of.ensures.valid;
          })
      | else-balance-le-MOST_NUMBER w ↦ both c.if-fits_status.true (w.value-is ∙ lt-leb _ _ w.if-balance-le-MOST_NUMBER.false)
    ]

pub returns-else-fits_status : goal.returns-else-fits_status
returns-else-fits_status c =
    let p : State = record { name = c.args.name.now; balance = c.args.balance; next = c.args.next; status = c.args.status.now; log = c.args.log.now; lines = c.args.lines } in
    elim c.if-balance-le-MOST_NUMBER.branch [
      | then-balance-le-MOST_NUMBER w ↦ whole_iff p _
          (c.if-fits_status.false ∙ sym (status_fails p w.if-balance-le-MOST_NUMBER.true (sym w.fits_status.ensures.value ∙ sym w.value-is ∙ c.if-fits_status.false)))
          (λ holds. both holds c.if-fits_status.false)
      | else-balance-le-MOST_NUMBER w ↦ whole_iff p _
          (c.if-fits_status.false ∙ sym (balance_fails p (lt-leb _ _ w.if-balance-le-MOST_NUMBER.false)))
          (λ holds. both holds c.if-fits_status.false)
    ]
