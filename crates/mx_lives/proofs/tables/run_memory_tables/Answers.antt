use Rattle.std.proofs.Common.{refl, inl, inr, ap, ◌∙◌, [], Err, subst, sym}
use Rattle.std.proofs.lemmas.Result.{err_from_is_err_and}
use Rattle.sqlite.specs.Held.{state as state_of}
use Rattle.sqlite.specs.Steps.{over_memory}
use Rattle.mx_book.specs.Views.{RestsAt}
use Rattle.mx_book.specs.World.{opening}
use Rattle.mx_book.proofs.StandLemmas.{low_sure}
use Rattle.mx_desk.specs.Rounds.{all_of}
use Rattle.mx_standing.specs.Shown.{shown}
use Rattle.mx_tables.specs.Holds.{SpellsOne}
use Rattle.mx_tables.specs.Rounds.{IsSettled}
use Rattle.mx_tables.specs.Steady.{rest_of}
use Rattle.mx_files.proofs.RowLemmas.{rests_shown}
use Rattle.mx_files.proofs.TableLemmas.{tables}
use Rattle.mx_lives.proofs.TableLemmas.{no_worry}
use Rattle.mx_tasks.proofs.RunLemmas.{never_store, opening_reachable}
use Rattle.mx_lives.proofs.tables.run_memory_tables.Goals as goal

-- there is no memory for the store
pub returns-in_err-store-clause-begins : goal.returns-in_err-store-clause-begins
returns-in_err-store-clause-begins g c = opening_reachable c.args.operator c.as_bytes-bytes.ensures.valid

pub returns-in_err-store-clause-runs : goal.returns-in_err-store-clause-runs
returns-in_err-store-clause-runs g c =
    let p = err_from_is_err_and c.from_residual.result c.from_residual.ensures.1 in
    ([], opening c.args.operator, inl (inl (p.1 ∙ ap Err p.2), refl, refl))

-- the tables can't be made
pub returns-in-Err-clause-begins : goal.returns-in-Err-clause-begins
returns-in-Err-clause-begins g c = opening_reachable c.args.operator c.as_bytes-bytes.ensures.valid

pub returns-in-Err-clause-runs : goal.returns-in-Err-clause-runs
returns-in-Err-clause-runs g c = ([], opening c.args.operator, inl (c.unbegun.ensures, refl, refl))

-- a run over them
pub returns-in-Ok-open-clause-begins : goal.returns-in-Ok-open-clause-begins
returns-in-Ok-open-clause-begins g c = opening_reachable c.args.operator c.as_bytes-bytes.ensures.valid

pub returns-in-Ok-open-clause-unbegun : goal.returns-in-Ok-open-clause-unbegun
returns-in-Ok-open-clause-unbegun g c = λ unbegun.
    elim unbegun [
      | inl memory ↦ (c.run_office.ensures.unbegun memory).1
      | inr store ↦ absurd (never_store c.run_office.result c.run_office.ensures.fault store)
    ]

pub returns-in-Ok-open-clause-runs : goal.returns-in-Ok-open-clause-runs
returns-in-Ok-open-clause-runs g c =
    let w = opening c.args.operator in
    let book = c.in-Ok-open.book in
    let made = subst (λ h. SpellsOne (state_of over_memory h).now w) (sym c.into_store-made.ensures.same) (c.in-Ok.ensures.opens (no_worry c.in-Ok.made.0)) in
    let spelled = subst (λ db. SpellsOne db w) (sym (c.in-Ok-open.ensures.rests.same (no_worry book.book.0))) made in
    let still = c.in-Ok-open.ensures.settled in
    let at = rests_shown (tables over_memory) book.book book.one book.kept w still ∣ spelled ∣₁ in
    let ends = c.run_office.ensures.still (subst (λ b. IsSettled over_memory b.book) (sym c.new.ensures) still) in
    let left = c.run_office.new.office.book.book in
    let low = low_sure ((rest_of over_memory left ends).0 ∙ no_worry left.0) in
    let led = c.run_office.ensures.runs w low (subst (λ b. RestsAt (shown (tables over_memory) b.book b.one b.kept) w) (sym c.new.ensures) at) in
    (all_of led.rounds, led.end, led.holds)

-- they can't be opened
pub returns-clause-begins : goal.returns-clause-begins
returns-clause-begins g c = opening_reachable c.args.operator c.as_bytes-bytes.ensures.valid

pub returns-clause-runs : goal.returns-clause-runs
returns-clause-runs g c = ([], opening c.args.operator, inl (c.unbegun-in-Err-open.ensures, refl, refl))
