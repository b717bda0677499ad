use Rattle.std.proofs.Common.{rules, ◌≡◌, ◌<◌, ◌∷◌, ◌++◌, [], Some, inl, inr, refl, ◌∙◌, arith}
use Rattle.std.proofs.lemmas.Result.{err_from_is_err_and}
use Rattle.csv.specs.Reading.{owned_rows_left}
use Rattle.csv.specs.Records.{fields_of}
use Rattle.mx_book.proofs.StandLemmas.{sure_before}
use Rattle.mx_report.specs.Import.{rows_counted, tally_of}
use Rattle.mx_report.specs.Roll.{roll_header}
use Rattle.mx_book.proofs.ViewLemmas.{rests_here}
use Rattle.mx_report.proofs.ReadingLemmas.{as_many, given_more}
use Rattle.mx_report.proofs.ImportLemmas.{counts_more, going_more, odd_record, stands_balanced, stands_more, stands_none, whole_roll}
use Rattle.mx_report.proofs.RoundLemmas.{ComeTo, Ended, broken_balanced, come_on, come_some, not_no_roll, round_ended, round_first, round_later, round_more, round_some, rows_undone, same_kept}
use Rattle.mx_report.proofs.rolls.import_roll_telling.Given.{Over}
use Rattle.mx_report.proofs.rolls.import_roll_telling.Goals as goal
use Rattle.mx_report.proofs.rolls.import_roll_telling.Goals.{After-end_at, After-settle_some, In_err-kept, In_err-settle_rows}

pub returns-in-Err-clause-reachable : goal.returns-in-Err-clause-reachable
returns-in-Err-clause-reachable g c = λ still sure reachable. stands_balanced _ _ [] (stands_none (λ v. (g.B.Book.view c.args.office.now.book).world ≡ v) _ refl) reachable

pub loop-record-init : goal.loop-record-init
loop-record-init g c = record {
  within = search rules;
  come = record { records = []; going = search rules; stands = λ w before. stands_none _ w before.1; counts = λ w before. search rules };
  round = λ still. round_first g.B.Book.view _ _ (g.met.B.Book.lawful _) still;
}

-- one record more was imported and counted
come_more : (g : Over) (c : After-settle_some g) → ComeTo c.args.bytes.now (g.B.Book.view c.args.office.now.book) (g.B.Book.view c.import_next.new.office.book) c.next.new.self (tally_of c.import_next.new.report)
come_more g c =
    let come = c.loop-record.invariant.come in
    let given = come.going.given in
    let text = c.args.bytes.now in
    let it = c.next.new.self in
    let taken = c.in_default.ensures.taken in
    let one = taken.0 in
    let steps = rw (c.in-Some.is, taken.1) at (c.next.ensures.steps given.left given.trim) in
    let read = steps.0 given.ready in
    let fields = fields_of one in
    let now = given_more text (roll_header ∷ come.records) (Some 4) c.loop-record.record-iterator it given one read steps.3 in
    let four = as_many text (roll_header ∷ come.records) (Some 4) c.loop-record.record-iterator it given 4 one refl read in
    let nearer : owned_rows_left it < owned_rows_left c.loop-record.record-iterator = omega (arith, (rw c.in-Some.is at (c.next.ensures.goes.on tt)).2) in
    record {
      records = come.records ++ fields ∷ [];
      going = going_more text c.loop-record.record-iterator it _ _ come.records fields come.going now four c.in_default.ensures.counted nearer;
      stands = λ w before.
          let so_far = come.stands w (sure_before c.import_next.ensures.later before.0, before.1) in
          stands_more _ _ w come.records fields _ _ so_far (rw taken.1 at (rw so_far.stands at (c.in_default.ensures.ok before.0)));
      counts = λ w before.
          let honest = sure_before c.import_next.ensures.later before.0 in
          let so_far = come.stands w (honest, before.1) in
          counts_more _ w come.records fields _ _ (come.counts w (honest, before.1)) (rw taken.1 at (rw so_far.stands at (c.in_default.ensures.ok before.0)));
    }

pub loop-record-preserved : goal.loop-record-preserved
loop-record-preserved g c =
    let text = c.args.bytes.now in
    let first = g.B.Book.view c.args.office.now.book in
    let x = c.import_next.new.office.book in
    let y = c.settle_some.new.office.book in
    let more = come_more g (goal.at.loop-record-preserved g c).After-settle_some in
    let counted : c.rows-in-loop-record.result ≡ rows_counted (tally_of c.import_next.new.report) = search rules in
    record {
      within = search rules;
      come = come_some g.B.Book.view text first x y (g.met.B.Book.lawful _) _ _ _ _ _ c.in_ok-kept.ensures.ok more;
      round = λ still. round_some g.B.Book.view text first x y (g.met.B.Book.lawful _) _ _ _ _ _ c.in_ok-kept.ensures.ok counted more
          (round_more g.B.Book.view text first _ _ _ (c.loop-record.invariant.round still) c.import_next.ensures.bides);
    }

-- ---- a record that csv refuses, or a fault of the book

-- so many rows are kept, and no other
ended_at : (g : Over) (c : After-end_at g) → Ended c.args.bytes.now (g.B.Book.view c.args.office.now.book) (g.B.Book.view c.end_at.new.office.book) c.end_at.result.done
ended_at g c =
    let text = c.args.bytes.now in
    let first = g.B.Book.view c.args.office.now.book in
    let x = c.import_next.new.office.book in
    let come = come_on text first (g.B.Book.view c.loop-record.office.book) (g.B.Book.view x) _ _ (λ sure. (sure_before c.import_next.ensures.later sure, c.in-Err-import_next.ensures.err sure)) c.loop-record.invariant.come in
    let counted : c.rows.result ≡ rows_counted (tally_of c.loop-record.report) = search rules in
    round_ended g.B.Book.view text first x c.end_at.new.office.book (g.met.B.Book.lawful _) _ _ _ _ _ c.end_at.ensures.settles counted come
    (λ still. round_more g.B.Book.view text first _ _ _ (c.loop-record.invariant.round still) c.import_next.ensures.bides)

pub returns-in-Err-import_next-clause-later : goal.returns-in-Err-import_next-clause-later
returns-in-Err-import_next-clause-later g c = (ended_at g (goal.at.returns-in-Err-import_next-clause-later g c).After-end_at).later

pub returns-in-Err-import_next-clause-broken : goal.returns-in-Err-import_next-clause-broken
returns-in-Err-import_next-clause-broken g c = λ still sure. (ended_at g (goal.at.returns-in-Err-import_next-clause-broken g c).After-end_at).broken _ sure (rests_here still)

pub returns-in-Err-import_next-clause-reachable : goal.returns-in-Err-import_next-clause-reachable
returns-in-Err-import_next-clause-reachable g c = λ still sure reachable.
    broken_balanced _ _ _ _ ((ended_at g (goal.at.returns-in-Err-import_next-clause-reachable g c).After-end_at).broken _ sure (rests_here still)) reachable

-- the number of fields of a record
pub returns-in-Err-import_next-clause-not_roll : goal.returns-in-Err-import_next-clause-not_roll
returns-in-Err-import_next-clause-not_roll g c = λ is.
    let come = c.loop-record.invariant.come in
    let given = come.going.given in
    let ended = c.end_at.ensures.not_roll is in
    let why = c.in-Err-import_next.ensures.not_roll ended.0 in
    let steps = rw (c.in-Some.is, why.1) at (c.next.ensures.steps given.left given.trim) in
    let counted : c.rows.result ≡ rows_counted (tally_of c.loop-record.report) = search rules in
    inr (odd_record c.args.bytes.now c.loop-record.record-iterator c.next.new.self _ come.records _ _ come.going (steps.0 given.ready) why.2 (ended.1 ∙ counted))

pub returns-in-Err-import_next-clause-store : goal.returns-in-Err-import_next-clause-store
returns-in-Err-import_next-clause-store g c = λ is. elim (c.end_at.ensures.store is) [
  | inl kind ↦ c.in-Err-import_next.ensures.store kind
  | inr fails ↦ fails
]

-- ---- a settle that fails on the way

ended_on_the_way : (g : Over) (c : In_err-kept g) → ComeTo c.args.bytes.now (g.B.Book.view c.args.office.now.book) (g.B.Book.view c.import_next.new.office.book) c.next.new.self (tally_of c.import_next.new.report)
    → Ended c.args.bytes.now (g.B.Book.view c.args.office.now.book) (g.B.Book.view c.settle_some.new.office.book) c.in_err-kept.field-0.0.done
ended_on_the_way g c more =
    let text = c.args.bytes.now in
    let first = g.B.Book.view c.args.office.now.book in
    let x = c.import_next.new.office.book in
    let counted : c.rows-in-loop-record.result ≡ rows_counted (tally_of c.import_next.new.report) = search rules in
    round_ended g.B.Book.view text first x c.settle_some.new.office.book (g.met.B.Book.lawful _) _ _ _ _ _ (rows_undone c.in_err-kept.ensures.err c.in_err-kept.ensures.before) counted more
    (λ still. round_more g.B.Book.view text first _ _ _ (c.loop-record.invariant.round still) c.import_next.ensures.bides)

pub returns-in_err-kept-clause-later : goal.returns-in_err-kept-clause-later
returns-in_err-kept-clause-later g c = (ended_on_the_way g (goal.at.returns-in_err-kept-clause-later g c).In_err-kept (come_more g (goal.at.returns-in_err-kept-clause-later g c).After-settle_some)).later

pub returns-in_err-kept-clause-broken : goal.returns-in_err-kept-clause-broken
returns-in_err-kept-clause-broken g c = λ still sure.
    let p = err_from_is_err_and c.from_residual.result c.from_residual.ensures.1 in
    rw (p.1, p.2) ((ended_on_the_way g (goal.at.returns-in_err-kept-clause-broken g c).In_err-kept (come_more g (goal.at.returns-in_err-kept-clause-broken g c).After-settle_some)).broken _ sure (rests_here still))

pub returns-in_err-kept-clause-reachable : goal.returns-in_err-kept-clause-reachable
returns-in_err-kept-clause-reachable g c = λ still sure reachable.
    broken_balanced _ _ _ _ ((ended_on_the_way g (goal.at.returns-in_err-kept-clause-reachable g c).In_err-kept (come_more g (goal.at.returns-in_err-kept-clause-reachable g c).After-settle_some)).broken _ sure (rests_here still)) reachable

pub returns-in_err-kept-clause-not_roll : goal.returns-in_err-kept-clause-not_roll
returns-in_err-kept-clause-not_roll g c =
    let p = err_from_is_err_and c.from_residual.result c.from_residual.ensures.1 in
    rw (p.1, p.2) (not_no_roll _ _ _ c.in_err-kept.ensures.roll)

-- ---- the end of the roll

-- the last settle fails
ended_last : (g : Over) (c : In_err-settle_rows g) → Ended c.args.bytes.now (g.B.Book.view c.args.office.now.book) (g.B.Book.view c.settle_rows.new.office.book) c.in_err-settle_rows.field-0.0.done
ended_last g c =
    let text = c.args.bytes.now in
    let first = g.B.Book.view c.args.office.now.book in
    let counted : c.rows-2.result ≡ rows_counted (tally_of c.loop-record.report) = search rules in
    round_ended g.B.Book.view text first c.loop-record.office.book c.settle_rows.new.office.book (g.met.B.Book.lawful _) _ _ _ _ _ (rows_undone c.in_err-settle_rows.ensures.settles c.in_err-settle_rows.ensures.before) counted
    c.loop-record.invariant.come c.loop-record.invariant.round

pub returns-in_err-settle_rows-clause-later : goal.returns-in_err-settle_rows-clause-later
returns-in_err-settle_rows-clause-later g c = (ended_last g (goal.at.returns-in_err-settle_rows-clause-later g c).In_err-settle_rows).later

pub returns-in_err-settle_rows-clause-broken : goal.returns-in_err-settle_rows-clause-broken
returns-in_err-settle_rows-clause-broken g c = λ still sure.
    let p = err_from_is_err_and c.from_residual-in_err-settle_rows.result c.from_residual-in_err-settle_rows.ensures.1 in
    rw (p.1, p.2) ((ended_last g (goal.at.returns-in_err-settle_rows-clause-broken g c).In_err-settle_rows).broken _ sure (rests_here still))

pub returns-in_err-settle_rows-clause-reachable : goal.returns-in_err-settle_rows-clause-reachable
returns-in_err-settle_rows-clause-reachable g c = λ still sure reachable.
    broken_balanced _ _ _ _ ((ended_last g (goal.at.returns-in_err-settle_rows-clause-reachable g c).In_err-settle_rows).broken _ sure (rests_here still)) reachable

pub returns-in_err-settle_rows-clause-not_roll : goal.returns-in_err-settle_rows-clause-not_roll
returns-in_err-settle_rows-clause-not_roll g c =
    let p = err_from_is_err_and c.from_residual-in_err-settle_rows.result c.from_residual-in_err-settle_rows.ensures.1 in
    rw (p.1, p.2) (not_no_roll _ _ _ c.in_err-settle_rows.ensures.roll)

-- the roll is imported whole
pub returns-clause-later : goal.returns-clause-later
returns-clause-later g c = λ still.
    let settles = c.in_ok-settle_rows.ensures.settles in
    round_later g.B.Book.view c.args.bytes.now (g.B.Book.view c.args.office.now.book) c.loop-record.office.book c.settle_rows.new.office.book (g.met.B.Book.lawful _) _ (c.loop-record.invariant.round still) settles.lasts settles.ends

pub returns-clause-done : goal.returns-clause-done
returns-clause-done g c = λ sure.
    let come = c.loop-record.invariant.come in
    let given = come.going.given in
    let read = (rw c.in-None.is at (c.next.ensures.steps given.left given.trim)).0 given.ready in
    let same = same_kept g.B.Book.view c.args.bytes.now (g.B.Book.view c.args.office.now.book) c.loop-record.office.book c.settle_rows.new.office.book (g.met.B.Book.lawful _) c.in_ok-settle_rows.ensures.settles sure in
    record {
      records = come.records;
      roll = whole_roll c.args.bytes.now c.loop-record.record-iterator c.next.new.self _ come.records come.going read;
      stands = rw same.1 (come.stands _ (same.0, refl));
      counts = come.counts _ (same.0, refl);
    }

pub returns-clause-roll : goal.returns-clause-roll
returns-clause-roll g c =
    let come = c.loop-record.invariant.come in
    let given = come.going.given in
    let read = (rw c.in-None.is at (c.next.ensures.steps given.left given.trim)).0 given.ready in
    (come.records, whole_roll c.args.bytes.now c.loop-record.record-iterator c.next.new.self _ come.records come.going read)

pub returns-clause-reachable : goal.returns-clause-reachable
returns-clause-reachable g c = λ still sure reachable. let done = returns-clause-done g c sure in stands_balanced _ _ done.records done.stands reachable
