use Rattle.std.proofs.Common.{◌≡◌, ◌+◌, ◌≤◌, [], ◌∷◌, ◌++◌, Ok, length, refl, sym, ap, ◌∙◌, true, append_assoc, arith, length-append}
use Rattle.std.proofs.lemmas.Bool.{eqb-true, eqb-false}
use Rattle.std.proofs.lemmas.List.{append-nil}
use Rattle.std.proofs.lemmas.Result.{err_from_is_err_and}
use Rattle.mx_desk.specs.Found.{request_view}
use Rattle.mx_desk.specs.Knows.{RestsKnown}
use Rattle.mx_desk.specs.Rounds.{marked_of}
use Rattle.mx_desk.specs.Serve.{world_after}
use Rattle.std.proofs.KnownBytes.{Appends-nil, Appends-trans, Appends-kept, Consumes-nil, Consumes-trans, Consumes-kept}
use Rattle.mx_desk.proofs.MoveLemmas.{moves_not, moves_since}
use Rattle.mx_desk.proofs.StepLemmas.{answered_step, cut_step, turns_step, read_step, flush_step, stop_step, cut_stop_step, stop_at_end, cut_stop_at_end, nothing_step, smaller, first_now, open_room, capped_none, capped_more}
use Rattle.mx_desk.proofs.TurnLemmas.{turn_shorter, turned}
use Rattle.mx_desk.proofs.desk.serve_next.Goals as goal

pub pieces-init : goal.pieces-init
pieces-init g c = record {
  came = ([], Consumes-nil _, sym (append-nil _));
  reads = (0, omega arith, λ h. absurd (omega (arith, h)), capped_none _ (rw c.calls-calls.ensures at c.calls-calls.type_inv), λ _. omega arith, λ _. refl);
  ended = λ h. absurd (cc);
  read_failures = refl;
  write_failures = refl;
  wrote = Appends-nil _;
  office = refl;
  callers = refl;
  alone = refl;
}

pub returns-in_err-respond-in-Whole-clause-steps : goal.returns-in_err-respond-in-Whole-clause-steps
returns-in_err-respond-in-Whole-clause-steps g c = λ w low kept.
    let b = g.B.Book in
    let start : RestsKnown (b.view c.pieces.office.book) c.pieces.workspace.callers w = rw (c.pieces.invariant.office, c.pieces.invariant.callers) kept in
    let came = c.pieces.invariant.came in
    let whole = rw c.pending.ensures.value at c.in-Whole.ensures.1 in
    let first = first_now c.pieces.input (request_view c.in-Whole.request) c.in-Whole.end whole in
    let one = c.hold-goes_on.ensures.holds in
    let is_one : c.hold-goes_on.new.workspace.round.held.items ≡ one.0 ∷ [] = one.1 ∙ ap (λ l. l ++ one.0 ∷ []) c.clear.ensures in
    let few = (let fits = c.len-count.ensures.fits in rw c.len-count.ensures.value at fits) in
    let t = turned b.fails _ _ _ _ _ _ one.0 (request_view c.in-Whole.request) _ _ c.pieces.input _ _ (rw c.forget.ensures first) one.2 c.hold_more.ensures.holds is_one
    _ (g.met.B.Book.lawful _) (g.met.B.Book.lawful _) _ w _ _ c.respond.result start few c.respond.ensures.responds low in
    let alone : c.args.workspace.now.round.alone ≡ true → length (marked_of t.round) ≤ 1 = λ alone.
    let same = c.hold_more.ensures.one (c.hold-goes_on.ensures.alone ∙ c.pieces.invariant.alone ∙ alone) in
    let few = sym t.count ∙ ap length (same ∙ is_one) in
    omega (arith, few) in
    let p = err_from_is_err_and c.from_residual.result c.from_residual.ensures.1 in
    let cut = t.err c.in_err-respond-in-Whole.field-0.0 c.in_err-respond-in-Whole.was in
    let less = cut.1 in
    rw (p.1, p.2, c.in_err-respond-in-Whole.ensures.fault.0) (record {
      end = world_after w (marked_of t.round);
      rounds = t.round ∷ [];
      moves = (moves_since b.view (ap (λ o. o.book) c.pieces.invariant.office) t.moves, t.knows_now);
      holds = rw (append-nil (marked_of t.round)) (
        cut_step b.fails _ _ c.pieces.input _ (marked_of t.round) cut.0 (record { came = came.0; consumed = came.1; pending_is = came.2 })
            t.begins t.few t.marks (omega (arith, less)) (Appends-trans _ _ _ [] _ c.pieces.invariant.wrote cut.2) refl,
        alone,
      );
    })

pub returns-in-Whole-clause-steps : goal.returns-in-Whole-clause-steps
returns-in-Whole-clause-steps g c = λ w low kept.
    let b = g.B.Book in
    let start : RestsKnown (b.view c.pieces.office.book) c.pieces.workspace.callers w = rw (c.pieces.invariant.office, c.pieces.invariant.callers) kept in
    let came = c.pieces.invariant.came in
    let whole = rw c.pending.ensures.value at c.in-Whole.ensures.1 in
    let first = first_now c.pieces.input (request_view c.in-Whole.request) c.in-Whole.end whole in
    let one = c.hold-goes_on.ensures.holds in
    let is_one : c.hold-goes_on.new.workspace.round.held.items ≡ one.0 ∷ [] = one.1 ∙ ap (λ l. l ++ one.0 ∷ []) c.clear.ensures in
    let few = (let fits = c.len-count.ensures.fits in rw c.len-count.ensures.value at fits) in
    let t = turned b.fails _ _ _ _ _ _ one.0 (request_view c.in-Whole.request) _ _ c.pieces.input _ _ (rw c.forget.ensures first) one.2 c.hold_more.ensures.holds is_one
    _ (g.met.B.Book.lawful _) (g.met.B.Book.lawful _) _ w _ _ c.respond.result start few c.respond.ensures.responds low in
    let alone : c.args.workspace.now.round.alone ≡ true → length (marked_of t.round) ≤ 1 = λ alone.
    let same = c.hold_more.ensures.one (c.hold-goes_on.ensures.alone ∙ c.pieces.invariant.alone ∙ alone) in
    let few = sym t.count ∙ ap length (same ∙ is_one) in
    omega (arith, few) in
    let wrote = t.ok _ c.in_ok-respond-in-Whole.was in
    let shorter = turn_shorter b.fails _ _ _ _ _ _ one.0 (request_view c.in-Whole.request) _ _ c.pieces.input _ _ (rw c.forget.ensures first) one.2 c.hold_more.ensures.holds is_one in
    let same = c.len-count.ensures.value in
    let more = shorter.0 in
    record {
      end = world_after w (marked_of t.round);
      rounds = t.round ∷ [];
      moves = (moves_since b.view (ap (λ o. o.book) c.pieces.invariant.office) t.moves, t.knows_now);
      holds = rw (append-nil (marked_of t.round)) (
        answered_step b.fails _ _ c.pieces.input _ (marked_of t.round) (record { came = came.0; consumed = came.1; pending_is = came.2 })
            t.begins (same ∙ t.count) (omega (arith, same, more)) t.marks (Appends-trans _ _ _ [] _ c.pieces.invariant.wrote wrote) refl,
        alone,
      );
    }

pub returns-in-Whole-clause-smaller : goal.returns-in-Whole-clause-smaller
returns-in-Whole-clause-smaller g c = λ n is.
    let reads = c.pieces.invariant.reads in
    let whole = rw c.pending.ensures.value at c.in-Whole.ensures.1 in
    let first = first_now c.pieces.input (request_view c.in-Whole.request) c.in-Whole.end whole in
    let one = c.hold-goes_on.ensures.holds in
    let is_one : c.hold-goes_on.new.workspace.round.held.items ≡ one.0 ∷ [] = one.1 ∙ ap (λ l. l ++ one.0 ∷ []) c.clear.ensures in
    let shorter = turn_shorter g.B.Book.fails _ _ _ _ _ _ one.0 (request_view c.in-Whole.request) _ _ c.pieces.input _ _ (rw c.forget.ensures first) one.2 c.hold_more.ensures.holds is_one in
    let same : n ≡ length c.hold_more.new.workspace.round.held.items = (let all = c.len-count.ensures.value in cc) in
    let more = shorter.0 in
    (omega (arith, same, more), rw same (smaller _ _ reads.0 _ (length c.pieces.input) _ _ reads.1 (λ z. ap length (reads.5 z)) c.pending.ensures.fits shorter.1))

pub returns-in_err-write_stop-in-Stopped-clause-steps : goal.returns-in_err-write_stop-in-Stopped-clause-steps
returns-in_err-write_stop-in-Stopped-clause-steps g c = λ w low kept.
    let p = err_from_is_err_and c.from_residual-in_err-write_stop-in-Stopped.result c.from_residual-in_err-write_stop-in-Stopped.ensures.1 in
    let err = c.in_err-write_stop-in-Stopped.ensures.err in
    let came = c.pieces.invariant.came in
    let how = c.in-Stopped.ensures in
    rw (p.1, p.2, c.in_err-write_stop-in-Stopped.ensures.fault) (record {
      end = w;
      rounds = [];
      moves = rw (c.pieces.invariant.office, c.pieces.invariant.callers) (moves_not kept.0, kept.1);
      holds = (
        cut_stop_step g.B.Book.fails _ _ c.pieces.input c.in-Stopped.stop err.0
            (record { came = came.0; consumed = came.1; pending_is = came.2 })
            (rw c.pending.ensures.value at how)
            err.1
            (Appends-trans _ _ _ [] _ c.pieces.invariant.wrote err.2)
            refl,
        λ _. omega arith,
      );
    })

pub returns-in-Stopped-clause-steps : goal.returns-in-Stopped-clause-steps
returns-in-Stopped-clause-steps g c = λ w low kept.
    let came = c.pieces.invariant.came in
    let how = c.in-Stopped.ensures in
    record {
      end = w;
      rounds = [];
      moves = rw (c.pieces.invariant.office, c.pieces.invariant.callers) (moves_not kept.0, kept.1);
      holds = (
        stop_step g.B.Book.fails _ _ c.pieces.input c.in-Stopped.stop
            (record { came = came.0; consumed = came.1; pending_is = came.2 })
            (rw c.pending.ensures.value at how)
            (Appends-trans _ _ _ [] _ c.pieces.invariant.wrote c.in_ok-write_stop-in-Stopped.ensures.ok.0)
            refl,
        λ _. omega arith,
      );
    }

pub returns-in_default-clause-steps : goal.returns-in_default-clause-steps
returns-in_default-clause-steps g c = λ w low kept.
    let came = c.pieces.invariant.came in
    let how = c.in-Open.ensures in
    record {
      end = w;
      rounds = [];
      moves = rw (c.pieces.invariant.office, c.pieces.invariant.callers) (moves_not kept.0, kept.1);
      holds = (
        nothing_step g.B.Book.fails _ _ c.pieces.input
            (record { came = came.0; consumed = came.1; pending_is = came.2 })
            (rw (c.pending.ensures.value, c.in_default.is) at how)
            (c.pieces.invariant.ended c.if-ended.true)
            c.pieces.invariant.wrote
            refl,
        λ _. omega arith,
      );
    }

pub returns-in_err-write_stop-in-Open-clause-steps : goal.returns-in_err-write_stop-in-Open-clause-steps
returns-in_err-write_stop-in-Open-clause-steps g c = λ w low kept.
    let p = err_from_is_err_and c.from_residual-in_err-write_stop-in-Open.result c.from_residual-in_err-write_stop-in-Open.ensures.1 in
    let err = c.in_err-write_stop-in-Open.ensures.err in
    let came = c.pieces.invariant.came in
    let how = c.in-Open.ensures in
    let last = rw (c.pending.ensures.value, c.in-Some.is) at how in
    rw (p.1, p.2, c.in_err-write_stop-in-Open.ensures.fault) (record {
      end = w;
      rounds = [];
      moves = rw (c.pieces.invariant.office, c.pieces.invariant.callers) (moves_not kept.0, kept.1);
      holds = (
        cut_stop_at_end g.B.Book.fails _ _ c.pieces.input c.in-Some.stop err.0
            (record { came = came.0; consumed = came.1; pending_is = came.2 })
            last.0
            (c.pieces.invariant.ended c.if-ended.true)
            err.1
            (Appends-trans _ _ _ [] _ c.pieces.invariant.wrote err.2)
            refl,
        λ _. omega arith,
      );
    })

pub returns-in-Open-clause-steps : goal.returns-in-Open-clause-steps
returns-in-Open-clause-steps g c = λ w low kept.
    let came = c.pieces.invariant.came in
    let how = c.in-Open.ensures in
    let last = rw (c.pending.ensures.value, c.in-Some.is) at how in
    record {
      end = w;
      rounds = [];
      moves = rw (c.pieces.invariant.office, c.pieces.invariant.callers) (moves_not kept.0, kept.1);
      holds = (
        stop_at_end g.B.Book.fails _ _ c.pieces.input c.in-Some.stop
            (record { came = came.0; consumed = came.1; pending_is = came.2 })
            last.0
            (c.pieces.invariant.ended c.if-ended.true)
            (Appends-trans _ _ _ [] _ c.pieces.invariant.wrote c.in_ok-write_stop-in-Open.ensures.ok.0)
            refl,
        λ _. omega arith,
      );
    }

pub returns-in_err-flush_out-clause-steps : goal.returns-in_err-flush_out-clause-steps
returns-in_err-flush_out-clause-steps g c = λ w low kept.
    let p = err_from_is_err_and c.from_residual-in_err-flush_out.result c.from_residual-in_err-flush_out.ensures.1 in
    let came = c.pieces.invariant.came in
    let how = c.in-Open.ensures in
    rw (p.1, p.2, c.in_err-flush_out.ensures.fault) (record {
      end = w;
      rounds = [];
      moves = rw (c.pieces.invariant.office, c.pieces.invariant.callers) (moves_not kept.0, kept.1);
      holds = (
        flush_step g.B.Book.fails _ _ c.pieces.input c.in-Open.fault
            (record { came = came.0; consumed = came.1; pending_is = came.2 })
            (rw c.pending.ensures.value at how)
            refl
            (Appends-kept _ _ _ [] c.pieces.invariant.wrote c.in_err-flush_out.ensures.bytes)
            refl,
        λ _. omega arith,
      );
    })

pub returns-then-turns-eq0-clause-steps : goal.returns-then-turns-eq0-clause-steps
returns-then-turns-eq0-clause-steps g c = λ w low kept.
    let came = c.pieces.invariant.came in
    let how = c.in-Open.ensures in
    record {
      end = w;
      rounds = [];
      moves = rw (c.pieces.invariant.office, c.pieces.invariant.callers) (moves_not kept.0, kept.1);
      holds = (
        turns_step g.B.Book.fails _ _ c.pieces.input c.in-Open.fault
            (record { came = came.0; consumed = came.1; pending_is = came.2 })
            (rw c.pending.ensures.value at how)
            refl
            (Appends-kept _ _ _ [] c.pieces.invariant.wrote c.flush_out.ensures.bytes)
            refl,
        λ _. omega arith,
      );
    }

pub returns-in_err-ended-clause-steps : goal.returns-in_err-ended-clause-steps
returns-in_err-ended-clause-steps g c = λ w low kept.
    let p = err_from_is_err_and c.from_residual-in_err-ended.result c.from_residual-in_err-ended.ensures.1 in
    let came = c.pieces.invariant.came in
    let how = c.in-Open.ensures in
    let err = c.in_err-ended.ensures.err in
    rw (p.1, p.2, c.in_err-ended.ensures.fault) (record {
      end = w;
      rounds = [];
      moves = rw (c.pieces.invariant.office, c.pieces.invariant.callers) (moves_not kept.0, kept.1);
      holds = (
        read_step g.B.Book.fails _ _ c.pieces.input c.in-Open.fault
            (record { came = came.0; consumed = Consumes-kept _ _ _ came.0 came.1 err.1; pending_is = came.2 })
            (rw c.pending.ensures.value at how)
            err.0
            (Appends-kept _ _ _ [] c.pieces.invariant.wrote c.flush_out.ensures.bytes)
            refl,
        λ _. omega arith,
      );
    })

pub returns-in_err-ended-clause-reads : goal.returns-in_err-ended-clause-reads
returns-in_err-ended-clause-reads g c =
    let reads = c.pieces.invariant.reads in
    let how = c.in-Open.ensures in
    let room = open_room c.pieces.input c.in-Open.fault (rw c.pending.ensures.value at how) in
    let held = reads.4 c.if-ended.false in
    let left = c.if-turns-eq0.false in
    (reads.0 + 1, omega (arith, reads.1), λ _. omega arith, capped_more _ reads.0 _ _ reads.3 c.read_from.ensures.calls)

pub pieces-preserved : goal.pieces-preserved
pieces-preserved g c =
    let came = c.pieces.invariant.came in
    let reads = c.pieces.invariant.reads in
    let ok = c.in_ok-ended.ensures.ok in
    let how = c.in-Open.ensures in
    let room = open_room c.pieces.input c.in-Open.fault (rw c.pending.ensures.value at how) in
    let held = reads.4 c.if-ended.false in
    let left = c.if-turns-eq0.false in
    let grown = ap length ok.2 ∙ length-append c.pieces.input ok.0 in
    let got = ok.1 in
    record {
      came = (came.0 ++ ok.0, Consumes-trans _ _ _ came.0 ok.0 came.1 ok.3, ok.2 ∙ ap (λ t. t ++ ok.0) came.2 ∙ append_assoc _ came.0 ok.0);
      reads = (reads.0 + 1, omega (arith, reads.1), λ _. omega arith, capped_more _ reads.0 _ _ reads.3 c.read_from.ensures.calls, λ some. (let some_read = eqb-false c.in_ok-ended.field-0 0 some in omega arith), λ z. absurd (omega (arith, z)));
      ended = λ z. c.in_ok-ended.ensures.end (ap Ok (eqb-true c.in_ok-ended.field-0 0 z));
      read_failures = c.in_ok-ended.ensures.whole ∙ c.pieces.invariant.read_failures;
      write_failures = c.in_ok-flush_out.ensures.ok ∙ c.pieces.invariant.write_failures;
      wrote = Appends-kept _ _ _ [] c.pieces.invariant.wrote c.flush_out.ensures.bytes;
      office = c.pieces.invariant.office;
      callers = c.pieces.invariant.callers;
      alone = c.pieces.invariant.alone;
    }
