use Rattle.std.proofs.Common.{◌+◌, length, refl, ◌∙◌, take, arith}
use Rattle.std.proofs.lemmas.List.{take_all}
use Rattle.std.proofs.lemmas.Result.{err_from_is_err_and}
use Rattle.std.proofs.KnownBytes.{Appends-nil, Appends-trans}
use Rattle.mx_desk.specs.Held.{texts}
use Rattle.mx_desk.proofs.RoundLemmas.{texts_cut, texts_more}
use Rattle.mx_desk.proofs.rounds.write_all.Goals as goal

pub loop-one-init : goal.loop-one-init
loop-one-init g c = record { sent = Appends-nil _; failures = refl }

pub loop-one-preserved : goal.loop-one-preserved
loop-one-preserved g c =
    let ok = c.in_ok-write_out.ensures.ok in
    let more = texts_more c.args.kept c.args.held.now c.loop-one.one-index c.one-item.result c.loop-one-test.true c.one-item.is in
    record {
      sent = rw more (Appends-trans _ _ _ _ _ c.loop-one.invariant.sent (rw c.text.ensures at ok.0));
      failures = ok.1 ∙ c.loop-one.invariant.failures;
    }

pub returns-clause-ok : goal.returns-clause-ok
returns-clause-ok g c =
    let all = take_all c.loop-one.one-index c.args.held.now (omega (arith, c.loop-one-test.false)) in
    (rw all at c.loop-one.invariant.sent, c.loop-one.invariant.failures)

pub returns-in_err-write_out-clause-err : goal.returns-in_err-write_out-clause-err
returns-in_err-write_out-clause-err g c =
    let p = err_from_is_err_and c.from_residual.result c.from_residual.ensures.1 in
    let err = c.in_err-write_out.ensures.err in
    let cut = texts_cut c.args.kept c.args.held.now c.loop-one.one-index c.one-item.result err.0 c.loop-one-test.true c.one-item.is (rw c.text.ensures at err.1) in
    let text = err.2 in
    rw p.1 (
      length (texts c.args.kept (take c.loop-one.one-index c.args.held.now)) + err.0,
      cut.0,
      rw cut.1 (Appends-trans _ _ _ _ _ c.loop-one.invariant.sent (rw c.text.ensures at text)),
      (let failures = err.3 in rw c.loop-one.invariant.failures at failures),
    )
