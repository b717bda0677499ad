use Rattle.std.proofs.Common.{◌≡◌, ◌≤◌, ◌<◌, ◌∷◌, ◌++◌, ◌∙◌, [], ap, map, length, arith, rules, subst, sym, true}
use Rattle.std.proofs.lemmas.List.{get_or-map, length-map, take_all, take_more}
use Rattle.sqlite.specs.Held.{state}
use Rattle.mx_tables.specs.Rounds.{IsSettled}
use Rattle.mx_tables.specs.States.{worry}
use Rattle.mx_tables.proofs.StateLemmas.{sure_before}
use Rattle.mx_files.specs.Durable.{Represents}
use Rattle.mx_lives.specs.Lived.{LivedTo}
use Rattle.mx_lives.proofs.LifeLemmas.{lived_next, lived_none}
use Rattle.mx_lives.proofs.lives.live_on.Goals as goal

pub inputs-init : goal.inputs-init
inputs-init g c = record {
  awake = c.in-Ok.ensures.live;
  settled = c.in-Ok.ensures.settled;
  calm = sure_before (state g.S.Store c.args.store) (state g.S.Store c.in-Ok.opened.book.0) c.in-Ok.ensures.rests.later;
  led = λ sure.
      let found = c.in-Ok.ensures.sound sure in
      let stands : Represents (state g.S.Store c.in-Ok.opened.book.0).now found.0 = subst (λ db. Represents db found.0) (sym (c.in-Ok.ensures.rests.same sure)) ∣ found.1 ∣₁ in
      (found.0, ∣ found.1 ∣₁, rw c.new-lives.ensures.items (lived_none _ found.0 stands));
}

pub inputs-preserved : goal.inputs-preserved
inputs-preserved g c =
    let pushed : c.push.new.self.items ≡ c.inputs.lives.items ++ c.in_ok-again.life ∷ [] = search rules in
    let texts = map (λ input. input.now) c.args.inputs.now in
    let many = length-map c.args.inputs.now (λ input. input.now) in
    let below : c.inputs.input-index < length texts = omega (arith, c.inputs-test.true) in
    let this = get_or-map (λ input. input.now) c.args.inputs.now c.inputs.input-index _ [] c.inputs-test.true in
    record {
      awake = c.in_ok-again.ensures.awake;
      settled = c.in_ok-again.ensures.settled;
      calm = λ sure. c.inputs.invariant.calm (c.inputs.invariant.awake (c.in_ok-again.ensures.calm c.inputs.invariant.settled sure));
      led = λ sure.
          let was = c.inputs.invariant.awake (c.in_ok-again.ensures.calm c.inputs.invariant.settled sure) in
          let led = c.inputs.invariant.led was in (
            led.0,
            led.1,
            rw pushed (rw (take_more texts c.inputs.input-index [] below, this)
                (lived_next _ (Represents (state g.S.Store c.in_ok-again.again.book.0).now) _ _ _ c.in_ok-again.life led.0 led.2 (λ v here. c.in_ok-again.ensures.lives v c.inputs.invariant.settled was here sure))),
          );
    }

pub returns : goal.returns
returns g c =
    let texts = map (λ input. input.now) c.args.inputs.now in
    let many = length-map c.args.inputs.now (λ input. input.now) in
    let past : length texts ≤ c.inputs.input-index = omega (arith, c.inputs-test.false) in
    let all = take_all c.inputs.input-index texts past in
    let same : c.into_store.result ≡ c.inputs.book.book.0 = c.into_store.ensures.same ∙ ap (λ t. t.0) c.into_inner.ensures in
    record {
      calm = λ sure. c.inputs.invariant.calm (subst (λ h. worry (state g.S.Store h) ≡ 0) same sure);
      ours = c.into_store.ensures.ours (subst (λ t. IsSettled g.S.Store t) (sym c.into_inner.ensures) c.inputs.invariant.settled);
      lives = λ sure.
          let led = c.inputs.invariant.led (subst (λ h. worry (state g.S.Store h) ≡ 0) same sure) in
          (led.0, led.1, subst (λ h. LivedTo (λ _. Unit {0}) true (Represents (state g.S.Store h).now) texts c.inputs.lives.items led.0) (sym same) (rw all at led.2));
    }
