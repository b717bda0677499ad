use Rattle.std.proofs.Common.{◌≡◌, ◌≤◌, ◌<◌, ◌∷◌, ◌++◌, [], map, take, length, arith, rules}
use Rattle.std.proofs.lemmas.List.{get_or-map, length-map, take_all, take_more}
use Rattle.mx_lives.specs.Lived.{AreLeft}
use Rattle.mx_lives.proofs.LifeLemmas.{closed_left, closed_next, left_hold, lived_none}
use Rattle.mx_lives.proofs.files.closed_lives.Goals as goal

pub inputs-init : goal.inputs-init
inputs-init g c = λ w books clean. rw c.new-lives.ensures.items (lived_none _ w books)

pub inputs-preserved : goal.inputs-preserved
inputs-preserved g c =
    let pushed : c.push.new.self.items ≡ c.inputs.lives.items ++ c.in_ok-left.life ∷ [] = search rules in
    let texts = map (λ input. input.now) c.args.inputs.now in
    let many = length-map c.args.inputs.now (λ input. input.now) in
    let below : c.inputs.input-index < length texts = omega (arith, c.inputs-test.true) in
    let this = get_or-map (λ input. input.now) c.args.inputs.now c.inputs.input-index _ [] c.inputs-test.true in
    λ w books clean.
    let before = c.inputs.invariant w books (c.in_ok-left.ensures.clean clean) in
    rw pushed (rw (take_more texts c.inputs.input-index [] below, this)
    (closed_next _ (AreLeft g.D.Disk c.in_ok-left.left (take c.inputs.input-index texts ++ _ ∷ [])) _ _ _ c.in_ok-left.life w before
    (λ v here. closed_left g.D.Disk _ _ _ (c.in_ok-left.ensures.lives v (left_hold g.D.Disk _ _ v here) clean))))

pub returns : goal.returns
returns g c =
    let texts = map (λ input. input.now) c.args.inputs.now in
    let many = length-map c.args.inputs.now (λ input. input.now) in
    let past : length texts ≤ c.inputs.input-index = omega (arith, c.inputs-test.false) in
    let all = take_all c.inputs.input-index texts past in
    record { lives = λ w books clean. rw all at (c.inputs.invariant w books clean) }
