use Rattle.std.proofs.Common.{◌≡◌, ◌≤◌, ◌++◌, ◌-◌, ℕ, List, length, take, drop, ap, ◌∙◌, arith, length-take, length-append}
use Rattle.mx_desk.proofs.Lists.{take_filled, turned}
use Rattle.mx_desk.proofs.input.Input.read_from.Goals as goal

pub returns-in-Ok-clause-ok : goal.returns-in-Ok-clause-ok
returns-in-Ok-clause-ok g c =
    let start : ℕ = c.self.inside.start in
    let end : ℕ = c.self.inside.filled in
    let bytes : List ℕ = c.self.inside.bytes in
    let row : List ℕ = c.rotate_left.new.self in
    let more : List ℕ = take c.in-Ok.count c.read.new.buf in
    let low = c.self.invariant.0 in
    let high = c.self.invariant.1 in
    let all = c.self.told in
    let within : end ≤ length bytes = omega (arith, high, all) in
    let size : length row ≡ end = c.rotate_left.ensures.len ∙ simp length-take (omega arith) in
    let bound : c.in-Ok.count ≤ length c.read.new.buf = omega (arith, c.in-Ok.ensures.bound) in (
      more,
      simp length-take (omega arith),
      take_filled (end - start) c.in-Ok.count (row ++ drop end bytes) c.read.new.buf _ (let long = length-append row (drop end bytes) in omega (arith, long, size)) bound
          ∙ ap (λ t. t ++ more) (turned start end bytes row (drop end bytes) low within c.rotate_left.ensures.after ∙ c.self.view_is),
      c.in-Ok.ensures.bytes.0,
    )
