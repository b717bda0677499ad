use Rattle.mx_tables.proofs.CallLemmas.{runs_one}
use Rattle.mx_tables.proofs.PurseLemmas.{raises_next, was_next}
use Rattle.mx_tables.proofs.purses.raise_next.Goals as goal

pub returns : goal.returns
returns g c =
    runs_one g.S.Store _ _ c.run_one.ensures (λ has ran.
    let it = rw (c.text.ensures, c.as_str.ensures.text, c.number.ensures, c.number-2.ensures) at ran in
    record {
      goes = raises_next c.args.name.now c.args.next _ _ has it;
      was = was_next c.args.name.now c.args.next _ _ has it;
    })
