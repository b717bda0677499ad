use Rattle.mx_tables.proofs.CallLemmas.{runs_one}
use Rattle.mx_tables.proofs.PurseLemmas.{sets_purse}
use Rattle.mx_tables.proofs.purses.set_purse.Goals as goal

pub returns : goal.returns
returns g c =
    runs_one g.S.Store _ _ c.run_one.ensures (λ has ran. sets_purse c.args.purse.now _ _ has
    (rw (
      c.text.ensures,
      c.as_str.ensures.text,
      c.name.ensures.value,
      c.number.ensures,
      c.balance.ensures.value,
      c.number-2.ensures,
      c.get.ensures.value,
      c.next.ensures,
      c.text-2.ensures,
      c.status_word.ensures,
      c.status-2.ensures,
      c.text-3.ensures,
      c.deref.ensures,
      c.in_ok-details.ensures,
      c.status.ensures,
      c.text-4.ensures,
      c.deref-2.ensures,
      c.in_ok-log.ensures,
      c.log.ensures,
      c.number-3.ensures,
      c.lines.ensures.value,
    ) at ran))
