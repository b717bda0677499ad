use Rattle.mx_tables.proofs.CallLemmas.{runs_to}
use Rattle.mx_tables.proofs.LineLemmas.{adds_line}
use Rattle.mx_tables.proofs.lines.insert_line.Goals as goal

pub returns : goal.returns
returns g c =
    runs_to g.S.Store _ _ c.run.ensures (λ count one has ran. adds_line c.args.purse.now c.args.line.now _ _ count has
    (rw (c.text.ensures, c.as_str.ensures.text, c.number.ensures, c.text-2.ensures, c.kind_text.ensures, c.number-2.ensures, c.get.ensures.value, c.number-3.ensures, c.text-3.ensures, c.deref.ensures, c.in_ok-note.ensures) at ran))
