use Rattle.std.proofs.Common.{refl}
use Rattle.mx_audit.proofs.CopyLemmas.{fills_so}
use Rattle.mx_audit.proofs.copying.FillerTakes.take.Goals as goal

pub returns-clause-takes : goal.returns-clause-takes
returns-clause-takes g c = fills_so g.S.Store c.run.result c.args.self.now.source _ c.args.self.now.tx.now c.run.new.tx c.args.row.now refl (rw (c.row_text.ensures, c.as_slice.ensures.value, c.in_ok-values.ensures) at (c.run.ensures))
