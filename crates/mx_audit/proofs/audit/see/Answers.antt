use Rattle.mx_audit.proofs.audit.see.Goals as goal

pub returns-in-Line-clause-ok : goal.returns-in-Line-clause-ok
returns-in-Line-clause-ok c = rw c.in-Line.is (c.see_line.ensures.ok c.in-Line.field-2)
