use Rattle.mx_tables.proofs.Common.{◌∙◌, arith}
use Rattle.std.proofs.Common.{sym}
use Rattle.mx_tables.proofs.CallLemmas.{finds_then, finds_none, runs_to}
use Rattle.mx_tables.proofs.LoadLemmas.{row_left, row_taken, collects_purse}
use Rattle.mx_tables.proofs.collecting.collect_row.Goals as goal

pub returns-then-is_of : goal.returns-then-is_of
returns-then-is_of g c =
    let marks = runs_to g.S.Store _ _ c.run.ensures (λ count one has ran. collects_purse c.in_ok-purse.purse _ _ count has (rw (c.text.ensures, c.as_str.ensures.text) at ran)) in
    finds_then g.S.Store c.in_ok-ask_about_inside.ensures marks (λ r holds is.
    row_taken c.args.member.now c.in_ok-purse.purse c.in_ok-name_at.field-0 c.args.row.now c.in_ok-purse.ensures.is c.in_ok-name_at.ensures.is c.in_ok-owner.owner (sym c.is_of.ensures ∙ c.if-is_of.true) r (grind (arith, is)))

pub returns-else-is_of : goal.returns-else-is_of
returns-else-is_of g c = finds_none g.S.Store c.in_ok-ask_about_inside.ensures (λ r holds is.
    row_left c.args.member.now c.in_ok-purse.purse c.in_ok-name_at.field-0 c.args.row.now c.in_ok-purse.ensures.is c.in_ok-name_at.ensures.is c.in_ok-owner.owner (sym c.is_of.ensures ∙ c.if-is_of.false) r (grind (arith, is)))
