use Rattle.std.proofs.Common.{◌≡◌, ◌++◌, ◌∙◌, ap, append_assoc, rules}
use Rattle.csv.specs.Writing.{fields_text, is_blank}
use Rattle.mx_report.specs.Statement.{record_text}
use Rattle.mx_report.specs.Reconciliation.{members_text, reconciliation_header, reconciliation_text, scheme_text}
use Rattle.mx_report.proofs.reconciliation.reconcile_text.Goals as goal

pub returns : goal.returns
unfolding fields_text is_blank
returns c =
    let report = c.args.report.now in
    let headed : c.in_ok-headed.headed ≡ record_text reconciliation_header = search rules in
    let members : c.in_ok-members.members ≡ record_text reconciliation_header ++ members_text report.members.items = search rules in
    let whole : c.in_ok-whole.whole ≡ reconciliation_text report.members.items report.scheme =
    c.in_ok-whole.ensures ∙ ap (λ text. text ++ scheme_text report.scheme) members ∙ append_assoc (record_text reconciliation_header) (members_text report.members.items) (scheme_text report.scheme) in
    rw whole at c.into_bytes.ensures
