-- What the program prints of an import, and of the books.
use Rattle.std.specs.Prelude.{◌≡◌, ℕ, List, ◌++◌, Bool, Option, Some, None, Result, Err, codes, flat_map, length, option_map}
use Rattle.std.specs.Fmt.{decimal}
use Rattle.mx_book.specs.Totals.{members_totals_of, totals_of}
use Rattle.mx_book.specs.World.{World}
use Rattle.mx_command.specs.Texts.{refusal_text}
use Rattle.mx_report.specs.Even.{are_even_statements, is_even_purse, is_even_report}
use Rattle.mx_report.specs.Reconciliation.{reconciliation_text}
use Rattle.mx_report.specs.Statement.{statement_of, statement_text, statements_text}
use Rattle.mx_report.specs.declared.rolls.RefusedRow.{RefusedRow}
use Rattle.mx_report.specs.declared.rolls.RollReason.{RollReason}
use Rattle.mx_report.specs.declared.rolls.RollReason.TheVariants.{BadRow, Refused}
use Rattle.mx_report.specs.declared.rolls.RollReport.{RollReport}
use Rattle.mx_tasks.specs.declared.fault.TaskFault.{TaskFault}
use Rattle.mx_tasks.specs.declared.fault.TaskFault.TheVariants.{NoSuchPurse}
use Rattle.mx_tasks.specs.declared.report.ReportKind.{ReportKind}
use Rattle.mx_tasks.specs.declared.report.ReportKind.TheVariants.{Reconciliation, Statement, Statements}
use Rattle.mx_tasks.specs.declared.report.ReportText.{ReportText}

-- why a row is refused
abbrev pub reason_text : RollReason → List ℕ
reason_text BadRow = codes "bad row"
reason_text (Refused refusal) = refusal_text refusal

-- the line of a row that was refused
abbrev pub numbered_line : ℕ → List ℕ → List ℕ
numbered_line number reason = codes "row " ++ decimal number ++ codes ": " ++ reason ++ codes "\n"

abbrev pub row_line : RefusedRow → List ℕ
row_line row = numbered_line row.number (reason_text row.reason)

-- how many rows were added, stood already, and were refused
abbrev pub counts_text : ℕ → ℕ → ℕ → List ℕ
counts_text added same refused =
    codes "added " ++ decimal added ++ codes "\nsame " ++ decimal same ++ codes "\nrefused " ++ decimal refused ++ codes "\n"

-- the lines that tell of an import: the counts, and a line for each row that was refused
abbrev pub import_text : RollReport → List ℕ
import_text r = counts_text r.added r.same (length r.refused.items) ++ flat_map row_line r.refused.items

-- the text of the reconciliation; that of a purse's statement, where there is such a purse; or that of all statements
abbrev pub report_of : World → ReportKind → Option (List ℕ)
report_of w Reconciliation = Some (reconciliation_text (members_totals_of w) (totals_of w))
report_of w (Statement purse) = option_map statement_text (statement_of w purse)
report_of w Statements = Some (statements_text w)

-- whether the sums that are reported add up, or the lines lead to the balance of their purse
abbrev pub is_even_of : World → ReportKind → Bool
is_even_of w Reconciliation = is_even_report (members_totals_of w) (totals_of w)
is_even_of w (Statement purse) = is_even_purse w purse
is_even_of w Statements = are_even_statements w

-- what is reported of the World: its text, and whether it adds up
abbrev pub Reports : World → ReportKind → ReportText → Type 0
Reports w kind r = (report_of w kind ≡ Some r.text.items) × (r.is_even ≡ is_even_of w kind)

-- the fault that there is no such purse comes only where there is none
abbrev pub Denies : {T : Type 0} → World → ReportKind → Result T TaskFault → Type 0
Denies w kind result = result ≡ Err NoSuchPurse → report_of w kind ≡ None
