use Rattle.std.proofs.Common.{◌≡◌, ◌++◌, drop, flat_map, string_bytes}
use Rattle.mx_tasks.specs.Texts.{import_text, row_line}
use Rattle.mx_tasks.proofs.import.summary.import_text.Given as goal

abbrev pub invariant-loop-row : goal.invariant-loop-row
invariant-loop-row l = string_bytes l.text ++ flat_map row_line (drop l.row-index l.rows) ≡ import_text l.fn.summary
