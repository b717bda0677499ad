use Rattle.std.proofs.Common.{refl}
use Rattle.std.proofs.lemmas.Str.{IsUtf8-from_ascii}
use Rattle.mx_pay.proofs.Texts.{IsAscii-name}
use Rattle.mx_report.proofs.RollLemmas.{no_name}
use Rattle.mx_report.proofs.roll_rows.name_in.Goals as goal

-- a name is text
pub returns-in-Err : goal.returns-in-Err
returns-in-Err c = no_name c.args.field.now _ refl (λ is. c.in-Err.ensures.cases.0 (IsUtf8-from_ascii _ (IsAscii-name _ is)))
