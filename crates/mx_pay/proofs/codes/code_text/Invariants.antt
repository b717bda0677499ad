use Rattle.std.proofs.Common.{◌≡◌, ◌++◌, drop}
use Rattle.std.specs.Prelude.{string_bytes}
use Rattle.mx_pay.specs.Codes.{code}
use Rattle.mx_pay.specs.Log.{logged, log_len}
use Rattle.mx_pay.proofs.CodeLemmas.{text_from}
use Rattle.mx_pay.proofs.codes.code_text.Given as goal

abbrev pub invariant-loop-place : goal.invariant-loop-place
invariant-loop-place l = record { upto : l.place-end ≡ log_len l.log; text : string_bytes l.text ++ text_from l.place (drop l.place (logged l.log)) ≡ code l.log }
