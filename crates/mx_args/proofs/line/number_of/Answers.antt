-- The value of `id` is a number exactly where it is read as one within the limits.
use Rattle.std.proofs.Common.{◌≤◌, ◌∙◌, Some, ap, sym, arith}
use Rattle.clap.specs.Words.{found_of, rows_of}
use Rattle.mx_args.proofs.TaskLemmas.{no_number, number_given, number_outside}
use Rattle.mx_args.proofs.line.number_of.Goals.{else-number-ge1-via-then-number-ge1+else-number-from, else-number-ge1-via-else-number-ge1}
use Rattle.mx_args.proofs.line.number_of.Goals as goal

pub returns-in_err-read_seq-clause-none : goal.returns-in_err-read_seq-clause-none
returns-in_err-read_seq-clause-none c = λ _ n h.
    no_number (rows_of (found_of c.args.matches.now)) c.args.id.now c.in_ok-text_of.field-0.now c.args.most (omega arith)
    (sym c.in_ok-text_of.ensures) (sym c.in_err-read_seq.ensures) n h

pub returns-then-number-from-clause-some : goal.returns-then-number-from-clause-some
returns-then-number-from-clause-some c =
    number_given (rows_of (found_of c.args.matches.now)) c.args.id.now c.in_ok-text_of.field-0.now c.args.most c.get-number.result
    (sym c.in_ok-text_of.ensures) (sym c.in_ok-read_seq.ensures ∙ ap Some (sym c.get-number.ensures.value)) (omega arith) (omega arith)

pub returns-else-number-ge1-clause-none : goal.returns-else-number-ge1-clause-none
returns-else-number-ge1-clause-none c = λ _ n h.
    let outside : 1 ≤ c.get-number.result → c.get-number.result ≤ c.args.most → ⊥ = λ low high. elim c.else-number-ge1.branch [
      | else-number-ge1-via-then-number-ge1+else-number-from w ↦ absurd (omega arith)
      | else-number-ge1-via-else-number-ge1 w ↦ absurd (omega arith)
    ] in
    number_outside (rows_of (found_of c.args.matches.now)) c.args.id.now c.in_ok-text_of.field-0.now c.args.most c.get-number.result (omega arith)
    (sym c.in_ok-text_of.ensures) (sym c.in_ok-read_seq.ensures ∙ ap Some (sym c.get-number.ensures.value)) outside n h
