use Rattle.std.proofs.Common.{◌∙◌, sym, subst, ap, Some}
use Rattle.mx_pay.specs.Codes.{code, entry_texts}
use Rattle.mx_pay.specs.Log.{IsLogValue}
use Rattle.mx_pay.proofs.CodeLemmas.{found_in, valid_in, only_in, none_only, none_is, empty_of, nonempty_of}
use Rattle.mx_pay.proofs.SameLemmas.{none_valid}
use Rattle.mx_pay.proofs.codes.read_code.Goals as goal

pub returns-clause-found : goal.returns-clause-found
returns-clause-found c = found_in c.args.text.now c.read_entries.result c.read_entries.ensures

pub returns-clause-valid : goal.returns-clause-valid
returns-clause-valid c = valid_in c.args.text.now c.read_entries.result c.read_entries.ensures

pub returns-clause-only : goal.returns-clause-only
returns-clause-only c = only_in c.args.text.now c.read_entries.result c.read_entries.ensures (nonempty_of c.args.text.now (sym c.is_empty.ensures ∙ c.if-is_empty.false))

pub returns-then-is_empty-clause-found : goal.returns-then-is_empty-clause-found
returns-then-is_empty-clause-found c = empty_of c.args.text.now (sym c.is_empty.ensures ∙ c.if-is_empty.true) ∙ sym (ap code c.new.ensures ∙ ap entry_texts none_is)

pub returns-then-is_empty-clause-valid : goal.returns-then-is_empty-clause-valid
returns-then-is_empty-clause-valid c = subst IsLogValue (sym c.new.ensures) none_valid

pub returns-then-is_empty-clause-only : goal.returns-then-is_empty-clause-only
returns-then-is_empty-clause-only c = λ log valid is. ap Some (c.new.ensures ∙ none_only c.args.text.now (empty_of c.args.text.now (sym c.is_empty.ensures ∙ c.if-is_empty.true)) log is)
