use Rattle.std.proofs.Common.{◌∙◌, ap}
use Rattle.mx_pay.specs.Reading.{entry_of}
use Rattle.mx_pay.proofs.EntryLemmas.{entry_found, entry_valid, entry_again}
use Rattle.mx_pay.proofs.codes.read_details.Goals as goal

pub returns-clause-found : goal.returns-clause-found
returns-clause-found c = entry_found c.args.text.now c.read_entry.result c.read_entry.ensures

pub returns-clause-valid : goal.returns-clause-valid
returns-clause-valid c = entry_valid c.args.text.now c.read_entry.result c.read_entry.ensures

pub returns-clause-only : goal.returns-clause-only
returns-clause-only c d valid is = c.read_entry.ensures ∙ ap entry_of is ∙ entry_again d valid
