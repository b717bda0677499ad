use Rattle.std.proofs.Common.{◌∙◌, ap, refl}
use Rattle.mx_book.specs.RowEdits.{all_rewritten}
use Rattle.mx_memory.specs.Shelves.{rows_of}
use Rattle.mx_memory.proofs.FitLemmas.{fit_always}
use Rattle.mx_book.proofs.SpellLemmas.{able_always, applied_always, applied}
use Rattle.mx_memory.proofs.plain_book.PlainBookRowBook.apply.Goals as goal

pub edit_all-requires-clause-able : goal.edit_all-requires-clause-able
edit_all-requires-clause-able c = able_always (rows_of c.args.self.now.shelves) (rows_of c.reserve.new.self) c.args.edits.now c.args.self.now.spelled c.reserve.ensures.same c.requires

pub edit_all-requires-clause-fit : goal.edit_all-requires-clause-fit
edit_all-requires-clause-fit c = fit_always (rows_of c.args.self.now.shelves) (rows_of c.reserve.new.self) c.args.edits.now c.args.self.now.spelled c.reserve.ensures.same c.requires

pub invariant_of-self-2 : goal.invariant_of-self-2
invariant_of-self-2 c = record { spelled = applied_always (rows_of c.args.self.now.shelves) (rows_of c.edit_all.new.self) c.args.edits.now c.args.self.now.spelled c.requires (c.edit_all.ensures ∙ ap (λ r. all_rewritten r c.args.edits.now) c.reserve.ensures.same) }

pub returns-clause-ok : goal.returns-clause-ok
returns-clause-ok c w sure h = applied (rows_of c.args.self.now.shelves) (rows_of c.edit_all.new.self) w c.args.edits.now h (c.requires w refl h) (c.edit_all.ensures ∙ ap (λ r. all_rewritten r c.args.edits.now) c.reserve.ensures.same)
