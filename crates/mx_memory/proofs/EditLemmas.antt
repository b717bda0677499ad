-- What a write makes of the rows is what the edit does that asks for it.
use Rattle.std.proofs.Common.{◌≡◌, ℕ, [], ◌∷◌, sym, ◌∙◌, ap, subst}
use Rattle.mx_book.specs.declared.edits.Edit.{Edit}
use Rattle.mx_book.specs.RowEdits.{rewritten, archive_rows}
use Rattle.mx_memory.specs.Shelves.{rows_of, SpendsOne}
use Rattle.mx_memory.specs.declared.shelves.tables.Shelves.{Shelves}

pub edited_as : {edit x : Edit} {n : ℕ} {old new : Shelves} → edit ≡ x → n ≡ archive_rows (x ∷ []) → rows_of new ≡ rewritten (rows_of old) x → SpendsOne n old new
    → record { edited : rows_of new ≡ rewritten (rows_of old) edit; room : SpendsOne (archive_rows (edit ∷ [])) old new }
edited_as {old = old} {new = new} is rows edited room = record {
  edited = edited ∙ ap (rewritten (rows_of old)) (sym is);
  room = subst (λ m. SpendsOne m old new) (rows ∙ ap (λ e. archive_rows (e ∷ [])) (sym is)) room;
}
