-- Edits that suit a World add what is new to its rows, under what is there.
use Rattle.std.proofs.Common.{◌≡◌, ℕ, List, [], ◌∷◌, refl, sym, subst, arith}
use Rattle.std.specs.Prelude.{IsTrue, IsNone}
use Rattle.std.specs.FinMap as fmap
use Rattle.mx_book.specs.declared.edits.Edit.{Edit}
use Rattle.mx_book.specs.declared.edits.Edit.TheVariants.{NewHolder, NewPurse, AddRedemption}
use Rattle.mx_memory.specs.Due.{is_fit, all_fit}
use Rattle.std.proofs.Props.{props}
use mathlib.Core.Logic.{∥∥₁_elim}
use Rattle.mx_book.specs.Edits.{Suits, AllSuit, Fits, edited}
use Rattle.mx_book.specs.Spells.{Spells}
use Rattle.mx_book.specs.RowEdits.{rewritten}
use Rattle.mx_book.specs.Rows.{Rows, Spelled, world_of}
use Rattle.mx_book.specs.World.{World}
use Rattle.mx_book.proofs.EditLemmas.{edit_spelled}
use Rattle.mx_book.proofs.RowLemmas.{found, not_there}

fit_there : (r : Rows) (e : Edit) → Suits (world_of r) e → IsTrue (is_fit r e)
fit_there r (NewHolder h m t) fits = grind (arith, fits.0)
fit_there r (NewPurse p h) fits = grind (arith, not_there r p fits.0, fits.1)
fit_there r (AddRedemption p ref amount) fits = let x = found r p (λ row. IsNone (fmap.get row.holding.redemptions ref)) fits in grind (arith, x.1)
fit_there r e fits = refl

pub all_fit_there : (r : Rows) (w : World) (es : List Edit) → Spelled r w → AllSuit w es → IsTrue (all_fit r es)
all_fit_there r w [] h fits = refl
all_fit_there r w (e ∷ es) h fits =
    let first = fit_there r e (subst (λ (z : World). Suits z e) h.world fits.0) in
    let rest = all_fit_there (rewritten r e) (edited w e) es (edit_spelled r w e h fits.0) fits.1 in
    grind (arith, first, rest)

pub fit_always : (r s : Rows) (es : List Edit) → ∥ Spells r (world_of r) ∥₁ → s ≡ r → ((w : World) → ◌≡◌ {A = ℕ} 0 0 → Spells r w → Fits w es) → IsTrue (all_fit s es)
fit_always r s es h is fits = subst (λ (z : Rows). IsTrue (all_fit z es)) (sym is) (∥∥₁_elim h (hlevel props) (λ one. all_fit_there r (world_of r) es one.spelled (fits (world_of r) refl one).each))
