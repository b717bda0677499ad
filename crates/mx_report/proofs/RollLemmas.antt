-- The fields of a record, and the row that they spell.
use Rattle.std.proofs.Common.{◌≡◌, ◌≢◌, ℕ, Bool, true, false, List, [], ◌∷◌, length, Some, None, refl, arith}
use Rattle.csv.specs.Records.{field_at}
use Rattle.mx_pay.specs.Names.{is_name_text}
use Rattle.mx_report.specs.Roll.{Fields, name_in, row_in, row_of}

-- a list of four fields is those that stand at its places
pub four_at : (fs : Fields) (a b c d : List ℕ) → length fs ≡ 4 → Some a ≡ field_at fs 0 → Some b ≡ field_at fs 1 → Some c ≡ field_at fs 2 → Some d ≡ field_at fs 3 → fs ≡ a ∷ b ∷ c ∷ d ∷ []
unfolding field_at
four_at (e ∷ f ∷ g ∷ h ∷ []) a b c d count p q r s = cc
four_at [] a b c d count p q r s = absurd (omega arith)
four_at (e ∷ []) a b c d count p q r s = absurd (omega arith)
four_at (e ∷ f ∷ []) a b c d count p q r s = absurd (omega arith)
four_at (e ∷ f ∷ g ∷ []) a b c d count p q r s = absurd (omega arith)
four_at (e ∷ f ∷ g ∷ h ∷ i ∷ fs) a b c d count p q r s = absurd (omega arith)

-- a record of another number of fields spells no row
pub odd_row : (fs : Fields) → length fs ≢ 4 → None ≡ row_of fs
unfolding row_of
odd_row (e ∷ f ∷ g ∷ h ∷ []) odd = absurd (odd refl)
odd_row [] odd = refl
odd_row (e ∷ []) odd = refl
odd_row (e ∷ f ∷ []) odd = refl
odd_row (e ∷ f ∷ g ∷ []) odd = refl
odd_row (e ∷ f ∷ g ∷ h ∷ i ∷ fs) odd = refl

-- the row of four fields
pub four_row : (fs : Fields) (a b c d : List ℕ) → fs ≡ a ∷ b ∷ c ∷ d ∷ [] → row_in a b c d ≡ row_of fs
unfolding row_of
four_row fs a b c d e = rw e refl

-- a field that is no name has none
pub no_name : (field : List ℕ) (b : Bool) → is_name_text field ≡ b → (b ≡ true → ⊥) → None ≡ name_in field
no_name field true is wrong = absurd (wrong refl)
no_name field false is wrong = rw is refl
