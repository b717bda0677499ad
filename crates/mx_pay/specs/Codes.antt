-- Code texts: each log has one.
use Rattle.std.specs.Prelude.{ℕ, List, [], ◌∷◌, ◌++◌, decimal}
use Rattle.mx_pay.specs.Details.{Details}
use Rattle.mx_pay.specs.Log.{Entries, logged}

-- the text of one entry: its five fields with commas, 44, between them, the numbers in decimal
abbrev pub entry_text : Details → List ℕ
entry_text d =
    d.from ++ 44 ∷ (d.to ++ 44 ∷ (decimal d.value ++ 44 ∷ (decimal d.from_seq ++ 44 ∷ decimal d.to_seq)))

-- the texts of entries with semicolons, 59, between them
abbrev pub entry_texts : List Details → List ℕ
entry_texts [] = []
entry_texts (d ∷ []) = entry_text d
entry_texts (d ∷ e ∷ es) = entry_text d ++ 59 ∷ entry_texts (e ∷ es)

-- the code text of a log: its entries in order
abbrev pub code : Entries → List ℕ
code log = entry_texts (logged log)
