-- The database refuses no query that a read asks.
use Rattle.mx_tables.proofs.Common.{ℕ, List, [], ◌∷◌, Text, number, refl, office_schema, Name}
use Rattle.std.proofs.Common.{le_refl}
use Rattle.sqlite.specs.Listing.{understood}
use Rattle.sqlite_tied.specs.Compute.{everything}
use Rattle.sqlite_trees.specs.Tree.{Trees}
use Rattle.mx_tables.specs.States.{Accepts}
use Rattle.mx_tables.proofs.FaultLemmas.{IsWhole, select_accepted}
use Rattle.mx_tables.proofs.LineLemmas.{select_lines, select_lines_is}
use Rattle.mx_tables.proofs.LoadLemmas.{select_load, select_load_is, select_redemption, select_redemption_is}
use Rattle.mx_tables.proofs.ResultLemmas.{select_tray, select_tray_is}
use Rattle.mx_tables.proofs.Texts.{select_inbox, select_inbox_is, select_members, select_members_is, select_message, select_message_is, select_number, select_number_is, select_owners, select_owners_is, select_purses, select_purses_is, select_token, select_token_is}

-- the text is one statement, which takes so many parameters
abbrev Takes : List ℕ → ℕ → Type 0
Takes sql count = IsWhole sql count (understood office_schema sql)

takes : Takes select_token 1 × Takes select_members 0 × Takes select_owners 0 × Takes select_inbox 1 × Takes select_message 2 × Takes select_number 2 × Takes select_lines 2 × Takes select_tray 1 × Takes select_load 2 × Takes select_redemption 2 × Takes select_purses 0
unfolding understood everything
takes = ((le_refl _, refl), (le_refl _, refl), (le_refl _, refl), (le_refl _, refl), (le_refl _, refl), (le_refl _, refl), (le_refl _, refl), (le_refl _, refl), (le_refl _, refl), (le_refl _, refl), (le_refl _, refl))

module _ (db : Trees) where
  pub token_accepted : (text : List ℕ) → Accepts select_token (Text text ∷ []) db
  token_accepted text = select_accepted select_token _ _ _ _ _ select_token_is _ db takes.0 (λ h. cc)

  pub members_accepted : Accepts select_members [] db
  members_accepted = select_accepted select_members _ _ _ _ _ select_members_is _ db takes.1 (λ h. cc)

  pub owners_accepted : Accepts select_owners [] db
  owners_accepted = select_accepted select_owners _ _ _ _ _ select_owners_is _ db takes.2 (λ h. cc)

  pub purses_accepted : Accepts select_purses [] db
  purses_accepted = select_accepted select_purses _ _ _ _ _ select_purses_is _ db takes.10 (λ h. cc)

  module _ (p : Name) where
    pub inbox_accepted : Accepts select_inbox (Text p ∷ []) db
    inbox_accepted = select_accepted select_inbox _ _ _ _ _ select_inbox_is _ db takes.3 (λ h. cc)

    pub message_accepted : (n : ℕ) → Accepts select_message (Text p ∷ number n ∷ []) db
    message_accepted n = select_accepted select_message _ _ _ _ _ select_message_is _ db takes.4 (λ h. cc)

    pub number_accepted : (n : ℕ) → Accepts select_number (Text p ∷ number n ∷ []) db
    number_accepted n = select_accepted select_number _ _ _ _ _ select_number_is _ db takes.5 (λ h. cc)

    pub lines_accepted : (n : ℕ) → Accepts select_lines (Text p ∷ number n ∷ []) db
    lines_accepted n = select_accepted select_lines _ _ _ _ _ select_lines_is _ db takes.6 (λ h. cc)

    pub tray_accepted : Accepts select_tray (Text p ∷ []) db
    tray_accepted = select_accepted select_tray _ _ _ _ _ select_tray_is _ db takes.7 (λ h. cc)

    pub load_accepted : (reference : Name) → Accepts select_load (Text p ∷ Text reference ∷ []) db
    load_accepted reference = select_accepted select_load _ _ _ _ _ select_load_is _ db takes.8 (λ h. cc)

    pub redemption_accepted : (reference : Name) → Accepts select_redemption (Text p ∷ Text reference ∷ []) db
    redemption_accepted reference = select_accepted select_redemption _ _ _ _ _ select_redemption_is _ db takes.9 (λ h. cc)
