-- A roll: the rows that its records spell, when a row is same in a World, and what is asked of the office where it isn't.
use Rattle.std.specs.Prelude.{Bool, ◌&&◌, if◌then◌else◌, List, [], ◌∷◌, ℕ, Option, Some, None, option_map, option_and_then, codes, bytes_eq}
use Rattle.std.specs.FinMap as fmap
use Rattle.mx_pay.specs.Names.{is_name, is_name_text}
use Rattle.mx_pay.specs.Tokens.{token_of}
use Rattle.mx_book.specs.declared.values.Caller.{Caller}
use Rattle.mx_book.specs.declared.values.Caller.TheVariants as caller
use Rattle.mx_book.specs.Reads.{who_of}
use Rattle.mx_book.specs.World.{World, Row, Name, is_of}
use Rattle.mx_command.specs.declared.values.Command.{Command}
use Rattle.mx_command.specs.declared.values.Command.TheVariants.{NewMember, NewHolder, NewPurse}
use Rattle.mx_report.specs.declared.roll_rows.RollRow.{RollRow}
use Rattle.mx_report.specs.declared.roll_rows.RollRow.TheVariants.{Member, Holder, Purse}

-- ---- what a record spells

-- the fields of a record
abbrev pub Fields : Type 0
Fields = List (List ℕ)

-- the first record of a roll
abbrev pub roll_header : Fields
roll_header = codes "kind" ∷ codes "name" ∷ codes "of" ∷ codes "token" ∷ []

-- the name in a field
abbrev pub name_in : List ℕ → Option Name
name_in field = if is_name_text field then Some field else None

-- member: its name, nothing, and the token of its clerk
abbrev pub member_in : List ℕ → List ℕ → List ℕ → Option RollRow
member_in name [] token = option_and_then (λ m. option_map (λ t. Member m t) (token_of token)) (name_in name)
member_in name (b ∷ bs) token = None

-- holder: its name, the member, and the holder's token
abbrev pub holder_in : List ℕ → List ℕ → List ℕ → Option RollRow
holder_in name of token = option_and_then (λ h. option_and_then (λ m. option_map (λ t. Holder h m t) (token_of token)) (name_in of)) (name_in name)

-- purse: its name, the holder, and nothing
abbrev pub purse_in : List ℕ → List ℕ → List ℕ → Option RollRow
purse_in name of [] = option_and_then (λ p. option_map (λ h. Purse p h) (name_in of)) (name_in name)
purse_in name of (b ∷ bs) = None

-- the row of four fields, by its kind
unfoldable pub row_in : List ℕ → List ℕ → List ℕ → List ℕ → Option RollRow
row_in kind name of token =
    if bytes_eq kind (codes "member") then member_in name of token
    else if bytes_eq kind (codes "holder") then holder_in name of token
    else if bytes_eq kind (codes "purse") then purse_in name of token
    else None

-- the row that a record spells, if it is of one of these forms
unfoldable pub row_of : Fields → Option RollRow
row_of (kind ∷ name ∷ of ∷ token ∷ []) = row_in kind name of token
row_of fields = None

-- ---- when a row is same

-- whether a caller, if there is one, is the clerk of that member
abbrev pub is_clerk : Name → Option Caller → Bool
is_clerk m (Some (caller.Clerk n)) = is_name m n
is_clerk m c = Bool.false

-- whether a caller, if there is one, is that holder
abbrev pub is_holder : Name → Option Caller → Bool
is_holder h (Some (caller.Holder g)) = is_name h g
is_holder h c = Bool.false

-- whether the holder of a purse, if the purse is there, is that one
abbrev pub is_holders : Name → Option Name → Bool
is_holders h None = Bool.false
is_holders h (Some g) = is_name h g

-- whether a row is same: the token is the clerk's of the member; the holder is the member's, and the token its own;
-- the purse is the holder's
unfoldable pub is_same : World → RollRow → Bool
is_same w (Member m t) = is_clerk m (who_of w t)
is_same w (Holder h m t) = is_of m (fmap.get w.holders h) && is_holder h (who_of w t)
is_same w (Purse p h) = is_holders h (option_map (λ (r : Row). r.holder) (fmap.get w.rows p))

-- ---- what is asked of the office for a row that isn't same

-- who asks: the operator for a member, the member's clerk for a holder, and the clerk of the holder's member for a purse,
-- where the holder is there
unfoldable pub asker : World → RollRow → Option Caller
asker w (Member m t) = Some caller.Operator
asker w (Holder h m t) = Some (caller.Clerk m)
asker w (Purse p h) = option_map (λ m. caller.Clerk m) (fmap.get w.holders h)

-- the command
unfoldable pub command_of : RollRow → Command
command_of (Member m t) = NewMember m t
command_of (Holder h m t) = NewHolder h t
command_of (Purse p h) = NewPurse p h
