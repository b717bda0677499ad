-- What a decision is for a World, and the edits of a decision on a purse.
use Rattle.std.specs.Prelude.{◌≡◌, ℕ, ◌-◌, if◌then◌else◌, List, [], ◌∷◌, ◌++◌, length, Option, Some, None, map, option_map, unwrap_or}
use Rattle.std.specs.FinMap as fmap
use Rattle.mx_pay.specs.Details.{Details}
use Rattle.mx_purse.specs.State.{State}
use Rattle.mx_purse.specs.declared.message.Message.{Message}
use Rattle.mx_book.specs.declared.edits.Edit.{Edit}
use Rattle.mx_book.specs.declared.edits.Edit.TheVariants.{SetMember, SetPurse, AddLine, AddMessage, AddLoad, AddRedemption, AddTray, AddSettled}
use Rattle.mx_book.specs.declared.values.Line.{Line}
use Rattle.mx_book.specs.declared.values.LineKind.TheVariants as kind
use Rattle.mx_book.specs.declared.values.MemberRow.{MemberRow}
use Rattle.mx_book.specs.World.{World, Name, is_of, is_of_member}
use Rattle.mx_book.specs.Reads.{of_purse, finds_place, purses_of}
use Rattle.mx_book.specs.Edits.{Fits, all_edited}
use Rattle.mx_office.specs.declared.values.Decided.{Decided}
use Rattle.mx_office.specs.Step.{Deed, world_after, is_kept, listed, money_line, payment_line}

-- the reply of what is done, and edits that fit the World and lead to what is done, with what is sent
pub record Decides (w : World) (to : Deed World) (d : Decided) : Type 0 where
  pub reply : d.reply ≡ to.reply
  pub fits : Fits w d.edits
  pub leads : all_edited w d.edits ≡ world_after to

-- how many purses a holder of a member has, and nothing where the member has no such holder
abbrev pub purse_count : World → Name → Name → Option ℕ
purse_count w m h = if is_of m (fmap.get w.holders h) then Some (length (purses_of w h)) else None

-- a message that was sent, where it finds a place
abbrev pub placed : World → Option (Name × Message) → Option (Name × Message)
placed w None = None
placed w (Some m) = if finds_place w m.0 then Some m else None

-- the edits for a purse as it is now and its new lines
abbrev pub purse_and_lines : State → List Line → List Edit
purse_and_lines q ls = SetPurse q ∷ map (λ l. AddLine q.name l) ls

-- an edit for a message
abbrev pub put_edits : Option (Name × Message) → List Edit
put_edits None = []
put_edits (Some m) = AddMessage m.0 m.1 ∷ []

-- the edits for a purse as it is now, its new line, and a message that finds a place
abbrev pub purse_edits : State → Option Line → Option (Name × Message) → List Edit
purse_edits q line m = purse_and_lines q (listed line) ++ put_edits m

-- an entry of a purse's log that was read, where it isn't kept as a result yet
abbrev pub not_kept : World → Name → Option Details → Option Details
not_kept w p None = None
not_kept w p (Some d) = if is_kept w (p, d) then None else Some d

-- the edits for a purse as it is now, its new line, and a result that isn't kept yet
abbrev pub read_edits : State → Option Line → Option Details → List Edit
read_edits q line None = purse_and_lines q (listed line)
read_edits q line (Some d) = purse_and_lines q (listed line) ++ AddTray q.name d ∷ []

-- how much a member was granted, and nothing where there is no such member
abbrev pub granted_to : World → Name → ℕ
granted_to w m = unwrap_or (option_map (λ (row : MemberRow). row.granted) (fmap.get w.members m)) 0

-- the purse of that name, where it is of a holder of the member
abbrev pub member_purse : World → Name → Name → Option State
member_purse w m p = of_purse None (λ r. if is_of_member w m r then Some r.holding.purse else None) w p

-- the edits of a load: the purse as it is now, its line, the load, and the member's row
abbrev pub load_edits : State → ℕ → Name → Name → MemberRow → List Edit
load_edits q amount reference m row =
    purse_and_lines q (money_line q kind.Loaded amount reference ∷ []) ++ AddLoad q.name reference amount ∷ SetMember m row.granted (row.float - amount) ∷ []

-- the edits of a redemption: the purse as it is now, its lines, and the redemption
abbrev pub redeem_edits : State → Option Line → ℕ → Name → List Edit
redeem_edits q logged amount reference =
    purse_and_lines q (listed logged ++ money_line q kind.Redeemed amount reference ∷ []) ++ AddRedemption q.name reference amount ∷ []

-- the edits of a settlement: the purse as it is now, its line, and the settled details
abbrev pub settlement_edits : State → Details → List Edit
settlement_edits q d = purse_and_lines q (payment_line q kind.Settled d ∷ []) ++ AddSettled d ∷ []
