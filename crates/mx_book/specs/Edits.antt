-- What edits make of a World, and when they fit it.
use Rattle.std.specs.Prelude.{◌≡◌, ◌<◌, Bool, List, [], ◌∷◌, ◌++◌, None, IsSome, IsNone, IsSomeAnd}
use Rattle.std.specs.FinMap as fmap
use Rattle.mx_book.specs.Limits.{most_messages}
use Rattle.mx_pay.specs.Limits.{most_number}
use Rattle.mx_pay.specs.Details.{Details}
use Rattle.mx_pay.specs.Log.{has_logged, with_entry}
use Rattle.mx_book.specs.declared.values.Caller.TheVariants.{Clerk, Holder}
use Rattle.mx_book.specs.declared.edits.Edit.{Edit}
use Rattle.mx_book.specs.declared.edits.Edit.TheVariants.{NewMember, SetMember, NewHolder, NewPurse, SetPurse, AddMessage, DropMessage, AddLine, AddLoad, AddRedemption, AddTray, ArchiveTray, Collect, AddSettled}
use Rattle.mx_book.specs.World.{World, delivered, new_row, set_row, change_row, change_holding, all_collected, with_archived}
use Rattle.mx_book.specs.Reads.{who_of, is_settled}
use Rattle.mx_book.specs.Conditions.{IsWorld, AreNumbered}

-- the World after an edit
abbrev pub edited : World → Edit → World
edited w (NewMember m t) = record w { members = fmap.insert w.members m (record { granted = 0; float = 0 }); tokens = fmap.insert w.tokens t (Clerk m) }
edited w (SetMember m granted float) = record w { members = fmap.insert w.members m (record { granted = granted; float = float }) }
edited w (NewHolder h m t) = record w { holders = fmap.insert w.holders h m; tokens = fmap.insert w.tokens t (Holder h) }
edited w (NewPurse p h) = set_row w p (new_row h p)
edited w (SetPurse q) = change_holding w q.name (λ a. record a { purse = q })
edited w (AddMessage p m) = change_holding w p (λ a. delivered a m)
edited w (DropMessage p n) = change_holding w p (λ a. record a { inbox = fmap.remove a.inbox n })
edited w (AddLine p l) = change_holding w p (λ a. record a { lines = a.lines ++ l ∷ [] })
edited w (AddLoad p reference amount) = change_row w p (λ r. record r { loads = fmap.insert r.loads reference amount })
edited w (AddRedemption p reference amount) = change_holding w p (λ a. record a { redemptions = fmap.insert a.redemptions reference amount })
edited w (AddTray p d) = record w { tray = fmap.insert w.tray (p, d) tt }
edited w (ArchiveTray p) = with_archived w p
edited w (Collect m) = all_collected w m
edited w (AddSettled d) = record w { settled = with_entry w.settled d }

-- the rows that an edit names are there, those that it adds are new, and its own condition holds: a message
-- finds a place, a line is numbered as the next one, a result is in neither the tray nor the archive, a tray that is
-- archived is a part of its purse's log, and details that are settled weren't
abbrev pub Suits : World → Edit → Type 0
Suits w (NewMember m t) = IsNone (fmap.get w.members m) × IsNone (who_of w t)
Suits w (SetMember m granted float) = IsSome (fmap.get w.members m)
Suits w (NewHolder h m t) = IsNone (fmap.get w.holders h) × IsSome (fmap.get w.members m) × IsNone (who_of w t)
Suits w (NewPurse p h) = (fmap.get w.rows p ≡ None) × IsSome (fmap.get w.holders h)
Suits w (SetPurse q) = IsSome (fmap.get w.rows q.name)
Suits w (AddMessage p m) = IsSomeAnd (fmap.get w.rows p) (λ r. (fmap.len r.holding.inbox < most_messages) × (r.holding.next_message < most_number))
Suits w (DropMessage p n) = IsSomeAnd (fmap.get w.rows p) (λ r. IsSome (fmap.get r.holding.inbox n))
Suits w (AddLine p l) = IsSomeAnd (fmap.get w.rows p) (λ r. AreNumbered 1 (r.holding.lines ++ l ∷ []))
Suits w (AddLoad p reference amount) = IsSomeAnd (fmap.get w.rows p) (λ r. IsNone (fmap.get r.loads reference))
Suits w (AddRedemption p reference amount) = IsSomeAnd (fmap.get w.rows p) (λ r. IsNone (fmap.get r.holding.redemptions reference))
Suits w (AddTray p d) = IsSome (fmap.get w.rows p) × (fmap.contains_key w.tray (p, d) ≡ Bool.false) × (fmap.contains_key w.archive (p, d) ≡ Bool.false)
Suits w (ArchiveTray p) = IsSomeAnd (fmap.get w.rows p) (λ r. (d : Details) → fmap.contains_key w.tray (p, d) ≡ Bool.true → has_logged r.holding.purse.log d ≡ Bool.true)
Suits w (Collect m) = IsSome (fmap.get w.members m)
Suits w (AddSettled d) = is_settled w d ≡ Bool.false

-- the World after edits, in order
abbrev pub all_edited : World → List Edit → World
all_edited w [] = w
all_edited w (e ∷ es) = all_edited (edited w e) es

-- each edit suits what stands after those before it
abbrev pub AllSuit : World → List Edit → Type 0
AllSuit w [] = Unit {0}
AllSuit w (e ∷ es) = Suits w e × AllSuit (edited w e) es

-- edits fit a World: each suits what stands after those before it, and what stands after the last is a World
pub record Fits (w : World) (es : List Edit) : Type 0 where
  pub each : AllSuit w es
  pub end : IsWorld (all_edited w es)
