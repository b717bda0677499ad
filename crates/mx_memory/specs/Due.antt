-- The index of the redemptions that members haven't collected yet.
use Rattle.std.specs.Prelude.{◌≡◌, ℕ, Bool, true, not, ◌&&◌, List, [], ◌∷◌, Option, Some, None, IsSome}
use Rattle.std.specs.FinMap as fmap
use Rattle.std.specs.FinSet.{FinSet}
use Rattle.mx_pay.specs.Names.{name_cmp}
use Rattle.mx_book.specs.declared.edits.Edit.{Edit}
use Rattle.mx_book.specs.declared.edits.Edit.TheVariants.{NewHolder, NewPurse, AddRedemption}
use Rattle.mx_book.specs.declared.values.PurseRow.{PurseRow}
use Rattle.mx_book.specs.declared.values.Redemption.{Redemption}
use Rattle.mx_book.specs.Index.{index_cmp, IsIndex, is_met}
use Rattle.mx_book.specs.RowEdits.{is_redeemed_of, rewritten}
use Rattle.mx_book.specs.Rows.{Rows, NoStray}
use Rattle.mx_book.specs.Under.{pair_cmp}
use Rattle.mx_book.specs.World.{Name}

-- the order of the index: by member, and then by purse and reference
abbrev pub due_cmp : Name × Option (Name × Name) → Name × Option (Name × Name) → Rattle.std.specs.declared.cmp.Ordering.Ordering
due_cmp = index_cmp (pair_cmp name_cmp name_cmp)

-- whether a redemption is there, isn't collected, and is of a purse of the member
abbrev pub is_due : fmap.FinMap name_cmp PurseRow → fmap.FinMap name_cmp Name → fmap.FinMap (pair_cmp name_cmp name_cmp) Redemption → Name → Name × Name → Bool
is_due purses holders redemptions m k = is_met (λ (x : Redemption). not x.collected) (fmap.get redemptions k) && is_redeemed_of purses holders m k

-- exactly those redemptions are under each member, and each purse's holder and each redemption's purse are there
pub record IsTied (purses : fmap.FinMap name_cmp PurseRow) (holders : fmap.FinMap name_cmp Name) (redemptions : fmap.FinMap (pair_cmp name_cmp name_cmp) Redemption) (due : FinSet due_cmp) : Type 0 where
  pub under : IsIndex (pair_cmp name_cmp name_cmp) (is_due purses holders redemptions) due
  pub known : (p : Name) (x : PurseRow) → fmap.get purses p ≡ Some x → IsSome (fmap.get holders x.holder)
  pub proper : NoStray name_cmp purses redemptions

-- the index with a redemption, where its purse has a member
abbrev pub owed : FinSet due_cmp → Option Name → Name × Name → FinSet due_cmp
owed due None k = due
owed due (Some m) k = fmap.insert due (m, Some k) tt

-- whether a new holder and a new purse are new, and what they and a redemption stand under is there
abbrev pub is_fit : Rows → Edit → Bool
is_fit r (NewHolder h m t) = not (fmap.contains_key r.holders h)
is_fit r (NewPurse p h) = not (fmap.contains_key r.purses p) && fmap.contains_key r.holders h
is_fit r (AddRedemption p reference amount) = fmap.contains_key r.purses p
is_fit r e = true

-- and so for edits, in order
abbrev pub all_fit : Rows → List Edit → Bool
all_fit r [] = true
all_fit r (e ∷ es) = is_fit r e && all_fit (rewritten r e) es

-- the amount of a redemption, and 0 where there is none
abbrev pub amount_at : Option Redemption → ℕ
amount_at None = 0
amount_at (Some x) = x.amount

-- the amount of the redemption of a key of the index
abbrev pub amount_due : fmap.FinMap (pair_cmp name_cmp name_cmp) Redemption → Option (Name × Name) → ℕ
amount_due redemptions None = 0
amount_due redemptions (Some k) = amount_at (fmap.get redemptions k)
