-- What edits make of rows.
use Rattle.std.specs.Prelude.{ℕ, ◌*◌, count_by, Bool, true, ◌&&◌, ◌||◌, ◌+◌, nat_lt, List, [], ◌∷◌, Option, Some, None}
use Rattle.std.specs.FinMap as fmap
use Rattle.mx_pay.specs.Limits.{most_entries, most_number}
use Rattle.mx_pay.specs.Names.{name_cmp}
use Rattle.mx_pay.specs.Details.{details_cmp}
use Rattle.mx_pay.specs.Log.{Entries, none_logged, is_within, with_entry}
use Rattle.mx_purse.specs.State.{new_purse}
use Rattle.mx_book.specs.declared.values.Caller.TheVariants.{Clerk, Holder}
use Rattle.mx_book.specs.declared.values.PurseRow.{PurseRow}
use Rattle.mx_book.specs.declared.edits.Edit.{Edit}
use Rattle.mx_book.specs.declared.edits.Edit.TheVariants.{NewMember, SetMember, NewHolder, NewPurse, SetPurse, AddMessage, DropMessage, AddLine, AddLoad, AddRedemption, AddTray, ArchiveTray, Collect, AddSettled}
use Rattle.mx_book.specs.declared.values.Redemption.{Redemption}
use Rattle.mx_book.specs.Under.{under, remake}
use Rattle.mx_book.specs.World.{Name, is_of, results_of, results_but, and_results}
use Rattle.mx_book.specs.Rows.{Rows, line_row}

-- the rows with another row of a purse, where it had one
abbrev pub on_purse : Option PurseRow → Rows → (PurseRow → Rows) → Rows
on_purse None r f = r
on_purse (Some x) r f = f x

-- the member of the holder of a purse
abbrev pub member_at : fmap.FinMap name_cmp Name → Option PurseRow → Option Name
member_at holders None = None
member_at holders (Some x) = fmap.get holders x.holder

-- whether a redemption is of a purse of the member m
abbrev pub is_redeemed_of : fmap.FinMap name_cmp PurseRow → fmap.FinMap name_cmp Name → Name → Name × Name → Bool
is_redeemed_of purses holders m key = is_of m (member_at holders (fmap.get purses key.0))

-- a redemption, collected where it is of a purse of the member m
abbrev pub marked : fmap.FinMap name_cmp PurseRow → fmap.FinMap name_cmp Name → Name → Name × Name → Redemption → Redemption
marked purses holders m key x = record x { collected = x.collected || is_redeemed_of purses holders m key }

-- the rows after an edit
abbrev pub rewritten : Rows → Edit → Rows
rewritten r (NewMember m t) = record r { members = fmap.insert r.members m (record { granted = 0; float = 0 }); tokens = fmap.insert r.tokens t (Clerk m) }
rewritten r (SetMember m granted float) = record r { members = fmap.insert r.members m (record { granted = granted; float = float }) }
rewritten r (NewHolder h m t) = record r { holders = fmap.insert r.holders h m; tokens = fmap.insert r.tokens t (Holder h) }
rewritten r (NewPurse p h) = record r { purses = fmap.insert r.purses p (record { holder = h; purse = new_purse p; next_message = 0 }) }
rewritten r (SetPurse q) = on_purse (fmap.get r.purses q.name) r (λ x. record r { purses = fmap.insert r.purses q.name (record x { purse = q }) })
rewritten r (AddMessage p m) = on_purse (fmap.get r.purses p) r (λ x. record r { purses = fmap.insert r.purses p (record x { next_message = x.next_message + 1 }); inbox = fmap.insert r.inbox (p, x.next_message) m })
rewritten r (DropMessage p n) = record r { inbox = fmap.remove r.inbox (p, n) }
rewritten r (AddLine p l) = record r { lines = fmap.insert r.lines (p, l.number) (line_row l) }
rewritten r (AddLoad p reference amount) = record r { loads = fmap.insert r.loads (p, reference) amount }
rewritten r (AddRedemption p reference amount) = record r { redemptions = fmap.insert r.redemptions (p, reference) (record { amount = amount; collected = Bool.false }) }
rewritten r (AddTray p d) = record r { tray = fmap.insert r.tray (p, d) tt }
rewritten r (ArchiveTray p) = record r { tray = results_but p r.tray; archive = and_results r.archive (fmap.keys (results_of p r.tray)) }
rewritten r (Collect m) = record r { redemptions = remake (marked r.purses r.holders m) r.redemptions }
rewritten r (AddSettled d) = record r { settled = with_entry r.settled d }

-- the rows after edits, in order
abbrev pub all_rewritten : Rows → List Edit → Rows
all_rewritten r [] = r
all_rewritten r (e ∷ es) = all_rewritten (rewritten r e) es

-- how many rows edits may add to the archive
abbrev pub is_archiving : Edit → Bool
is_archiving (ArchiveTray p) = true
is_archiving e = Bool.false

abbrev pub archive_rows : List Edit → ℕ
archive_rows es = most_entries * count_by is_archiving es

-- whether the next message number of a purse can rise
abbrev pub can_rise : Option PurseRow → Bool
can_rise None = true
can_rise (Some x) = nat_lt x.next_message most_number

-- the log of a purse, and the empty one where there is no such purse
abbrev pub log_at : Option PurseRow → Entries
log_at None = none_logged
log_at (Some x) = x.purse.log

-- the results in the tray of a purse
abbrev pub row_tray_of : Rows → Name → Entries
row_tray_of r p = under name_cmp details_cmp p r.tray

-- the entries of a purse's log that lie in its tray
abbrev pub row_laid_of : Rows → Name → Entries
row_laid_of r p = fmap.retain_keys (log_at (fmap.get r.purses p)) (λ d. fmap.contains_key r.tray (p, d))

-- whether the rows have what a write of them needs
abbrev pub able : Rows → Edit → Bool
able r (AddMessage p m) = can_rise (fmap.get r.purses p)
able r (ArchiveTray p) = is_within (row_tray_of r p) (log_at (fmap.get r.purses p))
able r e = true

-- and so for edits, in order
abbrev pub all_able : Rows → List Edit → Bool
all_able r [] = true
all_able r (e ∷ es) = able r e && all_able (rewritten r e) es
