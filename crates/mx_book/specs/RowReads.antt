-- What the reads of a book give, from its rows.
use Rattle.std.specs.Prelude.{ℕ, Bool, ◌&&◌, List, map, filter, take, length, Option, Some, None, option_map, option_and_then, nat_lt, if◌then◌else◌}
use Rattle.std.specs.Option.{option_map_or}
use Rattle.std.specs.FinMap as fmap
use Rattle.mx_pay.specs.Names.{name_cmp, is_name}
use Rattle.mx_pay.specs.Details.{Details}
use Rattle.mx_pay.specs.Tokens.{is_token}
use Rattle.mx_pay.specs.Limits.{most_number}
use Rattle.mx_purse.specs.State.{State}
use Rattle.mx_purse.specs.declared.message.Message.{Message}
use Rattle.mx_book.specs.Limits.{most_messages}
use Rattle.mx_book.specs.declared.values.Scope.{Scope}
use Rattle.mx_book.specs.declared.values.Scope.TheVariants.{Scheme, Member}
use Rattle.mx_book.specs.declared.values.Caller.{Caller}
use Rattle.mx_book.specs.declared.values.Caller.TheVariants.{Operator}
use Rattle.mx_book.specs.declared.values.PurseRow.{PurseRow}
use Rattle.mx_book.specs.declared.values.LineRow.{LineRow}
use Rattle.mx_book.specs.declared.values.HolderRow.{HolderRow}
use Rattle.mx_book.specs.declared.values.Line.{Line}
use Rattle.mx_book.specs.declared.values.Account as given
use Rattle.mx_book.specs.World.{Name, Token, is_of}
use Rattle.mx_book.specs.declared.values.Redemption.{Redemption}
use Rattle.mx_book.specs.Sums.{sum_entries}
use Rattle.mx_book.specs.Rows.{Rows, line_at}
use Rattle.mx_book.specs.RowEdits.{member_at}

-- whose token it is
abbrev pub row_who_of : Rows → Token → Option Caller
row_who_of r t = if is_token t r.operator then Some Operator else fmap.get r.tokens t

-- the purses of a holder, in order
abbrev pub purse_rows_of : Name → List (Name × PurseRow) → List (Name × PurseRow)
purse_rows_of h = filter (λ (e : Name × PurseRow). is_name h e.1.holder)

-- the names of the purses of a holder, in order
abbrev pub row_purses_of : Rows → Name → List Name
row_purses_of r h = map (λ (e : Name × PurseRow). e.0) (purse_rows_of h (fmap.entries r.purses))

-- the member of a holder, and how many purses the holder has
abbrev pub row_holder_of : Rows → Name → Option HolderRow
row_holder_of r h = option_map (λ m. record { member = m; purses = length (purse_rows_of h (fmap.entries r.purses)) }) (fmap.get r.holders h)

-- the rows of a purse, in order
abbrev pub of_name : {K V : Type 0} → Name → List ((Name × K) × V) → List ((Name × K) × V)
of_name {K} {V} p = filter (λ (e : (Name × K) × V). is_name p e.0.0)

-- a purse's row with the member of its holder, and how many messages lie in the inbox
abbrev pub row_account_with : Rows → Name → PurseRow → Name → given.Account
row_account_with r p x m = record { holder = x.holder; member = m; purse = x.purse; held = length (of_name p (fmap.entries r.inbox)); next_message = x.next_message }

-- the holder of a purse, the holder's member, the purse, how many messages it holds, and its next number for one
abbrev pub row_account_of : Rows → Name → Option given.Account
row_account_of r p = option_and_then (λ (x : PurseRow). option_map (row_account_with r p x) (fmap.get r.holders x.holder)) (fmap.get r.purses p)

-- the purse of that name, where it is the holder's
abbrev pub row_own_purse : Rows → Name → Name → Option State
row_own_purse r h p = option_and_then (λ (x : PurseRow). if is_name h x.holder then Some x.purse else None) (fmap.get r.purses p)

-- whether a message to that purse finds a place
abbrev pub row_finds_place : Rows → Name → Bool
row_finds_place r p = option_map_or (λ (x : PurseRow). nat_lt (length (of_name p (fmap.entries r.inbox))) most_messages && nat_lt x.next_message most_number) (fmap.get r.purses p) Bool.false

-- the messages of a purse, by number
abbrev pub row_inbox_of : Rows → Name → List (ℕ × Message)
row_inbox_of r p = map (λ (e : (Name × ℕ) × Message). (e.0.1, e.1)) (of_name p (fmap.entries r.inbox))

-- the line of a row under its key
abbrev pub line_of_row : (Name × ℕ) × LineRow → Line
line_of_row e = line_at (e.0.1, e.1)

-- the first lines of a purse that are numbered above `after`, at most `most` of them
abbrev pub row_lines_of : Rows → Name → ℕ → ℕ → List Line
row_lines_of r p after most = map line_of_row (take most (filter (λ (e : (Name × ℕ) × LineRow). is_name p e.0.0 && nat_lt after e.0.1) (fmap.entries r.lines)))

-- the names of the purses, in order
abbrev pub row_purse_names_of : Rows → List Name
row_purse_names_of r = fmap.keys r.purses

-- the names of the members, in order
abbrev pub row_members_of : Rows → List Name
row_members_of r = fmap.keys r.members

-- the amount of the load of a purse with that reference
abbrev pub row_load_of : Rows → Name → Name → Option ℕ
row_load_of r p reference = fmap.get r.loads (p, reference)

-- the amount of the redemption of a purse with that reference
abbrev pub row_redemption_of : Rows → Name → Name → Option ℕ
row_redemption_of r p reference = option_map (λ (x : Redemption). x.amount) (fmap.get r.redemptions (p, reference))

-- whether details are archived for a purse
abbrev pub row_is_archived : Rows → Name → Details → Bool
row_is_archived r p d = fmap.contains_key r.archive (p, d)

-- whether details are settled
abbrev pub row_is_settled : Rows → Details → Bool
row_is_settled r d = fmap.contains_key r.settled d

-- whether a purse counts: each for the whole scheme, and for a member those of its holders
abbrev pub is_counted : fmap.FinMap name_cmp Name → Scope → Option PurseRow → Bool
is_counted holders Scheme x = Bool.true
is_counted holders (Member m) x = is_of m (member_at holders x)

-- a number of a row of a purse, where the purse counts
abbrev pub counted_of : {V : Type 0} → fmap.FinMap name_cmp PurseRow → fmap.FinMap name_cmp Name → Scope → (V → ℕ) → Name × Name → V → ℕ
counted_of purses holders scope f key x = if is_counted holders scope (fmap.get purses key.0) then f x else 0

-- what a redemption comes to that isn't collected
abbrev pub uncollected_amount : Redemption → ℕ
uncollected_amount x = if x.collected then 0 else x.amount

-- what the redemptions of the purses that count come to that aren't collected
abbrev pub row_uncollected_of : Rows → Scope → ℕ
row_uncollected_of r scope = sum_entries (counted_of r.purses r.holders scope uncollected_amount) r.redemptions
