-- What the reads of a book give of a World.
use Rattle.std.specs.Prelude.{ℕ, Bool, List, [], map, filter, take, length, Option, Some, None, is_some, option_map, option_and_then, nat_lt, if◌then◌else◌}
use Rattle.std.specs.FinMap as fmap
use Rattle.mx_pay.specs.Names.{name_cmp, is_name}
use Rattle.mx_pay.specs.Details.{Details, details_cmp}
use Rattle.mx_pay.specs.Log.{Entries}
use Rattle.mx_pay.specs.Tokens.{is_token}
use Rattle.mx_purse.specs.declared.message.Message.{Message}
use Rattle.mx_book.specs.declared.values.Caller.{Caller}
use Rattle.mx_book.specs.declared.values.Caller.TheVariants.{Operator}
use Rattle.mx_book.specs.declared.values.MemberRow.{MemberRow}
use Rattle.mx_book.specs.declared.values.HolderRow.{HolderRow}
use Rattle.mx_book.specs.declared.values.Line.{Line}
use Rattle.mx_book.specs.declared.values.Account as given
use Rattle.mx_book.specs.Sums.{sum_values, sum_entries}
use Rattle.mx_book.specs.Under.{under}
use Rattle.mx_purse.specs.State.{State}
use Rattle.mx_book.specs.World.{World, Row, Name, Token, is_of_member, has_room}

-- whose token it is
abbrev pub who_of : World → Token → Option Caller
who_of w t = if is_token t w.operator then Some Operator else fmap.get w.tokens t

-- the grants and the float of a member
abbrev pub member_of : World → Name → Option MemberRow
member_of w m = fmap.get w.members m

-- the names of the purses of a holder, in order
abbrev pub purses_of : World → Name → List Name
purses_of w h = map (λ (e : Name × Row). e.0) (filter (λ (e : Name × Row). is_name h e.1.holder) (fmap.entries w.rows))

-- the member of a holder, and how many purses the holder has
abbrev pub holder_of : World → Name → Option HolderRow
holder_of w h = option_map (λ m. record { member = m; purses = length (purses_of w h) }) (fmap.get w.holders h)

-- a purse's row with the member of its holder
abbrev pub account_with : Row → Name → given.Account
account_with r m = record { holder = r.holder; member = m; purse = r.holding.purse; held = fmap.len r.holding.inbox; next_message = r.holding.next_message }

-- the holder of a purse, the holder's member, the purse, how many messages it holds, and its next number for one
abbrev pub account_of : World → Name → Option given.Account
account_of w p = option_and_then (λ (r : Row). option_map (account_with r) (fmap.get w.holders r.holder)) (fmap.get w.rows p)

-- what f says of the row of a purse, or x where there is none
abbrev pub from_row : {X : Type 0} → X → (Row → X) → Option Row → X
from_row x f None = x
from_row x f (Some r) = f r

-- what f says of a purse that is there, or x where it isn't
abbrev pub of_purse : {X : Type 0} → X → (Row → X) → World → Name → X
of_purse x f w p = from_row x f (fmap.get w.rows p)

-- whether there is a purse of that name
abbrev pub has_purse : World → Name → Bool
has_purse w p = is_some (fmap.get w.rows p)

-- the purse of that name, where it is the holder's
abbrev pub own_purse : World → Name → Name → Option State
own_purse w h p = of_purse None (λ r. if is_name h r.holder then Some r.holding.purse else None) w p

-- whether a message to that purse finds a place
abbrev pub finds_place : World → Name → Bool
finds_place w p = of_purse Bool.false (λ r. has_room r.holding) w p

-- the messages of a purse, by number
abbrev pub inbox_of : World → Name → List (ℕ × Message)
inbox_of = of_purse [] (λ r. fmap.entries r.holding.inbox)

-- the message of a purse under a number
abbrev pub message_of : World → Name → ℕ → Option Message
message_of w p n = of_purse None (λ r. fmap.get r.holding.inbox n) w p

-- the first of these lines that are numbered above `after`, at most `most` of them
abbrev pub page : ℕ → ℕ → List Line → List Line
page after most lines = take most (filter (λ (l : Line). nat_lt after l.number) lines)

-- the first lines of a purse that are numbered above `after`, at most `most` of them
abbrev pub lines_of : World → Name → ℕ → ℕ → List Line
lines_of w p after most = page after most (of_purse [] (λ r. r.holding.lines) w p)

-- the amount of the load of a purse with that reference
abbrev pub load_of : World → Name → Name → Option ℕ
load_of w p reference = of_purse None (λ r. fmap.get r.loads reference) w p

-- the amount of the redemption of a purse with that reference
abbrev pub redemption_of : World → Name → Name → Option ℕ
redemption_of w p reference = of_purse None (λ r. fmap.get r.holding.redemptions reference) w p

-- whether details are archived for a purse
abbrev pub is_archived : World → Name → Details → Bool
is_archived w p d = fmap.contains_key w.archive (p, d)

-- whether details are settled
abbrev pub is_settled : World → Details → Bool
is_settled w d = fmap.contains_key w.settled d

-- the results in the tray of a purse
abbrev pub tray_of : World → Name → Entries
tray_of w p = under name_cmp details_cmp p w.tray

-- the names of the purses, in order
abbrev pub purse_names_of : World → List Name
purse_names_of w = fmap.keys w.rows

-- the names of the members, in order
abbrev pub members_of : World → List Name
members_of w = fmap.keys w.members

-- what the redemptions of a purse come to that aren't collected
abbrev pub uncollected_row : Row → ℕ
uncollected_row r = sum_entries (λ reference amount. if fmap.contains_key r.collected reference then 0 else amount) r.holding.redemptions

-- what the redemptions of the member's purses come to that aren't collected
abbrev pub uncollected_of : World → Name → ℕ
uncollected_of w m = sum_values (λ r. if is_of_member w m r then uncollected_row r else 0) w.rows
