-- What the audit has seen of the rows of all tables so far, and what it asks of one row more.
use Rattle.std.specs.Prelude.{◌≡◌, ℕ, ◌+◌, ◌&&◌, nat_le, nat_lt, nat_eq, Bool, true, false, List, [], ◌∷◌, Option, Some, None, is_some, Result, IfOk, if◌then◌else◌, map}
use Rattle.std.specs.List.{list_all}
use Rattle.std.specs.FinMap as fmap
use Rattle.std.specs.FinMap.{FinMap}
use Rattle.mx_pay.specs.Limits.{most_number}
use Rattle.mx_pay.specs.Log.{log_len}
use Rattle.mx_pay.specs.Names.{name_cmp}
use Rattle.mx_purse.specs.declared.message.Message.{Message}
use Rattle.mx_purse.specs.declared.message.Message.TheVariants.{Clear}
use Rattle.mx_book.specs.Limits.{most_messages, most_purses}
use Rattle.mx_book.specs.World.{Name, Token}
use Rattle.mx_book.specs.declared.values.Caller.{Caller}
use Rattle.mx_book.specs.declared.values.Caller.TheVariants.{Operator, Clerk, Holder}
use Rattle.mx_book.specs.declared.values.LineRow.{LineRow}
use Rattle.mx_book.specs.declared.values.MemberRow.{MemberRow}
use Rattle.mx_book.specs.declared.values.PurseRow.{PurseRow}
use Rattle.mx_audit.specs.declared.seen.HolderSeen.{HolderSeen}
use Rattle.mx_audit.specs.declared.seen.PurseSeen.{PurseSeen}

pub record Seen : Type 0 where
  -- the token of the first row of tokens, which has to be the operator's
  pub operator : Option Token
  -- what was granted to the members
  pub granted : ℕ
  -- whether each member has a token
  pub members : FinMap name_cmp Bool
  pub holders : FinMap name_cmp HolderSeen
  pub purses : FinMap name_cmp PurseSeen

abbrev pub nothing_seen : Seen
nothing_seen = record { operator = None; granted = 0; members = fmap.empty; holders = fmap.empty; purses = fmap.empty }

-- a map with another value at a name, where there is one
abbrev pub changed_where : {V : Type 0} → FinMap name_cmp V → Name → (V → V) → Option V → FinMap name_cmp V
changed_where m k f None = m
changed_where m k f (Some v) = fmap.insert m k (f v)

abbrev pub changed_at : {V : Type 0} → FinMap name_cmp V → Name → (V → V) → FinMap name_cmp V
changed_at m k f = changed_where m k f (fmap.get m k)

-- what f says of what is there, and false where nothing is
abbrev pub so_where : {V : Type 0} → (V → Bool) → Option V → Bool
so_where f None = false
so_where f (Some v) = f v

-- ---- one row more of each table: whether it fits what was seen, and what is seen then

abbrev pub fits_member : Seen → Name × MemberRow → Bool
fits_member s e = nat_le (s.granted + e.1.granted) most_number

abbrev pub with_member : Seen → Name × MemberRow → Seen
with_member s e = record s { granted = s.granted + e.1.granted; members = fmap.insert s.members e.0 false }

abbrev pub fits_holder : Seen → Name × Name → Bool
fits_holder s e = fmap.contains_key s.members e.1

abbrev pub with_holder : Seen → Name × Name → Seen
with_holder s e = record s { holders = fmap.insert s.holders e.0 (record { has_token = false; purses = 0 }) }

-- the first token is the operator's, and each other that of a member or a holder that is there
abbrev pub fits_caller : Seen → Option Token → Caller → Bool
fits_caller s None Operator = true
fits_caller s None (Clerk m) = false
fits_caller s None (Holder h) = false
fits_caller s (Some t) Operator = false
fits_caller s (Some t) (Clerk m) = fmap.contains_key s.members m
fits_caller s (Some t) (Holder h) = fmap.contains_key s.holders h

abbrev pub fits_token : Seen → Token × Caller → Bool
fits_token s e = fits_caller s s.operator e.1

abbrev pub with_token : Seen → Token × Caller → Seen
with_token s (t, Operator) = record s { operator = Some t }
with_token s (t, Clerk m) = record s { members = changed_at s.members m (λ _. true) }
with_token s (t, Holder h) = record s { holders = changed_at s.holders h (λ x. record x { has_token = true }) }

abbrev pub fits_purse : Seen → Name × PurseRow → Bool
fits_purse s e = fmap.contains_key s.holders e.1.holder

abbrev pub with_purse : Seen → Name × PurseRow → Seen
with_purse s e = record s {
  holders = changed_at s.holders e.1.holder (λ x. record x { purses = x.purses + 1 });
  purses = fmap.insert s.purses e.0 (record { next_message = e.1.next_message; line_count = e.1.purse.lines; messages = 0; lines = 0 });
}

-- a clear has something to clear
abbrev pub is_filled : Message → Bool
is_filled (Clear set) = nat_lt 0 (log_len set)
is_filled message = true

abbrev pub fits_message : Seen → (Name × ℕ) × Message → Bool
fits_message s e = so_where (λ x. nat_lt e.0.1 x.next_message) (fmap.get s.purses e.0.0) && is_filled e.1

abbrev pub with_message : Seen → (Name × ℕ) × Message → Seen
with_message s e = record s { purses = changed_at s.purses e.0.0 (λ x. record x { messages = x.messages + 1 }) }

abbrev pub fits_line : Seen → (Name × ℕ) × LineRow → Bool
fits_line s e = so_where (λ x. nat_le 1 e.0.1 && nat_le e.0.1 x.line_count) (fmap.get s.purses e.0.0)

abbrev pub with_line : Seen → (Name × ℕ) × LineRow → Seen
with_line s e = record s { purses = changed_at s.purses e.0.0 (λ x. record x { lines = x.lines + 1 }) }

-- what is in a tray or archived, and each load and redemption, is of a purse that is there
abbrev pub has_purse : Seen → Name → Bool
has_purse s p = fmap.contains_key s.purses p

-- ---- in the end

abbrev pub is_whole_holder : HolderSeen → Bool
is_whole_holder x = x.has_token && nat_le x.purses most_purses

abbrev pub is_whole_purse : PurseSeen → Bool
is_whole_purse x = nat_le x.messages most_messages && nat_eq x.lines x.line_count

-- the operator, each member and each holder has a token, no holder has more than 64 purses, and no purse more than 32
-- messages or another number of lines than it says
abbrev pub is_whole : Seen → Bool
is_whole s =
    is_some s.operator && list_all (λ b. b) (map (λ (e : Name × Bool). e.1) (fmap.entries s.members))
    && list_all is_whole_holder (map (λ (e : Name × HolderSeen). e.1) (fmap.entries s.holders))
    && list_all is_whole_purse (map (λ (e : Name × PurseSeen). e.1) (fmap.entries s.purses))

-- ---- all rows of a table

-- what is seen after these rows, if each fits what was seen before it
abbrev pub seen_all : {E : Type 0} → (Seen → E → Bool) → (Seen → E → Seen) → Seen → List E → Option Seen
seen_all fits next s [] = Some s
seen_all fits next s (e ∷ es) = if fits s e then seen_all fits next (next s e) es else None

-- ---- what a call says: whether the row fits, and what is seen after it. A row that doesn't fit changes nothing.
abbrev pub Sees : {E : Type 0} → Result Bool E → Seen → Seen → Bool → Seen → Type 0
Sees result old new fits next = IfOk result (λ fine. (fine ≡ fits) × (new ≡ (if fits then next else old)))
