-- Reports that add up, as those of all books do that commands lead to.
use Rattle.std.specs.Prelude.{◌+◌, ◌^◌, ◌==◌, ◌&&◌, nat_lt, ℕ, Bool, false, List, [], ◌∷◌, Option, Some, None}
use Rattle.std.specs.List.{list_all}
use Rattle.mx_book.specs.Reads.{account_of, purse_names_of}
use Rattle.mx_book.specs.World.{World, Name}
use Rattle.mx_book.specs.declared.values.Account.{Account}
use Rattle.mx_book.specs.declared.values.Line.{Line}
use Rattle.mx_book.specs.declared.values.MemberTotals.{MemberTotals}
use Rattle.mx_book.specs.declared.values.Totals.{Totals}
use Rattle.mx_report.specs.Statement.{own_lines}

-- what was issued is held, under way, lost or redeemed
abbrev pub is_even_scheme : Totals → Bool
is_even_scheme s = (s.balances + s.transit + s.lost + s.redeemed) == s.issued

-- what the member was granted, and what its purses redeemed, is left to it, to be collected or was issued; and it is a sum
-- that a u128 holds
abbrev pub is_even_member : MemberTotals → Bool
is_even_member m =
    nat_lt (m.granted + m.redeemed) (2 ^ 128) && ((m.float + m.uncollected + m.issued) == (m.granted + m.redeemed))

-- the sums of each member and of the scheme add up
abbrev pub is_even_report : List (Name × MemberTotals) → Totals → Bool
is_even_report members scheme = list_all (λ m. is_even_member m.1) members && is_even_scheme scheme

-- the lines are numbered from this number on without gaps, and the last balance is that: this one where there is no line
abbrev pub ends_at : ℕ → ℕ → List Line → ℕ → Bool
ends_at number balance [] last = balance == last
ends_at number balance (l ∷ lines) last = (l.number == number) && ends_at (number + 1) l.balance lines last

-- the lines of a purse are numbered from 1, and the last has the purse's balance, which is 0 where there is none
abbrev pub is_even_statement : List Line → ℕ → Bool
is_even_statement lines balance = ends_at 1 0 lines balance

-- whether lines lead to the balance of an account, which they don't where there is none
abbrev pub is_even_account : List Line → Option Account → Bool
is_even_account lines None = false
is_even_account lines (Some a) = is_even_statement lines a.purse.balance

-- the lines of a purse lead to its balance
abbrev pub is_even_purse : World → Name → Bool
is_even_purse w p = is_even_account (own_lines w p) (account_of w p)

-- and so of each purse
abbrev pub are_even_statements : World → Bool
are_even_statements w = list_all (is_even_purse w) (purse_names_of w)
