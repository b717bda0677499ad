-- What is printed of books that don't add up.
use Rattle.std.specs.Prelude.{ℕ, List, [], ◌++◌, if◌then◌else◌, codes, flat_map}
use Rattle.mx_book.specs.Totals.{members_totals_of, totals_of}
use Rattle.mx_book.specs.World.{World, Name}
use Rattle.mx_book.specs.declared.values.MemberTotals.{MemberTotals}
use Rattle.mx_report.specs.Even.{is_even_member, is_even_purse, is_even_scheme}

abbrev pub member_line : List ℕ → List ℕ
member_line member = codes "member " ++ member ++ codes ": its sums don't add up\n"

abbrev pub purse_line : List ℕ → List ℕ
purse_line purse = codes "purse " ++ purse ++ codes ": its statement doesn't lead to its balance\n"

-- a line for what isn't even
abbrev pub uneven_member : Name × MemberTotals → List ℕ
uneven_member m = if is_even_member m.1 then [] else member_line m.0

abbrev pub uneven_purse : World → Name → List ℕ
uneven_purse w purse = if is_even_purse w purse then [] else purse_line purse

-- each member whose sums don't add up, and the scheme where its sums don't
abbrev pub uneven_sums : World → List ℕ
uneven_sums w = flat_map uneven_member (members_totals_of w) ++ (if is_even_scheme (totals_of w) then [] else codes "scheme: the sums don't add up\n")
