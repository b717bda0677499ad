-- The conditions of a purse as tests, in the order in which code makes them.
use Rattle.std.specs.Prelude.{◌+◌, nat_le, nat_lt, not, ◌&&◌, Bool}
use Rattle.mx_pay.specs.Limits.{most_number, most_entries}
use Rattle.mx_pay.specs.Names.{is_name}
use Rattle.mx_pay.specs.Details.{Details}
use Rattle.mx_pay.specs.Log.{Entries, log_len, has_logged, all_owned}
use Rattle.mx_purse.specs.declared.status.Status.{Status}
use Rattle.mx_purse.specs.declared.status.Status.TheVariants.{EaFrom, EaTo, Epr, Epv, Epa}
use Rattle.mx_purse.specs.State.{State}

-- whether details can be added to a log: they aren't there, and there is room
abbrev pub can_log : Entries → Details → Bool
can_log log d = not (has_logged log d) && not (nat_le most_entries (log_len log))

-- whether a purse meets the conditions of a status
abbrev pub in_status : State → Status → Bool
in_status p EaFrom = nat_le p.lines (most_number + 2)
in_status p EaTo = nat_le p.lines (most_number + 2)
in_status p (Epr d) =
    is_name d.from p.name && nat_lt d.from_seq p.next && nat_le d.value p.balance && can_log p.log d && nat_le p.lines most_number
in_status p (Epv d) =
    is_name d.to p.name && nat_lt d.to_seq p.next && can_log p.log d && nat_le p.lines most_number
in_status p (Epa d) =
    is_name d.from p.name && nat_lt d.from_seq p.next && can_log p.log d && nat_le p.lines (most_number + 1)

-- whether a purse meets all its conditions, where its next number and its log are within their limits
abbrev pub is_purse : State → Bool
is_purse p = nat_le p.balance most_number && in_status p p.status && all_owned p.name p.next p.log
