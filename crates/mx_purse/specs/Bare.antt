-- A purse without its log, and one with it again.
use Rattle.mx_pay.specs.Log.{Entries}
use Rattle.mx_purse.specs.State.{State}
use Rattle.mx_purse.specs.declared.purse.bare.BarePurse.{BarePurse}

-- the parts of a purse but its log
abbrev pub bare_of : State → BarePurse
bare_of p = record { name = p.name; balance = p.balance; next = p.next; status = p.status; lines = p.lines }

-- the purse of these parts with this log
abbrev pub with_log : BarePurse → Entries → State
with_log b log = record { name = b.name; balance = b.balance; next = b.next; status = b.status; log = log; lines = b.lines }
