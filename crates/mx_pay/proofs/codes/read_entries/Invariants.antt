use Rattle.std.proofs.Common.{◌≡◌, ◌-◌}
use Rattle.std.specs.Str.{IsUtf8}
use Rattle.mx_pay.specs.Limits.{most_entries}
use Rattle.mx_pay.specs.Reading.{entries_of}
use Rattle.mx_pay.specs.Log.{none_logged}
use Rattle.mx_pay.proofs.codes.read_entries.Given as goal

abbrev pub invariant-loop-turn : goal.invariant-loop-turn
invariant-loop-turn l = record { utf8 : IsUtf8 l.rest; reads : entries_of (most_entries - l._turn) l.rest l.log ≡ entries_of most_entries l.fn.text none_logged }
