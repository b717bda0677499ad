use Rattle.std.proofs.Common.{◌≡◌, ◌++◌, take, drop}
use Rattle.mx_pay.specs.Places.{put_in}
use Rattle.mx_pay.proofs.log.insert_into.Given as goal

abbrev pub invariant-loop-slot : goal.invariant-loop-slot
invariant-loop-slot l = take l.slot-index l.entries ++ put_in l.carried (drop l.slot-index l.entries) ≡ put_in l.fn.details l.fn.entries
