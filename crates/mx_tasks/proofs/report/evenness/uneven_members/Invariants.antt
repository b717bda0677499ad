use Rattle.std.proofs.Common.{◌≡◌, ◌++◌, drop, flat_map, string_bytes}
use Rattle.mx_tasks.specs.Evenness.{uneven_member}
use Rattle.mx_tasks.proofs.report.evenness.uneven_members.Given as goal

-- the lines so far, and those of the members to come
abbrev pub invariant-loop-member : goal.invariant-loop-member
invariant-loop-member l = string_bytes l.text ++ flat_map uneven_member (drop l.member-index l.fn.members) ≡ flat_map uneven_member l.fn.members
