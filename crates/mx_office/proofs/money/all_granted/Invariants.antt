use Rattle.std.proofs.Common.{◌≡◌, take}
use Rattle.std.specs.Prelude.{sum_by}
use Rattle.mx_book.specs.Reads.{members_of}
use Rattle.mx_office.specs.Decides.{granted_to}
use Rattle.mx_office.proofs.CallLemmas.{SoFar}
use Rattle.mx_office.proofs.money.all_granted.Given as goal

abbrev pub invariant-loop-member : goal.invariant-loop-member
invariant-loop-member g l = let show = g.B.Book.view in record {
  far : SoFar (show l.fn.book) (show l.book) (λ w. (l.member-items ≡ members_of w) × (l.sum ≡ sum_by (granted_to w) (take l.member-index l.member-items)));
}
