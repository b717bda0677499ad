use Rattle.std.proofs.Common.{◌≡◌, take}
use Rattle.std.specs.Prelude.{Bool}
use Rattle.std.specs.List.{list_all}
use Rattle.mx_pay.specs.Log.{logged}
use Rattle.mx_book.specs.Reads.{is_archived}
use Rattle.mx_office.proofs.CallLemmas.{SoFar}
use Rattle.mx_office.proofs.archive.may_clear.Given as goal

abbrev pub invariant-loop-place : goal.invariant-loop-place
invariant-loop-place g l = let show = g.B.Book.view in record {
  far : SoFar (show l.fn.book) (show l.book) (λ w. list_all (is_archived w l.fn.purse) (take l.place (logged l.fn.details)) ≡ Bool.true);
}
