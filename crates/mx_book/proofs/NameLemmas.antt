-- Names that are the same, and maps by name.
use Rattle.std.proofs.Common.{◌≡◌, ℕ, true, Some, arith}
use Rattle.std.specs.Ordering.{nat_cmp, eq_by_cmp}
use Rattle.std.specs.Cmp.{IsTotalOrder}
use Rattle.std.specs.Cmp.Lexicographic.{nat_list_cmp_total}
use Rattle.std.specs.FinMap as fmap
use Rattle.std.specs.FinMap.{IsAntisymmetric, nat_cmp-IsAntisymmetric, slice_cmp-IsAntisymmetric}
use Rattle.mx_pay.specs.Names.{name_cmp}
use Rattle.mx_book.specs.World.{Name}
use Rattle.mx_pay.proofs.TestLemmas.{is_equal}
pub use Rattle.mx_pay.proofs.SameLemmas.{same_name, name_itself}

pub names_total : IsTotalOrder name_cmp
names_total = nat_list_cmp_total

pub names_exact : IsAntisymmetric name_cmp
names_exact = slice_cmp-IsAntisymmetric nat_cmp-IsAntisymmetric

pub same_number : (m n : ℕ) → eq_by_cmp nat_cmp m n ≡ true → m ≡ n
same_number m n t = nat_cmp-IsAntisymmetric m n (is_equal _ t)

pub get-inserted : {X : Type 0} (m : fmap.FinMap name_cmp X) (p : Name) (x : X) → fmap.get (fmap.insert m p x) p ≡ Some x
get-inserted m p x = grind (arith, fmap.gets, names_total, name_itself p)
