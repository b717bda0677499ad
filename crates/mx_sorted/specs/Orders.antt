-- Orders in which keys that compare alike are one.
use Rattle.std.specs.Prelude.{Some, None}
use Rattle.std.proofs.Common.{refl, ap}
use Rattle.std.specs.declared.cmp.Ordering.{Ordering}
use Rattle.std.specs.Option.{option_cmp}
use Rattle.std.specs.FinMap.{IsAntisymmetric}

-- with a key less
pub option_exact : {K : Type 0} (R : K → K → Ordering) → IsAntisymmetric R → IsAntisymmetric (option_cmp R)
option_exact R e None None t = refl
option_exact R e None (Some y) t = absurd (cc)
option_exact R e (Some x) None t = absurd (cc)
option_exact R e (Some x) (Some y) t = ap Some (e x y t)
