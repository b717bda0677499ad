-- What always holds of a purse holds of a new one.
use Rattle.std.proofs.Common.{◌≡◌, ℕ, false, List, arith}
use Rattle.std.specs.Prelude.{IsTrue}
use Rattle.mx_pay.specs.Names.{is_name_text}
use Rattle.mx_pay.specs.Log.{has_logged, none_logged}
use Rattle.mx_pay.proofs.SameLemmas.{has-none_logged, none_valid}
use Rattle.mx_purse.specs.State.{IsPurse, new_purse}

-- a new purse meets the conditions of a purse
pub new_is : (name : List ℕ) → IsTrue (is_name_text name) → IsPurse (new_purse name)
new_is name text = record {
  name = text;
  balance = omega arith;
  next = omega arith;
  status = omega arith;
  details = tt;
  log = none_valid;
  entries = λ e there. let no : has_logged none_logged e ≡ false = has-none_logged e in cc;
}
