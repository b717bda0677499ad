-- The tests of what always holds of a purse, and what they mean.
use Rattle.std.proofs.Common.{◌≡◌, ◌≤◌, Bool, true, false, sym, ◌∙◌, arith}
use Rattle.std.proofs.lemmas.Bool.{leb-true, le-leb}
use Rattle.std.specs.Prelude.{nat_le, IfSome, IsTrue, ◌↔◌}
use Rattle.std.specs.FinMap as fmap
use Rattle.std.proofs.lemmas.Bool.Decides.{nat_tests}
use Rattle.mx_pay.specs.Limits.{most_number}
use Rattle.mx_pay.specs.Names.{is_name_text}
use Rattle.mx_pay.specs.Details.{Details, IsDetails}
use Rattle.mx_pay.specs.Log.{IsLogValue, logged, owns, all_owned}
use Rattle.mx_pay.proofs.SameLemmas.{same_name, names_alike, one_of, all_of}
use Rattle.mx_purse.specs.declared.status.Status.{Status}
use Rattle.mx_purse.specs.declared.status.Status.TheVariants.{EaFrom, EaTo, Epr, Epv, Epa}
use Rattle.mx_purse.specs.State.{State, IsPurse, details_of, IsInStatus, IsOwnEntry}
use Rattle.mx_purse.specs.Conditions.{in_status, is_purse}

-- what the test of a status means
status_means : (p : State) (s : Status) → in_status p s ≡ true → IsInStatus p s
status_means p EaFrom h = leb-true _ _ h
status_means p EaTo h = leb-true _ _ h
status_means p (Epr d) h = grind (arith, nat_tests, same_name d.from p.name)
status_means p (Epv d) h = grind (arith, nat_tests, same_name d.to p.name)
status_means p (Epa d) h = grind (arith, nat_tests, same_name d.from p.name)

-- a status that the purse meets passes its test
status_tests : (p : State) (s : Status) → IsInStatus p s → in_status p s ≡ true
status_tests p EaFrom h = le-leb _ _ h
status_tests p EaTo h = le-leb _ _ h
status_tests p (Epr d) h = grind (arith, nat_tests, names_alike d.from p.name)
status_tests p (Epv d) h = grind (arith, nat_tests, names_alike d.to p.name)
status_tests p (Epa d) h = grind (arith, nat_tests, names_alike d.from p.name)

-- what the test of an entry means
owns_means : (p : State) (d : Details) → owns p.name p.next d ≡ true → IsOwnEntry p d
owns_means p d h = grind (arith, nat_tests, same_name d.from p.name, same_name d.to p.name)

-- an entry of the purse passes its test
owns_tests : (p : State) (d : Details) → IsOwnEntry p d → owns p.name p.next d ≡ true
owns_tests p d h = grind (arith, nat_tests, names_alike d.from p.name, names_alike d.to p.name)

-- what the types of a purse's parts say of them
pub record AreParts (p : State) : Type 0 where
  pub name : IsTrue (is_name_text p.name)
  pub next : p.next ≤ most_number
  pub details : IfSome (details_of p.status) IsDetails
  pub log : IsLogValue p.log

-- a purse of such parts that passes the tests meets the conditions
means_purse : (p : State) → AreParts p → is_purse p ≡ true → IsPurse p
means_purse p parts h =
    let all : (nat_le p.balance most_number ≡ true) × (in_status p p.status ≡ true) × (all_owned p.name p.next p.log ≡ true) = grind arith in
    record {
      name = parts.name;
      balance = leb-true _ _ all.0;
      next = parts.next;
      status = status_means p p.status all.1;
      details = parts.details;
      log = parts.log;
      entries = λ d there. owns_means p d (one_of (owns p.name p.next) d (logged p.log) all.2 (sym (fmap.contains_key-keys p.log d) ∙ there));
    }

-- a purse that meets the conditions passes the tests
tests_purse : (p : State) → IsPurse p → is_purse p ≡ true
tests_purse p h =
    let status = status_tests p p.status h.status in
    let entries = all_of (owns p.name p.next) (logged p.log) (λ d there. owns_tests p d (h.entries d (fmap.contains_key-keys p.log d ∙ there))) in
    grind (arith, nat_tests, h.balance)

-- an answer of the tests says whether the conditions hold, where it is true only of such parts
pub whole_iff : (p : State) (answer : Bool) → answer ≡ is_purse p → (answer ≡ true → AreParts p) → IsTrue answer ↔ IsPurse p
whole_iff p answer is parts = (λ yes. means_purse p (parts yes) (sym is ∙ yes), λ whole. is ∙ tests_purse p whole)

-- the tests as code makes them: one that fails ends them, and else the last decides
pub last_decides : (p : State) (owned : Bool) → p.balance ≤ most_number → in_status p p.status ≡ true → owned ≡ all_owned p.name p.next p.log → owned ≡ is_purse p
last_decides p owned low fits is = grind (arith, nat_tests)

pub balance_fails : (p : State) → nat_le p.balance most_number ≡ false → is_purse p ≡ false
balance_fails p fails = grind arith

pub status_fails : (p : State) → p.balance ≤ most_number → in_status p p.status ≡ false → is_purse p ≡ false
status_fails p low fails = grind arith
