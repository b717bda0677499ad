-- Calls of the office one after another: what each of them tells gives what all do.
use Rattle.std.proofs.Common.{◌≡◌, ◌≤◌, ◌⊎◌, inl, inr, ℕ, arith, sym, subst, Result, Ok, Err, IfOk, IfErr}
use Rattle.std.specs.Result.{IsErrAnd}
use Rattle.std.proofs.lemmas.Result.{err_from_is_err_and, IfOk-weaker, IfErr-weaker}
use Rattle.mx_book.specs.Conditions.{IsWorld}
use Rattle.mx_book.specs.World.{World}
use Rattle.mx_book.specs.Keeps.{HasCause}
use Rattle.mx_book.specs.declared.contract.StoreFault.{StoreFault}
use Rattle.mx_book.specs.declared.contract.StoreFault.TheVariants.{Memory, Store}
use Rattle.mx_book.proofs.StandLemmas.{sure_before}
use Rattle.mx_book.specs.Views.{View, IsLawful, Answers, Bides, Changes, Keeps}
pub use Rattle.mx_book.proofs.ViewLemmas.{bides_then, bides_none, keeps_then, keeps_none}

-- what is said of an error that is passed on, and of an answer where there is none
pub err_so : {T : Type 0} (r : Result T StoreFault) {e : StoreFault} (P : StoreFault → Type 0) → P e → IsErrAnd r (λ y. y ≡ e) → IfErr r P
err_so r P so passed = let p = err_from_is_err_and r passed in subst (λ q. IfErr q P) (sym p.1) (subst P (sym p.2) so)

pub err_never : {T : Type 0} (r : Result T StoreFault) (e : StoreFault) (P : T → Type 0) → IsErrAnd r (λ y. y ≡ e) → IfOk r P
err_never r e P passed = let p = err_from_is_err_and r passed in subst (λ q. IfOk q P) (sym p.1) tt

-- the World stayed so far, and this is so of it
pub record SoFar (old new : View) (said : World → Type 0) : Type 0 where
  pub keeps : Keeps old new
  pub value : new.doubt ≡ 0 → said old.world

-- by a first answer
pub so_far : {T : Type 0} {fails : StoreFault → Type 0} {old new : View} {r : Result T StoreFault} {said : World → T → Type 0} → Answers fails old new r said → SoFar old new (λ w. IfOk r (said w))
so_far a = record { keeps = a.keeps; value = a.value }

-- and by one more
pub so_more : {T : Type 0} {fails : StoreFault → Type 0} {x y z : View} {r : Result T StoreFault} {said : World → Type 0} {more : World → T → Type 0} → SoFar x y said → Answers fails y z r more
    → SoFar x z (λ w. said w × IfOk r (more w))
so_more {r = r} {more = more} one a = record {
  keeps = keeps_then one.keeps a.keeps;
  value = λ sure.
      let before = sure_before a.keeps.later sure in
      (one.value before, subst (λ w. IfOk r (more w)) (one.keeps.same before) (a.value sure));
}

-- what follows from it is answered
pub tells_so : {T : Type 0} {old new : View} {known : World → Type 0} {fails : StoreFault → Type 0} {x : T} {said : World → T → Type 0}
    → IsLawful old → SoFar old new known → ((w : World) → IsWorld w → known w → said w x) → Answers fails old new (Ok x) said
tells_so {old = old} law far f = record {
  keeps = far.keeps;
  value = λ sure. f old.world (law.sound (sure_before far.keeps.later sure)) (far.value sure);
  fault = tt;
  cause = λ sure. tt;
}

-- where nothing is asked
pub tells_none : {T : Type 0} {here : View} {fails : StoreFault → Type 0} {x : T} {said : World → T → Type 0} → IsLawful here → ((w : World) → IsWorld w → said w x) → Answers fails here here (Ok x) said
tells_none {here = here} law f = record { keeps = keeps_none here; value = λ sure. f here.world (law.sound sure); fault = tt; cause = λ sure. tt }

-- the cause of a fault in a call is one in what that call ends
cause_then : {x y : View} (n : ℕ) (e : StoreFault) → Keeps x y → HasCause y.limited y.faults n e → HasCause x.limited x.faults n e
cause_then n Memory keeps = λ cause. tt
cause_then n Store keeps = λ cause free counted.
    let counts = keeps.counts in
    let more = cause (λ limited. free (keeps.limits limited)) counted in
    omega (arith, counts, more)

-- the answer of one more call is answered
pub tells_then : {T : Type 0} {x y z : View} {known : World → Type 0} {fails : StoreFault → Type 0} {r : Result T StoreFault} {more said : World → T → Type 0}
    → IsLawful x → SoFar x y known → Answers fails y z r more → ((w : World) → IsWorld w → known w → (t : T) → more w t → said w t) → Answers fails x z r said
tells_then {x = x} {z = z} {r = r} {more = more} law far last f = record {
  keeps = keeps_then far.keeps last.keeps;
  value = λ sure.
      let before = sure_before last.keeps.later sure in
      let first = sure_before far.keeps.later before in
      IfOk-weaker r _ _ (f x.world (law.sound first) (far.value before)) (subst (λ w. IfOk r (more w)) (far.keeps.same before) (last.value sure));
  fault = last.fault;
  cause = λ sure. IfErr-weaker r _ _ (λ e. cause_then z.faults e far.keeps) (last.cause sure);
}

-- a fault is passed on, behind calls that kept the World
pub tells_fault_then : {T U : Type 0} {x y z : View} {fails : StoreFault → Type 0} {e : StoreFault} {r : Result T StoreFault} {said : World → T → Type 0} {asked : World → U → Type 0}
    → Keeps x y → Answers fails y z (Err e) asked → IsErrAnd r (λ i. i ≡ e) → Answers fails x z r said
tells_fault_then {x = x} {z = z} {fails = fails} {e = e} {r = r} {said = said} keeps failed passed =
    let p = err_from_is_err_and r passed in
    subst (λ q. Answers fails x z q said) (sym p.1) (record {
      keeps = keeps_then keeps failed.keeps;
      value = λ sure. tt;
      fault = subst fails (sym p.2) failed.fault;
      cause = λ sure. subst (HasCause x.limited x.faults z.faults) (sym p.2) (cause_then z.faults e keeps (failed.cause sure));
    })

-- of a first call
pub tells_fault : {T U : Type 0} {old new : View} {fails : StoreFault → Type 0} {e : StoreFault} {r : Result T StoreFault} {said : World → T → Type 0} {asked : World → U → Type 0}
    → Answers fails old new (Err e) asked → IsErrAnd r (λ i. i ≡ e) → Answers fails old new r said
tells_fault {old = old} = tells_fault_then (keeps_none old)

-- there may be no memory for more
pub for_memory : {T : Type 0} {old new : View} {fails : StoreFault → Type 0} {r : Result T StoreFault} {said : World → T → Type 0} → Answers fails old new r said → Answers (λ e. (e ≡ Memory) ⊎ fails e) old new r said
for_memory {r = r} a = record { keeps = a.keeps; value = a.value; fault = IfErr-weaker r _ _ (λ e h. inr h) a.fault; cause = a.cause }

-- a change that isn't made for a fault that is passed on
pub changes_fault : {T : Type 0} {old new : View} {fails : StoreFault → Type 0} (e : StoreFault) {r : Result T StoreFault} {change : World → World}
    → old.doubt ≤ new.doubt → (new.doubt ≡ 0 → new.world ≡ old.world) → Bides old new → fails e → IsErrAnd r (λ y. y ≡ e) → Changes fails old new r change
changes_fault {old = old} {new = new} {fails = fails} e {r = r} {change = change} later same bides fault passed =
    let p = err_from_is_err_and r passed in
    subst (λ q. Changes fails old new q change) (sym p.1) (record { later = later; ok = λ sure. tt; err = same; bides = bides; fault = subst fails (sym p.2) fault })
