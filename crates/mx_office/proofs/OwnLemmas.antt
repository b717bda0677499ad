-- What is a holder's own, and what tests of options and of refusals tell.
use Rattle.std.proofs.Common.{◌≡◌, Bool, true, false, not, cond, List, [], ◌∷◌, refl, ◌∙◌, ap, Option, Some, None, IsSome, is_some, is_none, option_and_then, IsTrue}
use Rattle.std.proofs.lemmas.Option.{cond_some, option_and_then_some}
use Rattle.std.specs.Option.{option_map_or}
use Rattle.std.specs.FinMap as fmap
use Rattle.mx_pay.specs.Names.{is_name}
use Rattle.mx_book.specs.declared.values.MemberRow.{MemberRow}
use Rattle.mx_book.specs.World.{World, Row, Holding, Name, is_of}
use Rattle.mx_command.specs.declared.values.Refusal.{Refusal}
use Rattle.mx_office.specs.Step.{first_refusal, change_member, holding_for, own_holding}

-- ---- options

pub absent : {X : Type 0} (o : Option X) → is_some o ≡ false → o ≡ None
absent None f = refl
absent (Some x) f = cc

pub never_some : {X : Type 0} (o : Option X) → o ≡ None → IsTrue (is_some o) → ⊥
never_some None none some = absurd (cc)
never_some (Some x) none some = absurd (cc)

pub present : {X : Type 0} (o : Option X) → is_none o ≡ false → (x : X) × (o ≡ Some x)
present None f = absurd (cc)
present (Some x) f = (x, refl)

-- a holder that is of a member is there
pub of_there : (m : Name) (o : Option Name) → not (is_of m o) ≡ false → IsSome o
of_there m None f = absurd (cc)
of_there m (Some x) f = refl

-- ---- the first refusal that applies

pub first : (b : Bool) (r : Refusal) (xs : List (Bool × Refusal)) → b ≡ true → first_refusal ((b, r) ∷ xs) ≡ Some r
unfolding first_refusal
first b r xs t = ap (λ x. cond x (Some r) (first_refusal xs)) t

pub next : (b : Bool) (r : Refusal) (xs : List (Bool × Refusal)) (o : Option Refusal) → b ≡ false → first_refusal xs ≡ o → first_refusal ((b, r) ∷ xs) ≡ o
unfolding first_refusal
next b r xs o f rest = ap (λ x. cond x (Some r) (first_refusal xs)) f ∙ rest

pub none_left : first_refusal [] ≡ None
unfolding first_refusal
none_left = refl

pub none_refused : (b : Bool) (r : Refusal) (xs : List (Bool × Refusal)) → first_refusal ((b, r) ∷ xs) ≡ None → (b ≡ false) × (first_refusal xs ≡ None)
unfolding first_refusal
none_refused true r xs e = cc
none_refused false r xs e = (refl, e)

-- ---- a member's row

-- a member who is there has the changed row
pub change_to : (w : World) (m : Name) (f : MemberRow → MemberRow) (row : MemberRow) → fmap.get w.members m ≡ Some row → change_member w m f ≡ record w { members = fmap.insert w.members m (f row) }
change_to w m f row at = ap (λ o. option_map_or (λ x. let v : World = record w { members = fmap.insert w.members m (f x) } in v) o w) at

-- ---- the holder's own

-- what is the holder's own of a row that is there
pub own_at : (w : World) (h p : Name) (r : Row) (b : Bool) → fmap.get w.rows p ≡ Some r → is_name h r.holder ≡ b → own_holding w h p ≡ cond b (Some r.holding) None
own_at w h p r b at t = ap (option_and_then (holding_for h)) at ∙ ap (λ x. cond x (Some r.holding) None) t

-- the row of what is the holder's own
pub record IsOwned (w : World) (h p : Name) (a : Holding) : Type 0 where
  pub row : Row
  pub at : fmap.get w.rows p ≡ Some row
  pub owned : is_name h row.holder ≡ true
  pub holding : row.holding ≡ a

pub is_owned : (w : World) (h p : Name) (a : Holding) → own_holding w h p ≡ Some a → IsOwned w h p a
is_owned w h p a own = option_and_then_some (holding_for h) (fmap.get w.rows p) a own (λ r at is.
    let x = cond_some (is_name h r.holder) r.holding a is in record { row = r; at = at; owned = x.0; holding = x.1 })
