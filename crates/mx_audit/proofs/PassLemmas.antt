-- A pass over rows: each fits where a test of it alone says so, and what is seen in the end adds up row by row.
use Rattle.std.proofs.Common.{◌≡◌, inl, inr, List, [], ◌∷◌, cond, refl, sym, ◌∙◌, ap, Option, Some, None, Bool, true, false, arith}
use Rattle.std.specs.Prelude.{option_map}
use Rattle.std.specs.Option.{option_or}
use Rattle.std.specs.List.{AllByRecursion, fold}
use Rattle.std.specs.FinMap as fmap
use Rattle.std.specs.FinMap.{FinMap, gets}
use Rattle.std.specs.FinMap.Entries.{find}
use Rattle.std.proofs.lemmas.Bool.{cases_Bool}
use Rattle.mx_pay.specs.Names.{name_cmp}
use Rattle.mx_book.specs.World.{Name}
use Rattle.mx_book.proofs.NameLemmas.{names_total, same_name}
use Rattle.mx_tables.proofs.MapLists.{AreDistinct}
use Rattle.mx_audit.specs.Seen.{Seen, seen_all}

module _ {E : Type 0} (next : Seen → E → Seen) where
  -- what is seen after rows that all fit
  abbrev pub after : Seen → List E → Seen
  after s es = fold next s es

  -- a part of what is seen that no row changes
  pub kept : {X : Type 0} (part : Seen → X) → ((s : Seen) (e : E) → part (next s e) ≡ part s) → (s : Seen) (es : List E) → part (after s es) ≡ part s
  kept part same s [] = refl
  kept part same s (e ∷ es) = kept part same (next s e) es ∙ same s e

  -- what each row keeps up holds in the end
  pub keeps : (I : Seen → Type 0) → ((s : Seen) (e : E) → I s → I (next s e)) → (s : Seen) (es : List E) → I s → I (after s es)
  keeps I step s [] h = h
  keeps I step s (e ∷ es) h = keeps I step (next s e) es (step s e h)

-- a pass over rows of one kind: a test of a row alone, which says whether it fits while this is known, and each row keeps it known
pub record Pass {E : Type 0} (fits : Seen → E → Bool) (next : Seen → E → Seen) : Type 1 where
  pub test : E → Bool
  pub Known : Seen → Type 0
  pub says : (s : Seen) (e : E) → Known s → fits s e ≡ test e
  pub step : (s : Seen) (e : E) → Known s → Known (next s e)

module _ {E : Type 0} (fits : Seen → E → Bool) (next : Seen → E → Seen) (pass : Pass fits next) where
  -- each row of a list passes the test
  abbrev pub AllPass : List E → Type 0
  AllPass es = AllByRecursion (λ e. pass.test e ≡ true) es

  -- what is known stays known
  pub still : (s : Seen) (es : List E) → pass.Known s → pass.Known (after next s es)
  still = keeps next pass.Known pass.step

  -- all rows that were gone over pass the test
  pub fitted : (s : Seen) (es : List E) (t : Seen) → pass.Known s → seen_all fits next s es ≡ Some t → AllPass es × (t ≡ after next s es)
  fitted s [] t k h = (tt, grind arith)
  fitted s (e ∷ es) t k h =
      elim (cases_Bool (fits s e)) [
        | inl so ↦ (let rest = fitted (next s e) es t (pass.step s e k) (rw so at h) in ((sym (pass.says s e k) ∙ so, rest.0), rest.1))
        | inr not_so ↦ absurd (let none = rw not_so at h in cc)
      ]

  -- and rows that pass it are gone over
  pub fitting : (s : Seen) (es : List E) → pass.Known s → AllPass es → seen_all fits next s es ≡ Some (after next s es)
  fitting s [] k h = refl
  fitting s (e ∷ es) k h = rw (pass.says s e k ∙ h.0) (fitting (next s e) es (pass.step s e k) h.1)

-- ---- what is seen at a name

-- a value that is changed for each row that is of it
abbrev pub times : {E V : Type 0} → (E → Bool) → (V → V) → List E → V → V
times at step [] v = v
times at step (e ∷ es) v = times at step es (cond (at e) (step v) v)

module _ {E V : Type 0} (next : Seen → E → Seen) (part : Seen → FinMap name_cmp V) where
  -- where each row changes what is seen at a name or lets it be
  pub grown : (step : V → V) (at : Name → E → Bool)
      → ((s : Seen) (e : E) (k : Name) → fmap.get (part (next s e)) k ≡ cond (at k e) (option_map step (fmap.get (part s) k)) (fmap.get (part s) k))
      → (s : Seen) (es : List E) (k : Name) → fmap.get (part (after next s es)) k ≡ option_map (times (at k) step es) (fmap.get (part s) k)
  grown step at says s [] k = by_case (fmap.get (part s) k)
    where
      by_case : (o : Option V) → o ≡ option_map (λ v. v) o
      by_case None = refl
      by_case (Some v) = refl
  grown step at says s (e ∷ es) k =
      grown step at says (next s e) es k ∙ ap (option_map (times (at k) step es)) (says s e k) ∙ by_case (at k e) (fmap.get (part s) k)
    where
      by_case : (b : Bool) (o : Option V) → option_map (times (at k) step es) (cond b (option_map step o) o) ≡ option_map (λ v. times (at k) step es (cond b (step v) v)) o
      by_case true None = refl
      by_case true (Some v) = refl
      by_case false None = refl
      by_case false (Some v) = refl

module _ {W V : Type 0} (next : Seen → Name × W → Seen) (part : Seen → FinMap name_cmp V) where
  module _ (made : W → V) (says : (s : Seen) (e : Name × W) → part (next s e) ≡ fmap.insert (part s) e.0 (made e.1)) where
    filled_more : (s : Seen) (es : List (Name × W)) → AreDistinct name_cmp es → (k : Name)
        → fmap.get (part (after next s es)) k ≡ option_or (option_map made (find name_cmp k es)) (fmap.get (part s) k)
    filled_more s [] apart k = refl
    filled_more s (e ∷ es) apart k =
        let more = filled_more (next s e) es apart.1 k in
        let here = ap (λ m. fmap.get m k) (says s e) in
        grind (arith, gets, names_total, same_name k e.0, apart.0)

    -- where each row adds what is seen at its name
    pub filled : (s : Seen) (es : List (Name × W)) → AreDistinct name_cmp es → (k : Name) → fmap.get (part s) k ≡ None
        → fmap.get (part (after next s es)) k ≡ option_map made (find name_cmp k es)
    filled s es apart k none = grind (arith, filled_more s es apart k)
