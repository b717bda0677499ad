-- The rows of one table, gone over one after another.
use Rattle.std.proofs.Common.{◌≡◌, List, [], ◌∷◌, ◌++◌, refl, sym, ◌∙◌, ap, subst, append_assoc, Some, true, arith, inl, inr}
use Rattle.std.proofs.lemmas.Bool.{cases_Bool}
use Rattle.std.specs.List.{AllByRecursion, flat_map}
use Rattle.std.proofs.lemmas.List.{append-nil}
use Rattle.sqlite_value.specs.Order.{Row}
use Rattle.mx_audit.specs.Audit.{Goes, fits_row, with_row, cleared_of}
use Rattle.mx_audit.specs.Readings.{AreRead, laid_of}
use Rattle.mx_audit.specs.Scans.{TakesAll}
use Rattle.mx_audit.specs.Seen.{Seen, seen_all}
use Rattle.mx_audit.specs.Typed.{IsShown, IsSource, IsTyped}
use Rattle.mx_audit.specs.declared.audit.Audit.{Audit}
use Rattle.mx_audit.specs.declared.typed.Source.{Source}
use Rattle.mx_audit.specs.declared.typed.TypedRow.{TypedRow}

-- these rows were gone over
abbrev pub GoesAll : Audit → List Row → Audit → Type 0
GoesAll = TakesAll (λ a r b. Goes r a b)

-- They were all read, fit and were taken in, and nothing was found before them.
pub record ReadAll (rows : List Row) (old new : Audit) : Type 0 where
  pub es : List TypedRow
  pub found : old.found ≡ 0
  pub read : AreRead old.source rows es
  pub seen : seen_all fits_row with_row old.seen es ≡ Some new.seen
  pub source : new.source ≡ old.source
  pub laid : new.laid.items ≡ old.laid.items ++ flat_map laid_of es
  pub cleared : new.cleared.items ≡ old.cleared.items ++ flat_map cleared_of es

-- a row that fits, before others
seen_first : (old mid : Seen) (e : TypedRow) (es : List TypedRow) → fits_row old e ≡ true → mid ≡ with_row old e
    → seen_all fits_row with_row old (e ∷ es) ≡ seen_all fits_row with_row mid es
seen_first old mid e es fits is = rw (fits, is) refl

-- what one row adds, and others add after it
adds : {X : Type 0} (f : TypedRow → List X) (old mid new : List X) (e : TypedRow) (es : List TypedRow) → mid ≡ old ++ f e → new ≡ mid ++ flat_map f es
    → new ≡ old ++ flat_map f (e ∷ es)
adds f old mid new e es one more = more ∙ ap (λ l. l ++ flat_map f es) one ∙ append_assoc old (f e) (flat_map f es)

-- rows after which nothing was found
pub read_all : (rows : List Row) (old new : Audit) → GoesAll old rows new → new.found ≡ 0 → ReadAll rows old new
read_all [] old new all none = record {
  es = [];
  found = cc;
  read = tt;
  seen = cc;
  source = cc;
  laid = ap (λ (a : Audit). a.laid.items) all ∙ sym (append-nil old.laid.items);
  cleared = ap (λ (a : Audit). a.cleared.items) all ∙ sym (append-nil old.cleared.items);
}
read_all (row ∷ rows) old new all none =
    let mid = all.0 in
    let step = all.1 in
    let rest = read_all rows mid new all.2 none in
    let took = step.took rest.found in
    let lasts = step.lasts in
    let e = took.0 in
    record {
      es = e ∷ rest.es;
      found = omega (arith, lasts, rest.found);
      read = ((took.1, took.2), subst (λ (from : Source). AreRead from rows rest.es) step.source rest.read);
      seen = seen_first old.seen mid.seen e rest.es took.3 took.4.seen ∙ rest.seen;
      source = rest.source ∙ step.source;
      laid = adds laid_of _ _ _ e rest.es took.4.laid rest.laid;
      cleared = adds cleared_of _ _ _ e rest.es took.4.cleared rest.cleared;
    }

-- a row is read in no more than one way
abbrev pub ReadsOnce : Source → Type 0
ReadsOnce from = (row : Row) (e f : TypedRow) → IsTyped e → IsTyped f → IsShown from row e → IsShown from row f → e ≡ f

-- rows of which the readings fit
pub goes_fine : (rows : List Row) (es : List TypedRow) (old new : Audit) (s : Seen) → GoesAll old rows new → AreRead old.source rows es
    → AllByRecursion (IsSource old.source) rows → ReadsOnce old.source → seen_all fits_row with_row old.seen es ≡ Some s → old.found ≡ 0
    → (new.found ≡ 0) × (new.seen ≡ s)
goes_fine [] [] old new s all read are once seen none = (cc, grind arith)
goes_fine [] (e ∷ es) old new s all read are once seen none = absurd read
goes_fine (row ∷ rows) [] old new s all read are once seen none = absurd read
goes_fine (row ∷ rows) (e ∷ es) old new s all read are once seen none =
    elim (cases_Bool (fits_row old.seen e)) [
      | inl fits ↦ (
          let mid = all.0 in
          let step = all.1 in
          let same = sym step.source in
          let fine : mid.found ≡ old.found =
          step.fine are.0 (λ f typed shown. subst (λ g. fits_row old.seen g ≡ true) (once row e f read.0.0 typed read.0.1 shown) fits) in
          let took = step.took (fine ∙ none) in
          let is : took.0 ≡ e = once row took.0 e took.1 read.0.0 took.2 read.0.1 in
          let after : mid.seen ≡ with_row old.seen e = took.4.seen ∙ ap (with_row old.seen) is in
          goes_fine rows es mid new s all.2
          (subst (λ (from : Source). AreRead from rows es) same read.1)
          (subst (λ (from : Source). AllByRecursion (IsSource from) rows) same are.1)
          (subst (λ (from : Source). ReadsOnce from) same once)
          (sym (seen_first old.seen mid.seen e es fits after) ∙ seen)
          (fine ∙ none))
      | inr not_so ↦ absurd (let nothing = rw not_so at seen in cc)
    ]
