-- A transaction as a whole: a savepoint outside of any begins it, and its release commits it.
use Rattle.mx_tables.proofs.Common.{◌≡◌, ℕ, ◌≤◌, ◌+◌, Ok, Some, [], length, inl, inr, true, false, arith, ◌∙◌, state}
use Rattle.std.proofs.Common.{◌⊎◌, Err, Result, IsTrue, OnErr, not, slice_get, sym, ap, subst}
use Rattle.std.proofs.lemmas.Option.{slice_get_within}
use Rattle.std.specs.Result.{IsErr}
use Rattle.sqlite_trees.specs.Tree.{Trees}
use Rattle.sqlite_trees.specs.View.{doubt}
use Rattle.sqlite_trees.specs.declared.store.Store.{Ghosts}
use Rattle.sqlite.specs.declared.error.Error.{Error}
use Rattle.sqlite.specs.Held.{Held}
use Rattle.sqlite.specs.State.{State, HasCleanDisk, IsRolledBack, Marks, ReleasesAt, Savepoint, Shows, Survives, begins_at}
use Rattle.sqlite.specs.Steps.{Discards, FailsAtMark, FailsToMark}
use Rattle.mx_tables.specs.States.{Commits, IsUndone, Within}
use Rattle.mx_tables.proofs.StateLemmas.{leaves_less}
use Rattle.mx_tables.proofs.RoundLemmas.{before, begins_got, kept_point, point}

-- one that wasn't begun
pub never_begun : {X T F : Type 0} (old new : State) (r : Result X Error) (e : Error) (f : F) (Done : Type 0) → r ≡ Err e → OnErr r (FailsToMark old new r) → Commits {T = T} old new (Err f) Done
never_begun old new (Ok x) e f Done is fails = absurd (cc)
never_begun old new (Err x) e f Done is fails = record {
  all = λ clean. tt;
  none = λ clean live. (fails.0 clean).3.undone live;
  ended = λ clean. (fails.0 clean).3.autocommit;
  opens = λ clean live. (fails.0 clean).3.was_open live;
  clean = fails.1.clean;
}

module _ (old mark mid new : State) (at : ℕ) (outside : old.in_transaction ≡ false) (first : Survives old mark (λ _. ⊥)) (marked : HasCleanDisk mark → (at ≡ length old.marks) × Marks old mark []) (last : doubt mid.is_clean ≤ doubt new.is_clean) where
  module _ {T E : Type 0} (r : Result T E) (step : Within (at + 1) mark mid r) where
    early : HasCleanDisk new → HasCleanDisk mid
    early clean = before mid new last clean

    begun : HasCleanDisk new → Marks old mark []
    begun clean = (marked (before mark mid step.clean (early clean))).1

    all : doubt old.is_clean ≤ doubt new.is_clean
    all = let e = first.clean in let f = step.clean in omega (arith, last)

    -- its savepoint is there still, which began it, or the transaction was rolled back
    pub there : HasCleanDisk new → (slice_get mid.marks at ≡ Some (point old mark mid new at first marked)) ⊎ IsUndone mark mid
    there clean = kept_point old mark mid new at first marked r step (early clean)

    pub begins : slice_get mid.marks at ≡ Some (point old mark mid new at first marked) → begins_at mid at ≡ true
    begins got = begins_got mid at _ got ∙ ap not outside

    kept : HasCleanDisk new → IsTrue mid.is_open → mid.committed ≡ old.committed
    kept clean live = (step.kept (early clean) (begun clean).0.mode).committed live ∙ (begun clean).0.committed_is

    -- a stop leaves what it could leave before
    pub leaves_old : HasCleanDisk new → (db : Trees) → mid.may_leave db → old.may_leave db
    leaves_old clean db left = leaves_less old mark first (before mark mid step.clean (early clean)) db (step.stops (early clean) db left)

    -- undone, be it since it was given up or since its release failed
    pub given_up : {U F : Type 0} → (HasCleanDisk new → Discards mid new at ⊎ ((e : Error) × FailsAtMark mid new at e)) → (q : Result U F) → IsErr q → (Done : Type 0) → Commits old new q Done
    given_up ended (Ok x) err Done = absurd (cc)
    given_up ended (Err f) err Done =
        let over = λ (clean : HasCleanDisk new) (back : IsRolledBack mid new).
        let it : (new.in_transaction ≡ false) × (IsTrue new.is_open → (new.now ≡ old.committed) × (new.committed ≡ old.committed)) =
        (back.autocommit, λ live. let was = kept clean (back.was_open live) in ((back.undone live).0 ∙ was, (back.undone live).1 ∙ was)) in it in
        let how = λ (clean : HasCleanDisk new).
        let it : (new.in_transaction ≡ false) × (IsTrue new.is_open → (new.now ≡ old.committed) × (new.committed ≡ old.committed)) =
        elim (ended clean) [
          | inl (inl whole) ↦ over clean whole.1
          | inl (inr part) ↦ absurd (elim (there clean) [
            | inl got ↦ (let same : part.0 ≡ point old mark mid new at first marked = cc (sym part.1 ∙ got) in let x : part.0.begins ≡ not old.in_transaction = ap (λ (p : Savepoint). p.begins) same in let y = part.2 in let z = outside in cc)
            | inr back ↦ (let x = part.1 in let y = back.unmarked in cc (x, y))
          ])
          | inr (e, inl fails) ↦ over clean fails.3
          | inr (e, inr late) ↦ elim (there clean) [
            | inl got ↦ absurd (let x = slice_get_within mid.marks at _ got in let y = late.1 in omega (arith, x, y))
            | inr back ↦
                let same = late.2.0 in
                let was = (begun clean).0.committed_is in
                (same.mode ∙ back.autocommit, λ live. (same.now_is ∙ (back.undone same.was_open).0 ∙ was, same.committed_is ∙ (back.undone same.was_open).1 ∙ was))
          ]
        ] in it in
        record {
          all = λ clean. tt;
          none = λ clean live. (how clean).1 live;
          ended = λ clean. (how clean).0;
          opens = λ clean live. (begun clean).0.was_open;
          clean = all;
        }

  -- after steps that answered Ok its release commits them
  module _ {E : Type 0} (step : Within {T = Unit {0}} {E = E} (at + 1) mark mid (Ok tt)) (released : HasCleanDisk new → ReleasesAt mid new at) where
    pub committed : HasCleanDisk new → Shows mid new mid.now mid.now false
    committed clean = elim (released clean) [
      | inl commits ↦ commits.1.0
      | inr drops ↦ absurd (elim (there (Ok tt) step clean) [
        | inl got ↦ (let x = begins (Ok tt) step got in let y = drops.0 in cc)
        | inr back ↦ (let x = step.inside (early (Ok tt) step clean) (begun (Ok tt) step clean).0.mode in let y = back.autocommit in cc)
      ])
    ]

    pub committed_all : {F : Type 0} (Done : Type 0) → (HasCleanDisk new → HasCleanDisk mid → mark.now ≡ old.now → new.now ≡ mid.now → IsTrue mark.in_transaction → Done) → Commits {T = Unit {0}} {E = F} old new (Ok tt) Done
    committed_all Done done = record {
      all = λ clean.
          let m = (begun (Ok tt) step clean).0 in
          let it = committed clean in
          (done clean (early (Ok tt) step clean) m.now_is it.now_is m.mode, it.committed_is ∙ sym it.now_is);
      none = λ clean. tt;
      ended = λ clean. (committed clean).mode;
      opens = λ clean live. (begun (Ok tt) step clean).0.was_open;
      clean = all (Ok tt) step;
    }

-- by another name of the connection
pub commits_as : {S T E : Type 0} (g : Ghosts S) (old : State) (a b : Held S) (r : Result T E) (Done : Held S → Type 0) → a ≡ b → Commits old (state g a) r (Done a) → Commits old (state g b) r (Done b)
commits_as g old a b r Done same it = subst (λ h. Commits old (state g h) r (Done h)) same it
