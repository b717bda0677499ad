-- Why a read fails.
use Rattle.mx_tables.proofs.Common.{[], arith, codes, length, ◌≤◌, ◌≡◌, inl, inr, ℕ, List, Ok, Option, Some, None, refl, ◌∙◌, Row, office_schema}
use Rattle.std.proofs.Common.{◌⊎◌, Err, Result, IsTrue, sym, ap, subst, append-nil, le_refl}
use Rattle.std.specs.Prelude.{IsSome, IfErr, IsErrAnd, is_ok, true}
use Rattle.std.specs.Result.{IsErr}
use Rattle.sqlite_trees.specs.declared.error.StoreError.{StoreError}
use Rattle.sqlite_trees.specs.declared.error.StoreError.TheVariants.{OutOfMemory, Io, Corrupt, Full, Broken, Unstorable}
use Rattle.sqlite_resolve.specs.declared.compiled.Compiled.{Compiled}
use Rattle.sqlite_resolve.specs.declared.error.CompileError.{CompileError}
use Rattle.sqlite_tied.specs.Compute.{everything}
use Rattle.sqlite.specs.declared.error.Error.{Error}
use Rattle.sqlite.specs.Effect.{RefusesToRead}
use Rattle.sqlite.specs.Clock.{timed}
use Rattle.sqlite.specs.Given.{IsPlain}
use Rattle.sqlite.specs.Listing.{understood, reads_listing, IsSourceOf}
use Rattle.sqlite.specs.State.{State, HasCause, store_error, FailsToShow, FailsToQuery, IsNoStatement, IsNotRun}
use Rattle.mx_book.specs.declared.contract.StoreFault.{StoreFault}
use Rattle.mx_book.specs.declared.contract.StoreFault.TheVariants.{Memory, Store}
use Rattle.mx_tables.specs.States.{IsForMemory, IsText, Accepts, AcceptsText, Blames, fault_told}

limited : (old new : State) (f : StoreFault) → IsSome old.step_limit → Blames old new f
limited old new Memory h = tt
limited old new Store h = inr h

caused : (old new : State) → IsTrue old.is_open → (cause : StoreError) → HasCause old new ⊥ cause → Blames old new (fault_told (store_error cause))
caused old new live OutOfMemory h = tt
caused old new live Io h = inl h
caused old new live Corrupt h = inl h
caused old new live Full h = inl h
caused old new live Broken h = absurd (let e = sym h ∙ live in cc)
caused old new live Unstorable h = absurd h

limit_or : (o : Option ℕ) (Q : Option ℕ → Type 0) → Q o → IsSome o ⊎ Q None
limit_or None Q h = inr h
limit_or (Some n) Q h = inl refl

module _ (sql : List ℕ) (params : Row) (old new : State) (e : Error) (text : IsText sql) (has : old.now.schema ≡ office_schema) (accepts : Accepts sql params old.now.trees) where
  known : {r : Result Compiled _} → understood old.now.schema sql ≡ r → understood office_schema sql ≡ r
  known is = ap (λ s. understood s sql) (sym has) ∙ is

  never_refused : IsNoStatement old sql params e → ⊥
  never_refused (inl h) = subst (AcceptsText sql params old.now.trees) (known h.1) accepts.accepts
  never_refused (inr h) =
      let fits = subst (AcceptsText sql params old.now.trees) (known h.1) accepts.accepts in
      let bare = subst IsPlain (known h.1) text in
      elim h.2 [
        | inl part ↦ part.0 fits.0
        | inr (inl count) ↦ count.0 fits.1
        | inr (inr clock) ↦ clock.0 bare.1
      ]

  module _ (live : IsTrue old.is_open) where
    not_run_told : IsNotRun old new sql params e → Blames old new (fault_told e)
    unfolding IsNotRun
    not_run_told (inl h) = absurd (never_refused h.0)
    not_run_told (inr h) = rw h.1 (caused old new live h.0 h.2)

    shown_told : (c : Compiled) → understood old.now.schema sql ≡ Ok c → (now : ℕ) → FailsToShow old new sql c (timed params c.formats now) e c.returning → Blames old new (fault_told e)
    shown_told c is now h =
        let fits = subst (AcceptsText sql params old.now.trees) (known is) accepts.accepts in
        let bare = subst IsPlain (known is) text in
        let it = rw (bare.0, bare.1, append-nil params) at h in
        let db : it.0 ≡ old.now = subst (λ b. IsSourceOf b old.now it.0) (ap (λ s. reads_listing s sql) has ∙ accepts.unlisted) it.1 in
        let same : it.0 ≡ record { schema = office_schema; trees = old.now.trees } = db ∙ ap (λ s. record { schema = s; trees = old.now.trees }) has in
        let refused = subst (λ d. RefusesToRead old.step_limit c.command d params e) same it.2 in
        elim (limit_or old.step_limit (λ limit. RefusesToRead limit c.command (record { schema = office_schema; trees = old.now.trees }) params e) refused) [
          | inl some ↦ limited old new (fault_told e) some
          | inr none ↦ absurd (fits.2 e none)
        ]

    pub query_told : FailsToQuery sql params old new e → Blames old new (fault_told e)
    unfolding FailsToQuery
    query_told (inl h) = not_run_told h
    query_told (inr h) = shown_told h.0 h.1.is h.1.now h.2

-- ---- a COMMIT that is prepared

abbrev commit : List ℕ
commit = codes "COMMIT"

-- the text is one statement, which takes nothing and reads no clock
abbrev IsBare : List ℕ → Result Compiled CompileError → Type 0
IsBare sql (Ok c) = (length sql ≤ c.tail) × (0 ≡ length c.names) × IsPlain (Ok c)
IsBare sql (Err e) = ⊥

commit_bare : IsBare commit (understood office_schema commit)
unfolding understood everything
commit_bare = (le_refl _, refl, (refl, refl))

module _ (old new : State) (e : Error) (has : old.now.schema ≡ office_schema) where
  commit_known : {r : Result Compiled CompileError} → understood old.now.schema commit ≡ r → IsBare commit r
  commit_known is = subst (IsBare commit) (ap (λ s. understood s commit) (sym has) ∙ is) commit_bare

  commit_stands : IsNoStatement old commit [] e → ⊥
  commit_stands (inl h) = commit_known h.1
  commit_stands (inr h) =
      let bare = commit_known h.1 in
      elim h.2 [
        | inl part ↦ part.0 bare.0
        | inr (inl count) ↦ count.0 bare.1
        | inr (inr clock) ↦ clock.0 bare.2.1
      ]

  pub prepare_told : IsTrue old.is_open → IsNotRun old new commit [] e → Blames old new (fault_told e)
  unfolding IsNotRun
  prepare_told live (inl h) = absurd (commit_stands h.0)
  prepare_told live (inr h) = rw h.1 (caused old new live h.0 h.2)

-- want of memory needs no cause
pub by_memory : (old new : State) (f : StoreFault) → IsForMemory f → Blames old new f
by_memory old new f is = rw is tt

-- a cause in a later call is one of both
pub blames_both : (a b c : State) → a.faults ≤ b.faults → b.step_limit ≡ a.step_limit → (f : StoreFault) → Blames b c f → Blames a c f
blames_both a b c counts limit Memory h = tt
blames_both a b c counts limit Store (inl failed) = inl (grind (arith, counts, failed))
blames_both a b c counts limit Store (inr some) = inr (subst IsSome limit some)

-- a fault that `?` hands on
pub handed : {X : Type 0} (r : Result X StoreFault) (P Q : StoreFault → Type 0) → IsErrAnd r Q → ((e : StoreFault) → Q e → P e) → IfErr r P
handed (Ok x) P Q h f = tt
handed (Err e) P Q h f = f e h

pub is_err : {X : Type 0} (r : Result X StoreFault) (Q : StoreFault → Type 0) → IsErrAnd r Q → IsErr r
is_err (Ok x) Q h = absurd h
is_err (Err e) Q h = refl

pub err_weaker : {X : Type 0} (r : Result X StoreFault) (P Q : StoreFault → Type 0) → IsErrAnd r P → ((e : StoreFault) → P e → Q e) → IsErrAnd r Q
err_weaker (Ok x) P Q h f = absurd h
err_weaker (Err e) P Q h f = f e h

-- what can't be an error
pub no_fault : {X : Type 0} (r : Result X StoreFault) (P : StoreFault → Type 0) → is_ok r ≡ true → IfErr r P
no_fault (Ok x) P h = tt
no_fault (Err e) P h = absurd (cc)
