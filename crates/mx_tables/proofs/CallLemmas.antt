-- Calls one after another: what each of them is gives what all are.
use Rattle.mx_tables.proofs.Common.{Bool, ◌+◌, ◌≡◌, ℕ, List, Ok, ◌∙◌, arith, refl, IfOk-weaker, Row, Database, state, Executes, Rows, office_schema, Holds, going}
use Rattle.std.proofs.Common.{Err, Result, IfOk, sym, ap, subst}
use Rattle.std.proofs.lemmas.Result.{IfErr-weaker, IfOk-from_err}
use Rattle.std.specs.Prelude.{IfErr, IsErrAnd}
use Rattle.std.specs.Result.{IsErr}
use Rattle.sqlite_trees.specs.declared.store.Store.{Ghosts}
use Rattle.sqlite.specs.declared.savepoint.Savepoint.{Savepoint}
use Rattle.sqlite.specs.Held.{Held}
use Rattle.sqlite.specs.State.{HasCleanDisk}
use Rattle.mx_book.specs.declared.contract.StoreFault.{StoreFault}
use Rattle.mx_tables.specs.States.{AsksOf, unsure, Blames, IsAwake, IsExplained, IsForMemory, IsOurs, Stays, Brings, Reads, Steps, Runs, Within, Writes, Finds}
use Rattle.mx_tables.proofs.CauseLemmas.{blames_both, by_memory, handed, is_err}
use Rattle.mx_tables.proofs.StateLemmas.{on_ok_anyway, on_ok_never, brings_same, brings_none, stays_same, stays_then, sure_first, within_none, within_then}
use Rattle.mx_tables.proofs.WriteLemmas.{goes_as, goes_then}

module _ {S : Type 0} (g : Ghosts S) where
  -- ---- reads

  -- no read at all
  pub reads_none : {T : Type 0} {old : Held S} {r : Result T StoreFault} {is : Rows → T → Type 0}
      → IsAwake (state g old) → ((rows : Rows) → Holds (state g old).now rows → IfOk r (is rows)) → Reads g old old r is
  reads_none {old = old} {r = r} live f = record { stays = λ ours. stays_same (state g old) ours; value = λ ours calm rows holds. f rows holds; live = on_ok_anyway r live }

  -- what follows from what was read
  pub reads_to : {T U : Type 0} {old new : Held S} {x : T} {r : Result U StoreFault} {is : Rows → T → Type 0} {other : Rows → U → Type 0}
      → Reads g old new (Ok x) is → ((rows : Rows) → Holds (state g old).now rows → is rows x → IfOk r (other rows)) → Reads g old new r other
  reads_to {r = r} h f = record { stays = h.stays; value = λ ours calm rows holds. f rows holds (h.value ours calm rows holds); live = on_ok_anyway r h.live }

  -- a fault after a read
  pub reads_fault : {T U : Type 0} {old new : Held S} {q : Result T StoreFault} {r : Result U StoreFault} {is : Rows → T → Type 0} {other : Rows → U → Type 0}
      → Reads g old new q is → IsErr r → Reads g old new r other
  reads_fault {r = r} {other = other} h fault = record { stays = h.stays; value = λ ours calm rows holds. IfOk-from_err r (other rows) fault; live = on_ok_never r _ fault }

  -- a fault after what leaves the rows, and a fault before any read
  pub reads_stopped : {T : Type 0} {old new : Held S} {r : Result T StoreFault} {is : Rows → T → Type 0} → ((begun : Bool) → IsOurs begun (state g old) → Stays begun (state g old) (state g new)) → IsErr r → Reads g old new r is
  reads_stopped {r = r} {is = is} stays fault = record { stays = λ ours. stays _ ours; value = λ ours calm rows holds. IfOk-from_err r (is rows) fault; live = on_ok_never r _ fault }

  pub reads_never : {T : Type 0} {old : Held S} {r : Result T StoreFault} {is : Rows → T → Type 0} → IsErr r → Reads g old old r is
  reads_never {old = old} = reads_stopped (λ begun ours. stays_same (state g old) ours)

  -- what follows from what a read gives
  pub reads_more : {T : Type 0} {old new : Held S} {r : Result T StoreFault} {is other : Rows → T → Type 0}
      → Reads g old new r is → ((rows : Rows) → Holds (state g old).now rows → (x : T) → is rows x → other rows x) → Reads g old new r other
  reads_more {r = r} h f = record { stays = h.stays; value = λ ours calm rows holds. IfOk-weaker r _ _ (f rows holds) (h.value ours calm rows holds); live = h.live }

  -- a read after a read
  pub reads_then : {T U : Type 0} {a b c : Held S} {x : T} {r : Result U StoreFault} {is : Rows → T → Type 0} {other : Rows → U → Type 0}
      → Reads g a b (Ok x) is → Reads g b c r other → Reads g a c r (λ rows y. is rows x × other rows y)
  reads_then {a = a} {b = b} {c = c} {r = r} one two = record {
    stays = λ ours. stays_then (state g a) (state g b) (state g c) (one.stays ours) (two.stays (one.stays ours).ours);
    value = λ ours calm rows holds.
        let kept = one.stays ours in
        let before = sure_first (two.stays kept.ours).later calm in
        let same : Holds (state g b).now rows = subst (λ (d : Database). Holds d rows) (sym (kept.same before)) holds in
        IfOk-weaker r _ _ (λ y is. (one.value ours before rows holds, is)) (two.value kept.ours calm rows same);
    live = two.live;
  }

  -- ---- reads that fail only for a cause

  module _ {known : Rows → Type 0} where
    -- what answers has no fault
    pub asks_ok : {T : Type 0} {old new : Held S} {x : T} {is : Rows → T → Type 0} → Reads g old new (Ok x) is → AsksOf g old new known (Ok x) is
    asks_ok h = record { reads = h; cause = λ begun ours calm rows holds it. tt }

    -- what was read is decoded
    pub asks_by : {T U : Type 0} {old new : Held S} {x : T} {r : Result U StoreFault} {is : Rows → T → Type 0} {other : Rows → U → Type 0}
        → Reads g old new (Ok x) is → ((rows : Rows) → Holds (state g old).now rows → is rows x → IfOk r (other rows))
        → ((rows : Rows) → Holds (state g old).now rows → known rows → is rows x → IfErr r IsForMemory) → AsksOf g old new known r other
    asks_by {old = old} {new = new} {r = r} h f why = record {
      reads = reads_to h f;
      cause = λ begun ours calm rows holds it. IfErr-weaker r _ _ (by_memory (state g old) (state g new)) (why rows holds it (h.value ours calm rows holds));
    }

    -- a fault after a read, which what is known excludes, or which is want of memory
    pub asks_wrong : {T U : Type 0} {old new : Held S} {x : T} {r : Result U StoreFault} {is : Rows → T → Type 0} {other : Rows → U → Type 0}
        → Reads g old new (Ok x) is → IsErr r → ((rows : Rows) → Holds (state g old).now rows → known rows → is rows x → ⊥) → AsksOf g old new known r other
    asks_wrong {r = r} {other = other} h fault never = asks_by h (λ rows holds is. IfOk-from_err r (other rows) fault) (λ rows holds it is. absurd (never rows holds it is))

    pub asks_short : {T U : Type 0} {old new : Held S} {x : T} {r : Result U StoreFault} {is : Rows → T → Type 0} {other : Rows → U → Type 0}
        → Reads g old new (Ok x) is → IsErrAnd r IsForMemory → AsksOf g old new known r other
    asks_short {r = r} {other = other} h fault = asks_by h (λ rows holds is. IfOk-from_err r (other rows) (is_err r _ fault)) (λ rows holds it is. handed r _ _ fault (λ e is. is))

    -- a fault before any read, which what is known excludes, or which is want of memory
    pub asks_never : {T : Type 0} {old : Held S} {r : Result T StoreFault} {is : Rows → T → Type 0} → IsErr r → ((rows : Rows) → Holds (state g old).now rows → known rows → ⊥) → AsksOf g old old known r is
    asks_never fault never = record { reads = reads_never fault; cause = λ begun ours calm rows holds it. absurd (never rows holds it) }

    pub asks_lacking : {T : Type 0} {old : Held S} {r : Result T StoreFault} {is : Rows → T → Type 0} → IsErrAnd r IsForMemory → AsksOf g old old known r is
    asks_lacking {old = old} {r = r} fault = record { reads = reads_never (is_err r _ fault); cause = λ begun ours calm rows holds it. handed r _ _ fault (by_memory (state g old) (state g old)) }

    -- a fault of a read is handed on
    pub asks_fault : {T U : Type 0} {old new : Held S} {f : StoreFault} {r : Result U StoreFault} {is : Rows → T → Type 0} {other : Rows → U → Type 0}
        → AsksOf g old new known (Err f) is → IsErrAnd r (λ e. e ≡ f) → AsksOf g old new known r other
    asks_fault {old = old} {new = new} {r = r} h fault = record {
      reads = reads_fault h.reads (is_err r _ fault);
      cause = λ begun ours calm rows holds it. handed r _ _ fault (λ e same. subst (Blames (state g old) (state g new)) (sym same) (h.cause begun ours calm rows holds it));
    }

    -- what follows from what a read gives
    pub asks_more : {T : Type 0} {old new : Held S} {r : Result T StoreFault} {is other : Rows → T → Type 0}
        → AsksOf g old new known r is → ((rows : Rows) → Holds (state g old).now rows → (x : T) → is rows x → other rows x) → AsksOf g old new known r other
    asks_more h f = record { reads = reads_more h.reads f; cause = h.cause }

    -- a read of which less is known
    pub asks_as : {T : Type 0} {old new : Held S} {less : Rows → Type 0} {r : Result T StoreFault} {is : Rows → T → Type 0}
        → AsksOf g old new less r is → ((rows : Rows) → Holds (state g old).now rows → known rows → less rows) → AsksOf g old new known r is
    asks_as h f = record { reads = h.reads; cause = λ begun ours calm rows holds it. h.cause begun ours calm rows holds (f rows holds it) }

    -- a read after a read, by which more is known
    pub explained_then : {T : Type 0} {more : Rows → Type 0} (a b c : Held S) (r : Result T StoreFault) → ((begun : Bool) → IsOurs begun (state g a) → Stays begun (state g a) (state g b))
        → ((begun : Bool) → IsOurs begun (state g b) → Stays begun (state g b) (state g c)) → IsExplained g b c r more
        → ((begun : Bool) → IsOurs begun (state g a) → unsure begun (state g b) ≡ 0 → (rows : Rows) → Holds (state g a).now rows → known rows → more rows) → IsExplained g a c r known
    explained_then a b c r one two why f begun ours calm rows holds it =
        let kept = one begun ours in
        let before = sure_first (two begun kept.ours).later calm in
        let same : Holds (state g b).now rows = subst (λ (d : Database). Holds d rows) (sym (kept.same before)) holds in
        IfErr-weaker r _ _ (blames_both (state g a) (state g b) (state g c) kept.counts kept.limit) (why begun kept.ours calm rows same (f begun ours before rows holds it))

    pub asks_next : {T U : Type 0} {a b c : Held S} {x : T} {r : Result U StoreFault} {is : Rows → T → Type 0} {other : Rows → U → Type 0} {more : Rows → Type 0}
        → Reads g a b (Ok x) is → AsksOf g b c more r other → ((rows : Rows) → Holds (state g a).now rows → known rows → is rows x → more rows) → AsksOf g a c known r (λ rows y. is rows x × other rows y)
    asks_next {a = a} {b = b} {c = c} {r = r} one two f = record {
      reads = reads_then one two.reads;
      cause = explained_then a b c r (λ begun ours. one.stays ours) (λ begun ours. two.reads.stays ours) two.cause (λ begun ours calm rows holds it. f rows holds it (one.value ours calm rows holds));
    }

    pub asks_then : {T U : Type 0} {a b c : Held S} {x : T} {r : Result U StoreFault} {is : Rows → T → Type 0} {other : Rows → U → Type 0}
        → Reads g a b (Ok x) is → AsksOf g b c known r other → AsksOf g a c known r (λ rows y. is rows x × other rows y)
    asks_then one two = asks_next one two (λ rows holds it is. it)

  -- ---- steps inside a transaction

  -- a fault after a step
  pub steps_fault : {T U E F : Type 0} {old new : Savepoint S g} {r : Result T E} {does : T → Type 0} {other : U → Type 0} {e : F}
      → Steps g old new r does → Steps g old new (Err e) other
  steps_fault h = record {
    same_reference = h.same_reference;
    place = h.place;
    within = record { clean = h.within.clean; kept = h.within.kept; inside = λ clean inside. tt; marks = h.within.marks; stops = h.within.stops };
    ok = λ clean inside. tt;
  }

  -- what follows from what a step did
  pub steps_to : {T E : Type 0} {old new : Savepoint S g} {r : Result T E} {does other : T → Type 0}
      → Steps g old new r does → ((x : T) → does x → other x) → Steps g old new r other
  steps_to {r = r} h f = record { same_reference = h.same_reference; place = h.place; within = h.within; ok = λ clean inside. IfOk-weaker r _ _ f (h.ok clean inside) }

  -- no step yet
  pub steps_none : {T E : Type 0} {does : T → Type 0} (a : Savepoint S g) (x : T) → does x → Steps {E = E} g a a (Ok x) does
  steps_none a x it = record { same_reference = refl; place = refl; within = within_none (a.at + 1) (state g a.conn.now) x; ok = λ clean inside. it }

  -- what follows from a step that answered Ok
  pub steps_as : {T U E F : Type 0} {old new : Savepoint S g} {x : T} (r : Result U F) {does : T → Type 0} {other : U → Type 0}
      → Steps {E = E} g old new (Ok x) does → (does x → IfOk r other) → Steps g old new r other
  steps_as {old = old} {new = new} (Ok y) h f = record {
    same_reference = h.same_reference;
    place = h.place;
    within = record { clean = h.within.clean; kept = h.within.kept; inside = h.within.inside; marks = h.within.marks; stops = h.within.stops };
    ok = λ clean inside. f (h.ok clean inside);
  }
  steps_as (Err e) h f = steps_fault h

  -- a step after a step
  pub steps_then : {T U E F : Type 0} {a b c : Savepoint S g} {x : T} {r : Result U F} {does : T → Type 0} {other : U → Type 0}
      → Steps {E = E} g a b (Ok x) does → Steps g b c r other → Steps g a c r (λ y. does x × other y)
  steps_then {a = a} {b = b} {c = c} {x = x} {r = r} one two = record {
    same_reference = two.same_reference ∙ one.same_reference;
    place = two.place ∙ one.place;
    within = within_then (a.at + 1) (state g a.conn.now) (state g b.conn.now) (state g c.conn.now) x r one.within (subst (λ n. Within (n + 1) (state g b.conn.now) (state g c.conn.now) r) one.place two.within);
    ok = λ clean inside.
        let early : HasCleanDisk (state g b.conn.now) = (let e = two.within.clean in omega arith) in
        IfOk-weaker r _ _ (λ y is. (one.ok early inside, is)) (two.ok clean (one.within.inside early inside));
  }

  -- what a statement does to the rows
  pub runs_to : {T : Type 0} (sql : List ℕ) (params : Row) {old new : Savepoint S g} {r : Result T StoreFault} {counts : ℕ → Type 0} {change : Rows → Rows}
      → Runs g sql params old new r counts
      → ((count : ℕ) → counts count → (state g old.conn.now).now.schema ≡ office_schema
      → Executes sql params (state g old.conn.now) (state g new.conn.now) (Ok count) → Brings change (state g old.conn.now) (state g new.conn.now))
      → Writes g old new r change
  runs_to sql params h f = steps_to h (λ x it has. f it.0 it.1 has it.2)

  -- what a statement does that changed one row
  pub runs_one : {T : Type 0} (sql : List ℕ) (params : Row) {old new : Savepoint S g} {r : Result T StoreFault} {does : Type 0}
      → Runs g sql params old new r (λ count. count ≡ 1)
      → ((state g old.conn.now).now.schema ≡ office_schema → Executes sql params (state g old.conn.now) (state g new.conn.now) (Ok 1) → does)
      → Steps g old new r (λ _. (state g old.conn.now).now.schema ≡ office_schema → does)
  runs_one sql params {old = old} {new = new} h f =
      steps_to h (λ x it has. f has (subst (λ n. Executes sql params (state g old.conn.now) (state g new.conn.now) (Ok n)) it.1 it.2))

  -- what follows from what was found
  pub finds_to : {T U : Type 0} {old new : Savepoint S g} {x : T} (r : Result U StoreFault) {is : Rows → T → Type 0} {other : Rows → U → Type 0}
      → Finds g old new (Ok x) is → ((rows : Rows) → Holds (state g old.conn.now).now rows → is rows x → IfOk r (other rows)) → Finds g old new r other
  finds_to (Ok y) h f = steps_as (Ok y) h (λ seen has. record { same = (seen has).same; value = λ rows holds. f rows holds ((seen has).value rows holds) })
  finds_to (Err e) h f = steps_fault h

  -- a look after a look
  pub finds_next : {T U : Type 0} {a b c : Savepoint S g} {x : T} {r : Result U StoreFault} {is : Rows → T → Type 0} {other : Rows → U → Type 0}
      → Finds g a b (Ok x) is → Finds g b c r other → Finds g a c r (λ rows y. is rows x × other rows y)
  finds_next one two = steps_to (steps_then one two) (λ y both has.
      let seen = both.0 has in
      let last = both.1 (ap (λ (d : Database). d.schema) seen.same ∙ has) in
      record { same = last.same ∙ seen.same; value = λ rows holds. (seen.value rows holds, last.value rows (subst (λ (d : Database). Holds d rows) (sym seen.same) holds)) })

  -- a change as another that gives the same
  pub writes_as : {T : Type 0} {old new : Savepoint S g} {r : Result T StoreFault} {one two : Rows → Rows}
      → Writes g old new r one → ((rows : Rows) → Holds (state g old.conn.now).now rows → one rows ≡ two rows) → Writes g old new r two
  writes_as {old = old} {new = new} {one = one} {two = two} h same =
      steps_to h (λ x went has. goes_as one two (state g old.conn.now) (state g new.conn.now) same (went has))

  -- no change yet
  pub writes_none : (a : Savepoint S g) → Writes g a a going (λ rows. rows)
  writes_none a = steps_none a tt (λ has. brings_none (state g a.conn.now) has)

  -- no change after a look
  pub finds_none : {T U : Type 0} {a b : Savepoint S g} {x : T} {y : U} {is : Rows → T → Type 0} {change : Rows → Rows}
      → Finds g a b (Ok x) is → ((rows : Rows) → Holds (state g a.conn.now).now rows → is rows x → rows ≡ change rows) → Writes g a b (Ok y) change
  finds_none {a = a} {b = b} {y = y} found f =
      let old = state g a.conn.now in
      let new = state g b.conn.now in
      steps_as (Ok y) found (λ seen has. goes_as _ _ old new (λ r holds. f r holds ((seen has).value r holds)) (brings_same _ old old old new refl (seen has).same (brings_none old has)))

  -- a change after a look
  pub finds_then : {T U : Type 0} {a b c : Savepoint S g} {x : T} {r : Result U StoreFault} {is : Rows → T → Type 0} {one two : Rows → Rows}
      → Finds g a b (Ok x) is → Writes g b c r one → ((rows : Rows) → Holds (state g a.conn.now).now rows → is rows x → one rows ≡ two rows) → Writes g a c r two
  finds_then {a = a} {b = b} {c = c} found wrote f =
      steps_to (steps_then found wrote) (λ y both has.
      let seen = both.0 has in
      let went = both.1 (ap (λ (d : Database). d.schema) seen.same ∙ has) in
      goes_as _ _ (state g a.conn.now) (state g c.conn.now) (λ r holds. f r holds (seen.value r holds))
      (brings_same _ (state g a.conn.now) (state g b.conn.now) (state g c.conn.now) (state g c.conn.now) seen.same refl went))

  -- a change after a change
  pub writes_then : {T U : Type 0} {a b c : Savepoint S g} {x : T} {r : Result U StoreFault} {one two : Rows → Rows}
      → Writes g a b (Ok x) one → Writes g b c r two → Writes g a c r (λ rows. two (one rows))
  writes_then {a = a} {b = b} {c = c} {one = one} {two = two} first second =
      steps_to (steps_then first second) (λ y both has.
      let went = both.0 has in
      goes_then one two (state g a.conn.now) (state g b.conn.now) (state g c.conn.now) went (both.1 went.schema))
