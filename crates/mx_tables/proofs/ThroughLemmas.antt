-- Reads by way of the cache, one after another.
use Rattle.mx_tables.proofs.Common.{◌≡◌, ◌∙◌, Ok, IfOk-weaker, Database, Rows, Holds, going, state}
use Rattle.std.proofs.Common.{Err, Result, ap, sym, subst}
use Rattle.std.specs.Prelude.{IsErrAnd}
use Rattle.std.proofs.lemmas.Result.{IfOk-from_err}
use Rattle.std.specs.Result.{IsErr}
use Rattle.sqlite_trees.specs.declared.store.Store.{Ghosts}
use Rattle.sqlite.specs.Held.{Held}
use Rattle.sqlite.specs.State.{State}
use Rattle.sqlite.specs.declared.savepoint.Savepoint.{Savepoint}
use Rattle.mx_book.specs.Spells as book
use Rattle.mx_book.specs.World.{World}
use Rattle.mx_book.specs.declared.contract.StoreFault.{StoreFault}
use Rattle.mx_tables.specs.Cached.{Agrees, BringsThrough, ReadsThrough, WritesThrough}
use Rattle.mx_tables.specs.States.{Asks, Blames, Finds, IsExplained, IsForMemory, Reads, SpellAny, Writes}
use Rattle.mx_tables.proofs.CallLemmas.{asks_fault, asks_wrong, explained_then, steps_as, steps_none, steps_then, steps_to}
use Rattle.mx_tables.proofs.CauseLemmas.{by_memory, handed, is_err}
use Rattle.mx_tables.specs.declared.cache.Cache.{Cache}
use Rattle.mx_tables.proofs.StateLemmas.{stays_same, stays_then, sure_first}

module _ {S : Type 0} (g : Ghosts S) where
  -- what the cache answers alone
  pub through_cache : {T : Type 0} {old : Held S} {k l : Cache} {x : T} {is : Rows → World → T → Type 0}
      → ((rows : Rows) (w : World) → book.Spells rows w → Agrees rows k → Agrees rows l × is rows w x) → ReadsThrough g old old k l (Ok x) is
  through_cache {old = old} f = record {
    stays = λ ours. stays_same (state g old) ours;
    agrees = λ ours calm rows w holds spells it. f rows w spells it;
    cause = λ begun ours calm rows holds it. tt;
  }

  -- a read that leaves the cache
  pub through_read : {T : Type 0} {old new : Held S} {k : Cache} {r : Result T StoreFault} {is : Rows → T → Type 0} {other : Rows → World → T → Type 0}
      → Asks g old new r is → ((rows : Rows) (w : World) → book.Spells rows w → (x : T) → is rows x → other rows w x) → ReadsThrough g old new k k r other
  through_read {r = r} h f = record {
    stays = λ ours. h.reads.stays ours;
    agrees = λ ours calm rows w holds spells it. (it, IfOk-weaker r _ _ (f rows w spells) (h.reads.value ours calm rows holds));
    cause = h.cause;
  }

  -- a fault of such a read
  pub through_stopped : {T U : Type 0} {old new : Held S} {k : Cache} {f : StoreFault} {r : Result U StoreFault} {is : Rows → T → Type 0} {other : Rows → World → U → Type 0}
      → Asks g old new (Err f) is → IsErrAnd r (λ e. e ≡ f) → ReadsThrough g old new k k r other
  through_stopped {U = U} h fault = through_read {is = λ rows (x : U). ⊥} (asks_fault g h fault) (λ rows w spells x never. absurd never)

  -- a fault after such a read, which the World excludes
  pub through_wrong : {T U : Type 0} {old new : Held S} {k : Cache} {x : T} {r : Result U StoreFault} {is : Rows → T → Type 0} {other : Rows → World → U → Type 0}
      → Reads g old new (Ok x) is → IsErr r → ((rows : Rows) → Holds (state g old).now rows → SpellAny rows → is rows x → ⊥) → ReadsThrough g old new k k r other
  through_wrong {U = U} h fault never = through_read {is = λ rows (x : U). ⊥} (asks_wrong g h fault never) (λ rows w spells x never. absurd never)

  -- what is cached is less before a read
  pub through_less : {T : Type 0} {old new : Held S} {k l m : Cache} {r : Result T StoreFault} {is : Rows → World → T → Type 0}
      → ((rows : Rows) → Agrees rows k → Agrees rows l) → ReadsThrough g old new l m r is → ReadsThrough g old new k m r is
  through_less f h = record { stays = λ ours. h.stays ours; agrees = λ ours calm rows w holds spells it. h.agrees ours calm rows w holds spells (f rows it); cause = h.cause }

  -- what is cached of what was read
  pub through_filled : {T U : Type 0} {old new : Held S} {k l m : Cache} {x : T} {y : U} {is : Rows → World → T → Type 0} {other : Rows → World → U → Type 0}
      → ReadsThrough g old new k l (Ok x) is → ((rows : Rows) (w : World) → book.Spells rows w → is rows w x → Agrees rows l → Agrees rows m)
      → ((rows : Rows) (w : World) → book.Spells rows w → is rows w x → other rows w y) → ReadsThrough g old new k m (Ok y) other
  through_filled h fills f = record {
    stays = λ ours. h.stays ours;
    agrees = λ ours calm rows w holds spells it.
        let both = h.agrees ours calm rows w holds spells it in
        (fills rows w spells both.1 both.0, f rows w spells both.1);
    cause = λ begun ours calm rows holds it. tt;
  }

  -- what follows from what was read
  pub through_to : {T U : Type 0} {old new : Held S} {k l : Cache} {x : T} {y : U} {is : Rows → World → T → Type 0} {other : Rows → World → U → Type 0}
      → ReadsThrough g old new k l (Ok x) is → ((rows : Rows) (w : World) → book.Spells rows w → is rows w x → other rows w y) → ReadsThrough g old new k l (Ok y) other
  through_to h = through_filled h (λ rows w spells is it. it)

  fault_by : {T U : Type 0} {old new : Held S} {k l : Cache} {q : Result T StoreFault} {r : Result U StoreFault} {is : Rows → World → T → Type 0} {other : Rows → World → U → Type 0}
      → ReadsThrough g old new k l q is → IsErr r → IsExplained g old new r SpellAny → ReadsThrough g old new k l r other
  fault_by {r = r} {other = other} h fault why = record {
    stays = λ ours. h.stays ours;
    agrees = λ ours calm rows w holds spells it. ((h.agrees ours calm rows w holds spells it).0, IfOk-from_err r (other rows w) fault);
    cause = why;
  }

  -- a fault of such a read, and want of memory after it
  pub through_fault : {T U : Type 0} {old new : Held S} {k l : Cache} {f : StoreFault} {r : Result U StoreFault} {is : Rows → World → T → Type 0} {other : Rows → World → U → Type 0}
      → ReadsThrough g old new k l (Err f) is → IsErrAnd r (λ e. e ≡ f) → ReadsThrough g old new k l r other
  through_fault {old = old} {new = new} {r = r} h fault =
      fault_by h (is_err r _ fault) (λ begun ours calm rows holds it.
      handed r _ _ fault (λ e same. subst (Blames (state g old) (state g new)) (sym same) (h.cause begun ours calm rows holds it)))

  pub through_short : {T U : Type 0} {old new : Held S} {k l : Cache} {x : T} {r : Result U StoreFault} {is : Rows → World → T → Type 0} {other : Rows → World → U → Type 0}
      → ReadsThrough g old new k l (Ok x) is → IsErrAnd r IsForMemory → ReadsThrough g old new k l r other
  through_short {old = old} {new = new} {r = r} h fault = fault_by h (is_err r _ fault) (λ begun ours calm rows holds it. handed r _ _ fault (by_memory (state g old) (state g new)))

  -- a read after a read
  pub through_then : {T U : Type 0} {a b c : Held S} {k l m : Cache} {x : T} {r : Result U StoreFault} {is : Rows → World → T → Type 0} {other : Rows → World → U → Type 0}
      → ReadsThrough g a b k l (Ok x) is → ReadsThrough g b c l m r other → ReadsThrough g a c k m r (λ rows w y. is rows w x × other rows w y)
  through_then {a = a} {b = b} {c = c} {r = r} one two = record {
    stays = λ ours. stays_then (state g a) (state g b) (state g c) (one.stays ours) (two.stays (one.stays ours).ours);
    agrees = λ ours calm rows w holds spells it.
        let kept = one.stays ours in
        let before = sure_first (two.stays kept.ours).later calm in
        let first = one.agrees ours before rows w holds spells it in
        let second = two.agrees kept.ours calm rows w (subst (λ (d : Database). Holds d rows) (sym (kept.same before)) holds) spells first.0 in
        (second.0, IfOk-weaker r _ _ (λ y is. (first.1, is)) second.1);
    cause = explained_then g a b c r (λ begun ours. one.stays ours) (λ begun ours. two.stays ours) two.cause (λ begun ours calm rows holds it. it);
  }

  -- what follows from what such a read gives
  pub through_more : {T : Type 0} {old new : Held S} {k l : Cache} {r : Result T StoreFault} {is other : Rows → World → T → Type 0}
      → ReadsThrough g old new k l r is → ((rows : Rows) (w : World) → book.Spells rows w → (x : T) → is rows w x → other rows w x) → ReadsThrough g old new k l r other
  through_more {r = r} h f = record {
    stays = λ ours. h.stays ours;
    agrees = λ ours calm rows w holds spells it.
        let both = h.agrees ours calm rows w holds spells it in
        (both.0, IfOk-weaker r _ _ (f rows w spells) both.1);
    cause = h.cause;
  }

  -- ---- changes by way of the cache

  -- no change yet
  pub edits_none : {fits : Rows → Type 0} (a : Savepoint S g) (k : Cache) → WritesThrough g a a k k going fits (λ rows. rows)
  edits_none a k = steps_none g a tt (λ has. record { schema = has; rows = λ rows holds fit it. (holds, it) })

  -- a change that the cache follows
  pub edits_follow : {T : Type 0} {a b : Savepoint S g} {k l : Cache} {r : Result T StoreFault} {fits : Rows → Type 0} {change : Rows → Rows}
      → Writes g a b r change → ((rows : Rows) → fits rows → Agrees rows k → Agrees (change rows) l) → WritesThrough g a b k l r fits change
  edits_follow h f = steps_to g h (λ x went has. record { schema = (went has).schema; rows = λ rows holds fit it. ((went has).rows rows holds, f rows fit it) })

  -- a change that is this one of rows that the cache agrees with
  pub edits_as : {T : Type 0} {a b : Savepoint S g} {k l : Cache} {r : Result T StoreFault} {fits : Rows → Type 0} {one two : Rows → Rows}
      → Writes g a b r one → ((rows : Rows) → fits rows → Agrees rows k → (one rows ≡ two rows) × Agrees (two rows) l) → WritesThrough g a b k l r fits two
  edits_as {b = b} h f = steps_to g h (λ x went has. record {
    schema = (went has).schema;
    rows = λ rows holds fit it. let both = f rows fit it in (subst (Holds (state g b.conn.now).now) both.0 ((went has).rows rows holds), both.1);
  })

  -- a look, after which the cache agrees still
  pub edits_found : {T U : Type 0} {a b c : Savepoint S g} {k l : Cache} {x : U} {y z : T} {fits : Rows → Type 0} {is : Rows → U → Type 0} {change : Rows → Rows}
      → Writes g a b (Ok y) change → Finds g b c (Ok x) is → ((rows : Rows) → fits rows → is (change rows) x → Agrees rows k → Agrees (change rows) l) → WritesThrough g a c k l (Ok z) fits change
  edits_found {a = a} {b = b} {c = c} {z = z} {change = change} wrote found f = steps_as g (Ok z) (steps_then g wrote found) (λ both has.
      let went = both.0 has in
      let seen = both.1 went.schema in record {
        schema = ap (λ (d : Database). d.schema) seen.same ∙ went.schema;
        rows = λ rows holds fit it.
            let made = went.rows rows holds in
            (subst (λ (d : Database). Holds d (change rows)) (sym seen.same) made, f rows fit (seen.value (change rows) made) it);
      })

  -- a change after a change
  pub edits_then : {T U : Type 0} {a b c : Savepoint S g} {k l m : Cache} {x : T} {r : Result U StoreFault} {fits less : Rows → Type 0} {one two both : Rows → Rows}
      → WritesThrough g a b k l (Ok x) fits one → WritesThrough g b c l m r less two → ((rows : Rows) → fits rows → less (one rows)) → ((rows : Rows) → two (one rows) ≡ both rows) → WritesThrough g a c k m r fits both
  edits_then {c = c} {m = m} {one = one} first second f same = steps_to g (steps_then g first second) (λ y went has.
      let early = went.0 has in
      let late = went.1 early.schema in record {
        schema = late.schema;
        rows = λ rows holds fit it.
            let before = early.rows rows holds fit it in
            let after = late.rows (one rows) before.0 (f rows fit) before.1 in
            (subst (Holds (state g c.conn.now).now) (same rows) after.0, subst (λ z. Agrees z m) (same rows) after.1);
      })

  -- the same change as another
  pub edits_same : {T : Type 0} {a b : Savepoint S g} {k l : Cache} {r : Result T StoreFault} {fits : Rows → Type 0} {one two : Rows → Rows}
      → WritesThrough g a b k l r fits one → ((rows : Rows) → one rows ≡ two rows) → WritesThrough g a b k l r fits two
  edits_same {b = b} {l = l} h same = steps_to g h (λ x went has. record {
    schema = (went has).schema;
    rows = λ rows holds fit it.
        let after = (went has).rows rows holds fit it in
        (subst (Holds (state g b.conn.now).now) (same rows) after.0, subst (λ z. Agrees z l) (same rows) after.1);
  })

-- a change of rows that were the same before, and leave the same
pub through_same : {fits : Rows → Type 0} {change : Rows → Rows} {k l : Cache} (a b c d : State) → b.now ≡ a.now → d.now ≡ c.now → BringsThrough fits change b c k l → BringsThrough fits change a d k l
through_same {change = change} a b c d before after went = record {
  schema = ap (λ (x : Database). x.schema) after ∙ went.schema;
  rows = λ r holds fit it.
      let both = went.rows r (subst (λ (x : Database). Holds x r) (sym before) holds) fit it in
      (subst (λ (x : Database). Holds x (change r)) (sym after) both.0, both.1);
}
