-- What an audit finds of the tables of a store.
use Rattle.mx_tables.proofs.Common.{◌≡◌, ℕ, Bool, true, false, Ok, Database, Rows, Holds}
use Rattle.std.proofs.Common.{IsTrue, refl, sym, subst, Result, Err, IfOk}
use Rattle.std.specs.Prelude.{◌↔◌, ⊤}
use Rattle.std.specs.Result.{IsErr, result_map_both}
use Rattle.sqlite.specs.Effect.{IsDatabase}
use Rattle.sqlite.specs.Held.{Held, state}
use Rattle.sqlite.specs.State.{IsLive}
use Rattle.sqlite_trees.specs.declared.store.Store.{Ghosts}
use Rattle.mx_book.specs.Rows.{world_of}
use Rattle.mx_book.specs.World.{World}
use Rattle.mx_book.specs.declared.contract.StoreFault.{StoreFault}
use Rattle.mx_tables.specs.Answers.{ArePurses}
use Rattle.mx_tables.specs.Holds.{Spells, SpellsOne}
use Rattle.mx_tables.specs.Made.{HasVersion}
use Rattle.mx_tables.specs.Results.{AreDetails}
use Rattle.mx_tables.specs.Schema.{office_schema}
use Rattle.mx_tables.specs.States.{IsOurs, Reads, unsure}
use Rattle.mx_tables.proofs.StateLemmas.{idle_sure, no_worry, stays_then, sure_first, sure_in, sure_before, sound, on_ok_never}
use Rattle.mx_audit.specs.Audit.{IsBegun}
use Rattle.mx_audit.specs.Audited.{Audits, GoesOver, IsLookedUp, sources}
use Rattle.mx_audit.specs.Raw.{AreInOrder}
use Rattle.mx_audit.specs.Scans.{Scans}
use Rattle.mx_audit.specs.Seen.{is_whole}
use Rattle.mx_audit.specs.declared.audit.Audit.{Audit}

-- two counts are none exactly where their sum is
pub both_none : (one two sum : ℕ) {A B : Type 0} → (one ≡ 0 ↔ A) → (two ≡ 0 ↔ B) → (sum ≡ 0 ↔ (one ≡ 0) × (two ≡ 0)) → (sum ≡ 0 ↔ A × B)
both_none one two sum a b both = (λ none. let parts = both.0 none in (a.0 parts.0, b.0 parts.1), λ all. both.1 (a.1 all.0, b.1 all.1))

-- what was gone over decides
pub record Decides (db : Database) (final : Audit) : Type 0 where
  -- where there is a World nothing was found
  pub fine : (w : World) (s : Spells db w) → (final.found ≡ 0) × (is_whole final.seen ≡ true) × ArePurses s.rows × AreDetails s.rows.archive × IsLookedUp s.rows final
  -- where nothing was found there are rows of a book, of a World if all that has to be looked up is as it should be
  pub holds : IsDatabase db → AreInOrder db → HasVersion 2 db → final.found ≡ 0 → is_whole final.seen ≡ true
      → (r : Rows) × Holds db r × ArePurses r × AreDetails r.archive × (IsLookedUp r final → SpellsOne db (world_of r))

if_ok_never : {T E : Type 0} (r : Result T E) (P : T → Type 0) → IsErr r → IfOk r P
if_ok_never (Ok x) P fault = absurd (cc)
if_ok_never (Err e) P fault = tt

module _ (decides : (db : Database) (begin final : Audit) → db.schema ≡ office_schema → IsBegun begin → GoesOver db.trees sources begin final → Decides db final) {S : Type 0} (g : Ghosts S) where
  -- what was gone over without doubt
  over : {begun : Bool} (a b : Held S) (begin final : Audit) → Scans {S = S} {T = ⊤} g a b (Ok tt) (GoesOver (state g a).now.trees sources begin final) → IsBegun begin → IsOurs begun (state g a) → unsure begun (state g b) ≡ 0 → Decides (state g a).now final
  over {begun} a b begin final scans began ours calm =
      let kept = scans.stays ours in
      decides (state g a).now begin final (ours.schema (sure_before (state g a) (state g b) kept.lasts (sound begun (state g b) calm))) began (scans.value ours calm)

  pub audits_fault : (a b : Held S) {did : Type 0} {q : Result ⊤ StoreFault} {r : Result ℕ StoreFault} → Scans g a b q did → IsErr r → Audits g a b r
  audits_fault a b {r = r} scans fault = record {
    stays = scans.stays;
    sound = λ ours calm version. if_ok_never r _ fault;
    whole = λ ours calm w s. if_ok_never r _ fault;
    live = on_ok_never r _ fault;
  }

  -- a fault of what is read behind it
  pub audits_stopped : (a b c : Held S) {T did : Type 0} {q : Result T StoreFault} {is : Rows → T → Type 0} {r : Result ℕ StoreFault} → Scans {S = S} {T = ⊤} g a b (Ok tt) did → Reads g b c q is
      → IsErr r → Audits g a c r
  audits_stopped a b c {r = r} scans reads fault = record {
    stays = λ ours. let kept = scans.stays ours in stays_then (state g a) (state g b) (state g c) kept (reads.stays kept.ours);
    sound = λ ours calm version. if_ok_never r _ fault;
    whole = λ ours calm w s. if_ok_never r _ fault;
    live = on_ok_never r _ fault;
  }

  -- all that was found comes to this, where the store keeps its rows in order
  pub audits_looked : (a b c : Held S) (begin final : Audit) (missing looked sum : ℕ) → Scans {S = S} {T = ⊤} g a b (Ok tt) (GoesOver (state g a).now.trees sources begin final) → IsBegun begin → IsLive (state g a)
      → (IsTrue (state g a).is_open → (state g a).now ≡ (state g a).committed → IsDatabase (state g a).now → AreInOrder (state g a).now)
      → (missing ≡ 0 ↔ is_whole final.seen ≡ true)
      → Reads g b c (Ok looked) (λ rows found. Unit {0} × (ArePurses rows → AreDetails rows.archive → (found ≡ 0 ↔ IsLookedUp rows final)))
      → (sum ≡ 0 ↔ (final.found ≡ 0) × (missing ≡ 0) × (looked ≡ 0)) → Audits g a c (Ok sum)
  audits_looked a b c begin final missing looked sum scans began live ordered whole reads parts = record {
    stays = λ ours. let kept = scans.stays ours in stays_then (state g a) (state g b) (state g c) kept (reads.stays kept.ours);
    sound = λ ours calm version zero.
        let none = parts.0 zero in
        let kept = scans.stays ours in
        let last = idle_sure (state g c) calm in
        let before = sure_first (reads.stays kept.ours).later last in
        let first = sure_in false (state g a) (sure_first kept.later before) in
        let database = (live first.0).0 in
        let steady = ours.steady (no_worry (state g a) first.0 first.1) (ours.idle first.1 refl) in
        let rows = (over a b begin final scans began ours before).holds database (ordered first.0 (sym steady) database) version none.0 (whole.0 none.1) in
        let there : Holds (state g b).now rows.0 = subst (λ (d : Database). Holds d rows.0) (sym (kept.same before)) rows.1 in
        (world_of rows.0, rows.4 (((reads.value kept.ours last rows.0 there).1 rows.2 rows.3).0 none.2));
    whole = λ ours calm w s.
        let kept = scans.stays ours in
        let before = sure_first (reads.stays kept.ours).later calm in
        let fine = (over a b begin final scans began ours before).fine w s in
        let there : Holds (state g b).now s.rows = subst (λ (d : Database). Holds d s.rows) (sym (kept.same before)) s.holds in
        parts.1 (fine.0, whole.1 fine.1, ((reads.value kept.ours calm s.rows there).1 fine.2 fine.3).1 fine.4);
    live = reads.live;
  }

-- a fault of what has more to say
pub fault_mapped : {T U : Type 0} (f : T → U) (r : Result T StoreFault) → IsErr r → IsErr (result_map_both f (λ e. e) r)
fault_mapped f (Ok x) fault = absurd (cc)
fault_mapped f (Err e) fault = fault
