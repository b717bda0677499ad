-- All tables are gone over, one after another.
use Rattle.mx_tables.proofs.Common.{◌≡◌, ℕ, ◌+◌, ◌<◌, ◌≤◌, List, [], ◌∷◌, ◌++◌, codes, refl, ◌∙◌, length, take, Row, col, office_schema}
use Rattle.std.proofs.Common.{sym, ap, subst, get_or}
use Rattle.std.proofs.lemmas.List.{take_more, take_all}
use Rattle.sqlite_tied.specs.Compute.{everything}
use Rattle.sqlite_trees.specs.Tree.{Trees}
use Rattle.sqlite.specs.Listing.{understood}
use Rattle.sqlite.specs.State.{State, Shown}
use Rattle.mx_tables.specs.States.{IsQuery}
use Rattle.mx_tables.proofs.Texts.{IsSelect}
use Rattle.mx_audit.specs.Audited.{IsScan}
use Rattle.mx_audit.specs.Typed.{source_text}
use Rattle.mx_audit.specs.declared.typed.Source.{Source}
use Rattle.mx_audit.specs.declared.typed.Source.TheVariants.{Meta, Members, Holders, Tokens, Purses, Inbox, Lines, Tray, Archive, Loads, Redemptions, Settled}
use Rattle.mx_audit.proofs.ScanLemmas as scan
use Rattle.std.proofs.Common.{Bool, Ok, Result}
use Rattle.std.specs.Result.{IsErr}
use Rattle.sqlite_schema.specs.declared.schema.Schema.{Schema}
use Rattle.sqlite.specs.Held.{Held, state}
use Rattle.sqlite.specs.Effect.{Database}
use Rattle.sqlite_trees.specs.declared.store.Store.{Ghosts}
use Rattle.mx_book.specs.declared.contract.StoreFault.{StoreFault}
use Rattle.mx_tables.specs.States.{IsAt, IsAwake, StaysAt, unsure}
use Rattle.mx_tables.proofs.StateLemmas.{stays_same, stays_then, sure_first, on_ok_never}
use Rattle.mx_audit.specs.Scans.{Each, ScansAt}

abbrev scan_meta : List ℕ
scan_meta = codes "SELECT version, id FROM meta"

scan_meta_is : IsSelect scan_meta 0 [] (col 1 2 ∷ col 1 0 ∷ []) [] (codes "version" ∷ codes "id" ∷ [])
unfolding understood everything
scan_meta_is = record { is = refl; query = record { plain = (refl, refl); silent = λ _ _. refl }; unlisted = refl }

-- each text is a query
pub source_query : (from : Source) → IsQuery (source_text from)
source_query Meta = scan_meta_is.query
source_query Members = scan.scan_members_is.query
source_query Holders = scan.scan_holders_is.query
source_query Tokens = scan.scan_tokens_is.query
source_query Purses = scan.scan_purses_is.query
source_query Inbox = scan.scan_inbox_is.query
source_query Lines = scan.scan_lines_is.query
source_query Tray = scan.scan_tray_is.query
source_query Archive = scan.scan_archive_is.query
source_query Loads = scan.scan_loads_is.query
source_query Redemptions = scan.scan_redemptions_is.query
source_query Settled = scan.scan_settled_is.query

-- and shows all rows of its table
pub source_shows : (from : Source) (old new : State) (rows : List Row) → old.now.schema ≡ office_schema → Shown (source_text from) [] old new rows → IsScan from old.now.trees rows
source_shows Meta old new rows has h = scan.shows_all _ _ _ _ scan_meta_is old new rows h has
source_shows Members old new rows has h = scan.shows_members old new rows has h
source_shows Holders old new rows has h = scan.shows_holders old new rows has h
source_shows Tokens old new rows has h = λ rise. scan.shows_tokens old new rows has rise h
source_shows Purses old new rows has h = scan.shows_purses old new rows has h
source_shows Inbox old new rows has h = scan.shows_inbox old new rows has h
source_shows Lines old new rows has h = scan.shows_lines old new rows has h
source_shows Tray old new rows has h = scan.shows_tray old new rows has h
source_shows Archive old new rows has h = scan.shows_archive old new rows has h
source_shows Loads old new rows has h = scan.shows_loads old new rows has h
source_shows Redemptions old new rows has h = scan.shows_redemptions old new rows has h
source_shows Settled old new rows has h = scan.shows_settled old new rows has h

-- one more
each_on : {X A : Type 0} (does : X → A → A → Type 0) (before : List X) (x : X) (old mid new : A) → Each does before old mid → does x mid new → Each does (before ++ x ∷ []) old new
each_on {A = A} does [] x old mid new was next = (new, subst (λ (a : A). does x a new) was next, refl)
each_on does (y ∷ more) x old mid new was next = (was.0, was.1, each_on does more x was.0 mid new was.2 next)

each_next : {X A : Type 0} (does : X → A → A → Type 0) (all : List X) (at : ℕ) (x : X) (old mid new : A) → at < length all → x ≡ get_or all at x → Each does (take at all) old mid → does x mid new → Each does (take (at + 1) all) old new
each_next {X = X} does all at x old mid new within is was next =
    subst (λ (l : List X). Each does l old new) (ap (λ y. take at all ++ y ∷ []) is ∙ sym (take_more all at x within)) (each_on does (take at all) x old mid new was next)

-- ---- the connection meanwhile

-- it is as it was but for a fault, and without doubt this was done
pub record IsOver {S : Type 0} (of : Schema) (g : Ghosts S) (old new : Held S) (did : Type 0) : Type 0 where
  pub stays : {begun : Bool} → IsAt begun of (state g old) → StaysAt begun of (state g old) (state g new)
  pub value : {begun : Bool} → IsAt begun of (state g old) → unsure begun (state g new) ≡ 0 → did

module _ {S : Type 0} {of : Schema} (g : Ghosts S) where
  pub over_none : (h : Held S) {did : Type 0} → did → IsOver of g h h did
  over_none h done = record { stays = λ ours. stays_same (state g h) ours; value = λ ours calm. done }

  -- a fault behind some
  pub over_fault : (a b c : Held S) {one two : Type 0} {did : Type 0} {q r : Result (Unit {0}) StoreFault} → IsOver of g a b did → ScansAt of g b c q one → IsErr r → ScansAt of g a c r two
  over_fault a b c {two = two} {r = r} was step fault = record {
    stays = λ ours. let kept = was.stays ours in stays_then (state g a) (state g b) (state g c) kept (step.stays kept.ours);
    value = λ ours calm. on_ok_never r two fault;
    live = on_ok_never r _ fault;
  }

  -- what is done with each of these, by what the tables hold
  module _ {X A : Type 0} (does : Trees → X → A → A → Type 0) where
    -- one more
    pub over_more : (a b c : Held S) (all : List X) (at : ℕ) (x : X) (old mid new : A) → at < length all → x ≡ get_or all at x
        → IsOver of g a b (Each (does (state g a).now.trees) (take at all) old mid) → ScansAt {T = Unit {0}} of g b c (Ok tt) (does (state g b).now.trees x mid new)
        → IsOver of g a c (Each (does (state g a).now.trees) (take (at + 1) all) old new)
    over_more a b c all at x old mid new within is was step = record {
      stays = λ ours. let kept = was.stays ours in stays_then (state g a) (state g b) (state g c) kept (step.stays kept.ours);
      value = λ {begun} ours calm.
          let kept = was.stays ours in
          let before = sure_first (step.stays kept.ours).later calm in
          each_next (does (state g a).now.trees) all at x old mid new within is (was.value ours before)
          (subst (λ (d : Database). does d.trees x mid new) (kept.same before) (step.value kept.ours calm));
    }

    -- all of them
    pub over_all : (a b : Held S) (all : List X) (at : ℕ) (old new : A) → length all ≤ at → IsAwake (state g b)
        → IsOver of g a b (Each (does (state g a).now.trees) (take at all) old new) → ScansAt {T = Unit {0}} of g a b (Ok tt) (Each (does (state g a).now.trees) all old new)
    over_all a b all at old new past live was = record {
      stays = was.stays;
      value = λ ours calm. subst (λ (l : List X). Each (does (state g a).now.trees) l old new) (take_all at all past) (was.value ours calm);
      live = live;
    }
