-- The queries of the audit, and what each shows of the rows of its table, whatever these are.
use Rattle.mx_tables.proofs.Common.{◌≡◌, ℕ, List, [], ◌∷◌, codes, refl, false, IsPermutation, Binary, Row, column, Term, col, office_schema}
use Rattle.std.proofs.Common.{Bool, Less, Ok, Err, Result, IfOk, OnOk, ap, map, subst, ◌∙◌}
use Rattle.std.proofs.lemmas.Result.{on_ok_weaker}
use Rattle.std.specs.Result.{IsErr}
use Rattle.sqlite_value.specs.declared.keys.Key.{Key}
use Rattle.sqlite_value.specs.Keys.{ascending}
use Rattle.sqlite_value.proofs.OrderLemmas.{then-Equal}
use Rattle.sqlite_trees.specs.Tree.{IsTable}
use Rattle.sqlite_trees.proofs.ListLemmas.{map-map}
use Rattle.sqlite_tied.specs.Compute.{everything}
use Rattle.sqlite_sql.specs.Term.{eval_all}
use Rattle.sqlite_sql.specs.Query.{Output, output, output_cmp}
use Rattle.sqlite_sql.proofs.QueryLemmas.{output_cmp_total}
use Rattle.sqlite_keyed.proofs.SortLemmas.{sorted_unique}
use Rattle.sqlite_keyed.proofs.ListLemmas.{ascending-map, ascending_weaker}
use Rattle.sqlite.specs.Listing.{understood, reads_listing}
use Rattle.sqlite.specs.State.{State, Shown}
use Rattle.sqlite.specs.Held.{Held, state}
use Rattle.sqlite_trees.specs.declared.store.Store.{Ghosts}
use Rattle.mx_book.specs.declared.contract.StoreFault.{StoreFault}
use Rattle.mx_tables.specs.States.{IsAt, IsQuery, Reads, StaysAt, unsure}
use Rattle.mx_tables.proofs.StateLemmas.{sound, stays_then, sure_before, sure_first, on_ok_anyway, on_ok_never}
use Rattle.mx_audit.specs.Scans.{Scans, ScansAt}
use Rattle.sqlite.proofs.Callers.{command_of, reads_as}
use Rattle.sqlite.specs.Given.{IsPlain}
use Rattle.sqlite_schema.specs.declared.command.Command.TheVariants.{Select}
use Rattle.sqlite_schema.specs.declared.schema.Schema.{Schema}
use Rattle.mx_tables.proofs.Texts.{IsSelect, alone, scan}
use Rattle.mx_tables.proofs.Statements.{env, picked, selected}
use Rattle.mx_tables.proofs.MemberLemmas.{filter_everything}

-- a query of all rows of a tree shows them, in some order
pub shows_all : (sql : List ℕ) (tree : ℕ) (project : List Term) (names : List (List ℕ)) → IsSelect sql tree [] project [] names
    → (old new : State) (rows : List Row) → Shown sql [] old new rows → old.now.schema ≡ office_schema → IsPermutation (map (λ r. eval_all project (env [] r)) (old.now.trees tree)) rows
shows_all sql tree project names text old new rows h has =
    let read = reads_as sql [] old new office_schema has _ text.is text.query.plain text.unlisted rows h in
    subst (λ all. IsPermutation (map (λ r. eval_all project (env [] r)) all) rows) (filter_everything (old.now.trees tree)) (picked tree [] project [] names old.now [] rows read)

-- by row number it shows them in the order of the tree
abbrev pub by_number : List (Term × Key)
by_number = (col 1 0, ascending Binary) ∷ []

pub shows_in_order : (of : Schema) (sql : List ℕ) (tree : ℕ) (project : List Term) (names : List (List ℕ)) → command_of (understood of sql) ≡ Select (alone (scan tree [] project by_number)) names
    → IsPlain (understood of sql) → reads_listing of sql ≡ false → (old new : State) (rows : List Row) → old.now.schema ≡ of → IsTable (old.now.trees tree) → Shown sql [] old new rows
    → rows ≡ map (λ r. eval_all project (env [] r)) (old.now.trees tree)
shows_in_order of sql at project names is plain unlisted old new rows has rise h =
    let tree = old.now.trees at in
    let q = scan at [] project by_number in
    let out = λ (r : Row). output q (env [] r) in
    let read = reads_as sql [] old new of has _ is plain unlisted rows h in
    let got = selected at [] project by_number names old.now [] rows read in
    let shown : IsPermutation (map out tree) got.0 =
    subst (λ all. IsPermutation all got.0) (map-map (output q) (env []) _ ∙ ap (map out) (filter_everything tree)) got.1 in
    let up = ascending-map (λ a b. output_cmp q a b ≡ Less) out tree (ascending_weaker _ _ (λ a b less. then-Equal _ ∙ less) tree rise) in
    let order : got.0 ≡ map out tree = sorted_unique (output_cmp q) (output_cmp_total q) (map out tree) got.0 up shown got.2 in
    got.3 ∙ ap (map (λ (o : Output). o.1)) order ∙ map-map (λ (o : Output). o.1) out tree

-- ---- the texts

abbrev pub scan_members : List ℕ
scan_members = codes "SELECT granted, unspent, name FROM member"

pub scan_members_is : IsSelect scan_members 1 [] (col 1 2 ∷ col 1 3 ∷ col 1 1 ∷ []) [] (codes "granted" ∷ codes "unspent" ∷ codes "name" ∷ [])
unfolding understood everything
scan_members_is = record { is = refl; query = record { plain = (refl, refl); silent = λ _ _. refl }; unlisted = refl }

abbrev pub scan_holders : List ℕ
scan_holders = codes "SELECT member, name FROM holder"

pub scan_holders_is : IsSelect scan_holders 6 [] (col 1 2 ∷ col 1 1 ∷ []) [] (codes "member" ∷ codes "name" ∷ [])
unfolding understood everything
scan_holders_is = record { is = refl; query = record { plain = (refl, refl); silent = λ _ _. refl }; unlisted = refl }

abbrev pub scan_purses : List ℕ
scan_purses = codes "SELECT holder, balance, next_number, status, details, log, line_count, next_message, name FROM purse"

pub scan_purses_is : IsSelect scan_purses 8 [] (col 1 2 ∷ col 1 3 ∷ col 1 4 ∷ col 1 5 ∷ col 1 6 ∷ col 1 7 ∷ col 1 8 ∷ col 1 9 ∷ col 1 1 ∷ []) []
    (codes "holder" ∷ codes "balance" ∷ codes "next_number" ∷ codes "status" ∷ codes "details" ∷ codes "log" ∷ codes "line_count" ∷ codes "next_message" ∷ codes "name" ∷ [])
unfolding understood everything
scan_purses_is = record { is = refl; query = record { plain = (refl, refl); silent = λ _ _. refl }; unlisted = refl }

abbrev pub scan_inbox : List ℕ
scan_inbox = codes "SELECT number, kind, details, purse FROM inbox"

pub scan_inbox_is : IsSelect scan_inbox 10 [] (col 1 2 ∷ col 1 3 ∷ col 1 4 ∷ col 1 1 ∷ []) [] (codes "number" ∷ codes "kind" ∷ codes "details" ∷ codes "purse" ∷ [])
unfolding understood everything
scan_inbox_is = record { is = refl; query = record { plain = (refl, refl); silent = λ _ _. refl }; unlisted = refl }

abbrev pub scan_lines : List ℕ
scan_lines = codes "SELECT number, kind, amount, balance, note, purse FROM line"

pub scan_lines_is : IsSelect scan_lines 12 [] (col 1 2 ∷ col 1 3 ∷ col 1 4 ∷ col 1 5 ∷ col 1 6 ∷ col 1 1 ∷ []) []
    (codes "number" ∷ codes "kind" ∷ codes "amount" ∷ codes "balance" ∷ codes "note" ∷ codes "purse" ∷ [])
unfolding understood everything
scan_lines_is = record { is = refl; query = record { plain = (refl, refl); silent = λ _ _. refl }; unlisted = refl }

abbrev pub scan_tray : List ℕ
scan_tray = codes "SELECT details, purse FROM tray"

pub scan_tray_is : IsSelect scan_tray 14 [] (col 1 2 ∷ col 1 1 ∷ []) [] (codes "details" ∷ codes "purse" ∷ [])
unfolding understood everything
scan_tray_is = record { is = refl; query = record { plain = (refl, refl); silent = λ _ _. refl }; unlisted = refl }

abbrev pub scan_archive : List ℕ
scan_archive = codes "SELECT details, purse FROM archive"

pub scan_archive_is : IsSelect scan_archive 16 [] (col 1 2 ∷ col 1 1 ∷ []) [] (codes "details" ∷ codes "purse" ∷ [])
unfolding understood everything
scan_archive_is = record { is = refl; query = record { plain = (refl, refl); silent = λ _ _. refl }; unlisted = refl }

abbrev pub scan_loads : List ℕ
scan_loads = codes "SELECT amount, reference, purse FROM load"

pub scan_loads_is : IsSelect scan_loads 18 [] (col 1 3 ∷ col 1 2 ∷ col 1 1 ∷ []) [] (codes "amount" ∷ codes "reference" ∷ codes "purse" ∷ [])
unfolding understood everything
scan_loads_is = record { is = refl; query = record { plain = (refl, refl); silent = λ _ _. refl }; unlisted = refl }

abbrev pub scan_redemptions : List ℕ
scan_redemptions = codes "SELECT amount, collected, reference, purse FROM redemption"

pub scan_redemptions_is : IsSelect scan_redemptions 20 [] (col 1 3 ∷ col 1 4 ∷ col 1 2 ∷ col 1 1 ∷ []) [] (codes "amount" ∷ codes "collected" ∷ codes "reference" ∷ codes "purse" ∷ [])
unfolding understood everything
scan_redemptions_is = record { is = refl; query = record { plain = (refl, refl); silent = λ _ _. refl }; unlisted = refl }

abbrev pub scan_settled : List ℕ
scan_settled = codes "SELECT details FROM settled"

pub scan_settled_is : IsSelect scan_settled 22 [] (col 1 1 ∷ []) [] (codes "details" ∷ [])
unfolding understood everything
scan_settled_is = record { is = refl; query = record { plain = (refl, refl); silent = λ _ _. refl }; unlisted = refl }

abbrev pub scan_tokens : List ℕ
scan_tokens = codes "SELECT kind, name, token FROM token ORDER BY rowid"

abbrev token_project : List Term
token_project = col 1 2 ∷ col 1 3 ∷ col 1 1 ∷ []

abbrev token_names : List (List ℕ)
token_names = codes "kind" ∷ codes "name" ∷ codes "token" ∷ []

pub scan_tokens_is : IsSelect scan_tokens 3 [] token_project by_number token_names
unfolding understood everything
scan_tokens_is = record { is = refl; query = record { plain = (refl, refl); silent = λ _ _. refl }; unlisted = refl }

-- the numbers of a purse's lines
pub numbers_query : IsQuery (codes "SELECT number FROM line WHERE purse = ?1 ORDER BY number")
unfolding understood everything
numbers_query = record { plain = (refl, refl); silent = λ _ _. refl }

-- ---- what they show

module _ (old new : State) (rows : List Row) (has : old.now.schema ≡ office_schema) where
  pub shows_members : Shown scan_members [] old new rows → IsPermutation (map (λ r. column r 2 ∷ column r 3 ∷ column r 1 ∷ []) (old.now.trees 1)) rows
  shows_members h = shows_all _ _ _ _ scan_members_is old new rows h has

  pub shows_holders : Shown scan_holders [] old new rows → IsPermutation (map (λ r. column r 2 ∷ column r 1 ∷ []) (old.now.trees 6)) rows
  shows_holders h = shows_all _ _ _ _ scan_holders_is old new rows h has

  pub shows_purses : Shown scan_purses [] old new rows
      → IsPermutation (map (λ r. column r 2 ∷ column r 3 ∷ column r 4 ∷ column r 5 ∷ column r 6 ∷ column r 7 ∷ column r 8 ∷ column r 9 ∷ column r 1 ∷ []) (old.now.trees 8)) rows
  shows_purses h = shows_all _ _ _ _ scan_purses_is old new rows h has

  pub shows_inbox : Shown scan_inbox [] old new rows → IsPermutation (map (λ r. column r 2 ∷ column r 3 ∷ column r 4 ∷ column r 1 ∷ []) (old.now.trees 10)) rows
  shows_inbox h = shows_all _ _ _ _ scan_inbox_is old new rows h has

  pub shows_lines : Shown scan_lines [] old new rows → IsPermutation (map (λ r. column r 2 ∷ column r 3 ∷ column r 4 ∷ column r 5 ∷ column r 6 ∷ column r 1 ∷ []) (old.now.trees 12)) rows
  shows_lines h = shows_all _ _ _ _ scan_lines_is old new rows h has

  pub shows_tray : Shown scan_tray [] old new rows → IsPermutation (map (λ r. column r 2 ∷ column r 1 ∷ []) (old.now.trees 14)) rows
  shows_tray h = shows_all _ _ _ _ scan_tray_is old new rows h has

  pub shows_archive : Shown scan_archive [] old new rows → IsPermutation (map (λ r. column r 2 ∷ column r 1 ∷ []) (old.now.trees 16)) rows
  shows_archive h = shows_all _ _ _ _ scan_archive_is old new rows h has

  pub shows_loads : Shown scan_loads [] old new rows → IsPermutation (map (λ r. column r 3 ∷ column r 2 ∷ column r 1 ∷ []) (old.now.trees 18)) rows
  shows_loads h = shows_all _ _ _ _ scan_loads_is old new rows h has

  pub shows_redemptions : Shown scan_redemptions [] old new rows → IsPermutation (map (λ r. column r 3 ∷ column r 4 ∷ column r 2 ∷ column r 1 ∷ []) (old.now.trees 20)) rows
  shows_redemptions h = shows_all _ _ _ _ scan_redemptions_is old new rows h has

  pub shows_settled : Shown scan_settled [] old new rows → IsPermutation (map (λ r. column r 1 ∷ []) (old.now.trees 22)) rows
  shows_settled h = shows_all _ _ _ _ scan_settled_is old new rows h has

  -- the tokens come by row number, which is the order of their tree
  pub shows_tokens : IsTable (old.now.trees 3) → Shown scan_tokens [] old new rows → rows ≡ map (λ r. column r 2 ∷ column r 3 ∷ column r 1 ∷ []) (old.now.trees 3)
  shows_tokens rise h =
      shows_in_order office_schema scan_tokens 3 token_project token_names scan_tokens_is.is scan_tokens_is.query.plain scan_tokens_is.unlisted old new rows has rise h

-- ---- scans one after another

nothing_said : {T E : Type 0} (r : Result T E) → IfOk r (λ _. Unit {0})
nothing_said (Ok x) = tt
nothing_said (Err e) = tt

module _ {S : Type 0} (g : Ghosts S) where
  -- a scan as a read that says nothing of the rows
  pub scans_read : {T U : Type 0} {old new : Held S} {x : T} {r : Result U StoreFault} {did : Type 0} → Scans g old new (Ok x) did → Reads g old new r (λ _ _. Unit {0})
  scans_read {r = r} h = record { stays = h.stays; value = λ ours calm rows holds. nothing_said r; live = on_ok_anyway r h.live }

  pub scan_fails : {T U : Type 0} {old new : Held S} {q : Result T StoreFault} {r : Result U StoreFault} {did : Type 0} → Scans g old new q did → IsErr r → Reads g old new r (λ _ _. Unit {0})
  scan_fails {r = r} h fault = record { stays = h.stays; value = λ ours calm rows holds. nothing_said r; live = on_ok_never r _ fault }

module _ {S : Type 0} (g : Ghosts S) {of : Schema} where
  -- without doubt the schema was this one
  was_of : {begun : Bool} (old new : Held S) → IsAt begun of (state g old) → StaysAt begun of (state g old) (state g new) → unsure begun (state g new) ≡ 0 → (state g old).now.schema ≡ of
  was_of {begun} old new ours stays calm = ours.schema (sure_before (state g old) (state g new) stays.lasts (sound begun (state g new) calm))

  -- what follows from what was done
  pub scans_more : {T : Type 0} {old new : Held S} {r : Result T StoreFault} {did other : Type 0}
      → ScansAt of g old new r did → ((state g old).now.schema ≡ of → did → other) → ScansAt of g old new r other
  scans_more {old = old} {new = new} {r = r} h f = record { stays = h.stays; value = λ ours calm. on_ok_weaker r (f (was_of old new ours (h.stays ours) calm)) (h.value ours calm); live = h.live }

  -- a scan that answered Ok, as what answers something else
  pub scans_to : {T U : Type 0} {old new : Held S} {x : T} {r : Result U StoreFault} {did other : Type 0}
      → ScansAt of g old new (Ok x) did → ((state g old).now.schema ≡ of → did → OnOk r other) → ScansAt of g old new r other
  scans_to {old = old} {new = new} {r = r} h f = record { stays = h.stays; value = λ ours calm. f (was_of old new ours (h.stays ours) calm) (h.value ours calm); live = on_ok_anyway r h.live }

  -- a fault after a scan
  pub scans_fault : {T U : Type 0} {old new : Held S} {q : Result T StoreFault} {r : Result U StoreFault} {did other : Type 0}
      → ScansAt of g old new q did → IsErr r → ScansAt of g old new r other
  scans_fault {r = r} {other = other} h fault = record { stays = h.stays; value = λ ours calm. on_ok_never r other fault; live = on_ok_never r _ fault }

  -- a scan after a scan: both are of the same database
  pub scans_then : {T U : Type 0} {a b c : Held S} {x : T} {r : Result U StoreFault} {one two : Type 0}
      → ScansAt of g a b (Ok x) one → ScansAt of g b c r two → ScansAt of g a c r (((state g b).now ≡ (state g a).now) × one × two)
  scans_then {a = a} {b = b} {c = c} {r = r} first second = record {
    stays = λ ours. let kept = first.stays ours in stays_then (state g a) (state g b) (state g c) kept (second.stays kept.ours);
    value = λ ours calm.
        let kept = first.stays ours in
        let before = sure_first (second.stays kept.ours).later calm in
        on_ok_weaker r (λ did. (kept.same before, first.value ours before, did)) (second.value kept.ours calm);
    live = second.live;
  }
