-- What the statements over one table do, from the meaning of their texts.
use Rattle.mx_tables.proofs.Common.{arith, ℤ, ◌≡◌, inl, inr, ℕ, List, [], ◌∷◌, length, filter, Bool, true, false, Option, Some, None, Ok, refl, ◌∙◌, length-map, AllByRecursion, IsPermutation, Null, Int, Row, Term, Database, Executes}
use Rattle.std.proofs.Common.{◌≢◌, ◌⊎◌, map, drop, flat_map, slice_get, Err, Result, sym, ap, subst, subst₂}
use Rattle.std.specs.Prelude.{◌/◌, if◌then◌else◌, unwrap_or, MatchBool}
use Rattle.std.proofs.lemmas.List.Sorted.{IsPermutation-map}
use Rattle.sqlite_trees.proofs.ListLemmas.{map-map}
use Rattle.std.specs.List.{list_all}
use Rattle.std.specs.List.Sorted.{IsSorted}
use Rattle.std.specs.Cmp.{first_so}
use Rattle.std.proofs.lemmas.Bool.{not-true}
use Rattle.sqlite_value.specs.declared.keys.Key.{Key}
use Rattle.sqlite_trees.specs.Tree.{Trees, put_row}
use Rattle.sqlite_sql.specs.Term.{Env, holds, eval_all}
use Rattle.sqlite_sql.specs.Query.{IsAnswer, Output, output, output_cmp}
use Rattle.sqlite_sql.specs.Program.{overlay}
use Rattle.sqlite_schema.specs.declared.program.Program.{Program}
use Rattle.sqlite_schema.specs.declared.command.Command.TheVariants.{Select, Insert, Update, Delete}
use Rattle.sqlite.specs.Effect.{Reads, Answers, value_rows}
use Rattle.sqlite_schema.specs.declared.schema.Schema.{Schema}
use Rattle.sqlite_schema.specs.declared.schema.Table.{Table}
use Rattle.sqlite_schema.specs.declared.schema.Keys.TheVariants.{Enforced}
use Rattle.sqlite_rules.specs.Calls.{ids_of}
use Rattle.sqlite_rules.proofs.PlaceLemmas.{given}
use Rattle.sqlite_rules.specs.Cast.{cast_row}
use Rattle.sqlite_rules.specs.Action.{works, Writes as Writes_rows}
use Rattle.sqlite_rules.specs.Edit.{Edit, edit_of, edited, put_all, without_all, next_rowid, numbered, is_taken, taken_by, left_by, are_fresh, Applies}
use Rattle.sqlite_rules.specs.declared.error.Rowids.TheVariants.{Above, Chosen, Given}
use Rattle.sqlite_rules.specs.declared.error.Rowids.{Rowids}
use Rattle.sqlite.specs.Source.TheVariants.{Values}
use Rattle.sqlite.specs.Rows.{Written, stamped, Task, Inserts, Gives, rowids_for, count_of}
use Rattle.sqlite.specs.Does.{Tally, Does, Concludes, OnRows}
use Rattle.sqlite.specs.declared.run.Mode.{Mode}
use Rattle.sqlite.specs.Listing.{understood}
use Rattle.sqlite.specs.State.{State, mode_of, Writes}
use Rattle.sqlite.proofs.Callers.{IsPlain, command_of, statement_of, runs_as, one_step}
use Rattle.sqlite_schema.specs.Rules.{Fits}
use Rattle.mx_tables.specs.Holds.{HaveCells}
use Rattle.mx_tables.proofs.Texts.{scan, alone}

abbrev pub env : Row → Row → Env
env params r = params ∷ r ∷ []

abbrev pub passes : List Term → Row → Row → Bool
passes terms params r = list_all (holds (env params r)) terms

flat_filter : {X Y : Type 0} (p : X → Bool) (f : X → Y) (xs : List X) → flat_map (λ r. if p r then f r ∷ [] else []) xs ≡ map f (filter p xs)
flat_filter p f [] = refl
flat_filter p f (x ∷ xs) = grind (arith, flat_filter p f xs)

pub unlaid : (db : Trees) (t : ℕ) → overlay db [] t ≡ db t
unlaid db t = grind arith

pub selected : (tree : ℕ) (terms project : List Term) (order : List (Term × Key)) (names : List (List ℕ)) (db : Database) (params : Row) (rows : List Row)
    → Reads (Select (alone (scan tree terms project order)) names) db params rows
    → (ordered : List Output) × IsPermutation (map (output (scan tree terms project order)) (map (env params) (filter (passes terms params) (db.trees tree)))) ordered
    × IsSorted (output_cmp (scan tree terms project order)) ordered × (rows ≡ map (λ (o : Output). o.1) ordered)
selected tree terms project order names db params rows h =
    let a : IsAnswer (scan tree terms project order) (overlay db.trees []) params rows = h.answer Null in
    let found : a.staged ≡ map (env params) (filter (passes terms params) (db.trees tree)) =
    a.grouped ∙ (flat_filter (passes terms params) (env params) (overlay db.trees [] tree) ∙ ap (λ all. map (env params) (filter (passes terms params) all)) (unlaid db.trees tree)) in
    let kept = a.distinct ∙ ap (map (output (scan tree terms project order))) found in
    (a.ordered, subst (λ k. IsPermutation k a.ordered) kept a.same, a.sorted, a.shown)

-- with no ORDER BY to speak of, the rows that pass, as they are shown
pub picked : (tree : ℕ) (terms project : List Term) (order : List (Term × Key)) (names : List (List ℕ)) (db : Database) (params : Row) (rows : List Row)
    → Reads (Select (alone (scan tree terms project order)) names) db params rows
    → IsPermutation (map (λ r. eval_all project (env params r)) (filter (passes terms params) (db.trees tree))) rows
picked tree terms project order names db params rows h =
    let got = selected tree terms project order names db params rows h in
    let found = filter (passes terms params) (db.trees tree) in
    let second = λ (o : Output). o.1 in
    let fused = ap (map second) (map-map (output (scan tree terms project order)) (env params) found) ∙ map-map second (λ r. output (scan tree terms project order) (env params r)) found in
    subst₂ IsPermutation fused (sym got.3) (IsPermutation-map second _ got.0 got.1)

pub shown_rows : {X A : Type 0} (cells : X → Row) (test : Row → Bool) (show : Row → A) (p : X → Bool) (f : X → A)
    → ((id : ℤ) (x : X) → test (Int id ∷ cells x) ≡ p x) → ((id : ℤ) (x : X) → show (Int id ∷ cells x) ≡ f x)
    → (tree : List Row) (xs : List X) → HaveCells tree (map cells xs) → map show (filter test tree) ≡ map f (filter p xs)
shown_rows cells test show p f tests shows [] [] h = refl
shown_rows cells test show p f tests shows (r ∷ tree) (x ∷ xs) h =
    let more = shown_rows cells test show p f tests shows tree xs h.1 in
    let same : test r ≡ p x = ap test h.0.1 ∙ tests h.0.0 x in
    let first = ap show h.0.1 ∙ shows h.0.0 x in
    grind (arith, same, first, more)
shown_rows cells test show p f tests shows tree xs h = absurd h

-- ---- writes

-- a part that gave a value did not stop on the way
pub went : {B E R : Type 0} {b : B} {Stops : E → Type 0} → ((stop : E) × Stops stop × (Ok b ≡ Err stop)) ⊎ R → R
went (inl stopped) = absurd (let e = stopped.2 in cc)
went (inr on) = on

pub same_value : {B E : Type 0} {a b : B} → ◌≡◌ {A = Result B E} (Ok a) (Ok b) → a ≡ b
same_value e = cc

-- the statement made these rows of one table's, and left the others
pub record Wrote (schema : Schema) (table : Table) (old new : State) (rows : List Row) : Type 0 where
  pub schema_is : new.now.schema ≡ schema
  pub rows_are : new.now.trees table.tree ≡ rows
  pub others : AllByRecursion (λ t. t.tree ≢ table.tree → new.now.trees t.tree ≡ old.now.trees t.tree) schema.tables
  pub fits : Fits schema new.now.trees

-- no foreign key acts
abbrev pub IsQuiet : Schema → Table → Type 0
IsQuiet schema table = (olds news : List Row) → works schema Enforced 0 table.tree olds news ≡ []

concluded : (task : Task) (mode : Mode) (w : Written) (tally : Tally) (after : Database) → Concludes task mode None w (Ok (tally, after))
    → (after ≡ record { schema = task.schema; trees = w.trees }) × (tally.rows ≡ Some (length w.rows))
concluded task mode w tally after h = let same = same_value (went (went h).2).2 in (ap (λ (p : Tally × Database). p.1) same, ap (λ (p : Tally × Database). p.0.rows) same)

counted_as : (b : Bool) (c : Option Row) (P : Type 0) → b ≡ false → MatchBool b P (Gives None (Ok c)) → c ≡ None
counted_as b c P e h = let it : Gives None (Ok c) = rw e at h in same_value it

counts_as : (b c : Bool) (P : Type 0) (mid next : Trees) → b ≡ false → MatchBool (if b then c else false) P (Gives mid (Ok next)) → next ≡ mid
counts_as b c P mid next e h = let it : Gives mid (Ok next) = rw e at h in same_value it

chosen_if : (b : Bool) (top : ℤ) → b ≡ false → (if b then Above top else Chosen) ≡ Chosen
chosen_if b top e = rw e refl

module _ (task : Task) (uncounted : task.table.is_counted ≡ false) (terms : List Term) (width : ℕ) (db : Trees) (w : Written) where
  abbrev pub sources : List Row
  sources = value_rows (stamped task.table task.params) width (length terms / width) terms

  pub put : Inserts task (Values terms width) db (Ok w) → Writes_rows task.schema task.keys db (edit_of db task.table [] Chosen 0 sources) (Ok w.trees)
  put h =
      let given = went h in
      let counter = went given.2 in
      let none : counter.0 ≡ None = counted_as _ counter.0 _ uncounted counter.1 in
      let written = went counter.2 in
      let counted = went written.2 in
      let same : counted.0 ≡ written.0 = counts_as task.table.is_counted _ _ written.0 counted.0 uncounted counted.1 in
      let trees : w.trees ≡ written.0 = ap (λ (it : Written). it.trees) (same_value counted.2) ∙ same in
      let edit : edit_of db task.table [] (rowids_for task.table (count_of counter.0)) 0 given.0 ≡ edit_of db task.table [] Chosen 0 sources =
      ap (λ all. edit_of db task.table [] (rowids_for task.table (count_of counter.0)) 0 all) given.1.1 ∙ ap (λ (ids : Rowids). edit_of db task.table [] ids 0 sources) (chosen_if _ (count_of counter.0) uncounted) in
      subst (λ t. Writes_rows task.schema task.keys db (edit_of db task.table [] Chosen 0 sources) (Ok t)) (sym trees)
      (subst (λ e. Writes_rows task.schema task.keys db e (Ok written.0)) edit written.1)

module _ (schema : Schema) (at : ℕ) (table : Table) (found : slice_get schema.tables at ≡ Some table) (quiet : IsQuiet schema table) (sql : List ℕ) (params : Row) (old new : State) (has : old.now.schema ≡ schema)
    (plain : IsPlain (understood schema sql)) (count : ℕ) (ran : Executes sql params old new (Ok count)) where
  abbrev task : Task
  task = record { limit = old.step_limit; keys = Enforced; schema = schema; table = table; params = params }

  wrote : (edit : Edit) (w : Written) → edit.table ≡ table → new.now ≡ record { schema = schema; trees = w.trees } → Writes_rows schema Enforced old.now.trees edit (Ok w.trees)
      → Wrote schema table old new (edited old.now.trees edit) × (are_fresh (left_by old.now.trees edit) edit.news ≡ true)
  wrote edit w of now h =
      let trees : new.now.trees ≡ w.trees = ap (λ (d : Database). d.trees) now in
      let a : Applies schema Enforced old.now.trees edit new.now.trees = one_step schema Enforced old.now.trees new.now.trees edit (ap (λ (t : Table). works schema Enforced 0 t.tree (taken_by old.now.trees edit) edit.news) of ∙ quiet _ _) (rw trees h) in
      (record { schema_is = ap (λ (d : Database). d.schema) now; rows_are = ap (λ (t : Table). new.now.trees t.tree) (sym of) ∙ a.rows; others = rw of at a.tables; fits = a.fits }, a.fresh)

  -- the rows that an INSERT makes are put in with their numbers
  pub puts : (terms : List Term) (width : ℕ) (rows : List Row) → command_of (understood schema sql) ≡ Insert at (Values terms width) → table.is_counted ≡ false
      → map (cast_row table) (value_rows (stamped table params) width (length terms / width) terms) ≡ rows
      → Wrote schema table old new (put_all (old.now.trees table.tree) (numbered Chosen (old.now.trees table.tree) rows))
      × (are_fresh (old.now.trees table.tree) (numbered Chosen (old.now.trees table.tree) rows) ≡ true)
  puts terms width rows is uncounted source =
      let db = old.now.trees in
      let text = statement_of sql (understood schema sql) in
      let command = Insert at (Values terms width) in
      let w : Writes old new None command text params count = runs_as sql params old new schema has command is plain count ran in
      let did : OnRows task (mode_of old) None command db (Ok (w.tally, new.now)) = rw found at (subst (λ s. Does old.step_limit (mode_of old) params (record old.now { schema = s }) text None command (Ok (w.tally, new.now))) has w.changed) in
      let done = went did in
      let end = concluded task (mode_of old) done.0 w.tally new.now done.2 in
      let edit = edit_of db table [] Chosen 0 (sources task uncounted terms width db done.0) in
      subst (λ (all : List Row). let news = numbered Chosen (db table.tree) all in Wrote schema table old new (put_all (db table.tree) news) × (are_fresh (db table.tree) news ≡ true)) source
      (wrote edit done.0 refl end.0 (put task uncounted terms width db done.0 done.1))

  pub inserted : (terms : List Term) (width : ℕ) (row : Row) → command_of (understood schema sql) ≡ Insert at (Values terms width) → table.is_counted ≡ false
      → map (cast_row table) (value_rows (stamped table params) width (length terms / width) terms) ≡ (Null ∷ row) ∷ []
      → Wrote schema table old new (put_row (Int (next_rowid (old.now.trees table.tree)) ∷ row) (old.now.trees table.tree))
      × (is_taken (old.now.trees table.tree) (Int (next_rowid (old.now.trees table.tree)) ∷ row) ≡ false)
  inserted terms width row is none source = let it = puts terms width ((Null ∷ row) ∷ []) is none source in (it.0, not-true _ (first_so _ _ it.1))

  pub deleted : (q : Program) → command_of (understood schema sql) ≡ Delete at q
      → (rows : List Row) × Answers (record old.now { schema = schema }) q params rows × Wrote schema table old new (without_all (old.now.trees table.tree) (ids_of rows))
  deleted q is =
      let db = old.now.trees in
      let text = statement_of sql (understood schema sql) in
      let command = Delete at q in
      let w : Writes old new None command text params count = runs_as sql params old new schema has command is plain count ran in
      let did : OnRows task (mode_of old) None command db (Ok (w.tally, new.now)) = rw found at (subst (λ s. Does old.step_limit (mode_of old) params (record old.now { schema = s }) text None command (Ok (w.tally, new.now))) has w.changed) in
      let done = went did in
      let end = concluded task (mode_of old) done.0 w.tally new.now done.2 in
      let read = went done.1 in
      let edit = edit_of db table (ids_of read.0) Given 0 [] in
      let written = went read.2 in
      let trees : done.0.trees ≡ written.0 = ap (λ (it : Written). it.trees) (same_value written.2) in
      (read.0, read.1, (wrote edit done.0 refl end.0 (subst (λ t. Writes_rows schema Enforced db edit (Ok t)) (sym trees) written.1)).0)

  pub updated : (q : Program) → command_of (understood schema sql) ≡ Update at q
      → (rows : List Row) × Answers (record old.now { schema = schema }) q params rows
      × Wrote schema table old new (put_all (without_all (old.now.trees table.tree) (ids_of rows)) (map (λ s. cast_row table (drop 1 s)) rows)) × (length rows ≡ count)
      × (are_fresh (without_all (old.now.trees table.tree) (ids_of rows)) (map (λ s. cast_row table (drop 1 s)) rows) ≡ true)
  updated q is =
      let db = old.now.trees in
      let text = statement_of sql (understood schema sql) in
      let command = Update at q in
      let w : Writes old new None command text params count = runs_as sql params old new schema has command is plain count ran in
      let did : OnRows task (mode_of old) None command db (Ok (w.tally, new.now)) = rw found at (subst (λ s. Does old.step_limit (mode_of old) params (record old.now { schema = s }) text None command (Ok (w.tally, new.now))) has w.changed) in
      let done = went did in
      let end = concluded task (mode_of old) done.0 w.tally new.now done.2 in
      let read = went done.1 in
      let edit = edit_of db table (ids_of read.0) Given 1 read.0 in
      let written = went read.2 in
      let trees : done.0.trees ≡ written.0 = ap (λ (it : Written). it.trees) (same_value written.2) in
      let it = wrote edit done.0 refl end.0 (subst (λ t. Writes_rows schema Enforced db edit (Ok t)) (sym trees) written.1) in
      let left = without_all (db table.tree) (ids_of read.0) in
      let news = map (λ s. cast_row table (drop 1 s)) read.0 in (
        read.0,
        read.1,
        subst (λ all. Wrote schema table old new (put_all left all)) {x = numbered Given left news} {y = news} (given left news) it.0,
        let made : length done.0.rows ≡ length read.0 = ap (λ (x : Written). length x.rows) (same_value written.2) ∙ ap length (given left news) ∙ length-map read.0 (λ s. cast_row table (drop 1 s)) in
            sym (w.counted ∙ ap (λ (o : Option ℕ). unwrap_or o 0) end.1 ∙ made),
        subst (λ all. are_fresh left all ≡ true) {x = numbered Given left news} {y = news} (given left news) it.1,
      )
