-- Rounds over tables, and what the store of them holds then.
use Rattle.std.proofs.Common.{◌≡◌, ◌≤◌, IsTrue, List, arith, subst, sym, ◌∙◌}
use Rattle.sqlite_trees.specs.Tree.{Trees}
use Rattle.sqlite_trees.specs.declared.store.Store.{Ghosts}
use Rattle.sqlite.specs.Effect.{Database}
use Rattle.sqlite.specs.Held.{Held, state}
use Rattle.mx_book.specs.World.{World}
use Rattle.mx_book.specs.declared.rows.RowBook.{Ghosts as RowBook}
use Rattle.mx_desk.specs.Rounds.{Moves, Round}
use Rattle.mx_standing.specs.Shown.{AreLeft, IsKept, IsOne, shown}
use Rattle.mx_tables.specs.Holds.{SpellsOne}
use Rattle.mx_tables.specs.Rounds.{IsLimited, IsSettled, LeavesBase, Lent, base_of, doubt_of, faults_of, harm_of, rows_of}
use Rattle.mx_tables.specs.States.{Leaves, worry}
use Rattle.mx_tables.specs.Steady.{left_as_base, rest_of}
use Rattle.mx_files.specs.Durable.{Endures, Represents}
use Rattle.mx_files.proofs.RowLemmas.{lasts_moved, rests_shown, spelled_moved}

module _ {S : Type 0} (g : Ghosts S) where
  -- tables as a book of rows
  abbrev pub tables : RowBook (Lent S)
  tables = record {
    Rows = Database;
    rows = rows_of g;
    spells = SpellsOne;
    doubt = doubt_of g;
    base = base_of g;
    harm = harm_of g;
    settled = IsSettled g;
    defers = Unit {0};
    leaves = LeavesBase g;
    fails = λ _. Unit {0};
    faults = faults_of g;
    limited = IsLimited g;
  }

  -- what was settled is all that a stop leaves of tables that rest
  at_rest : (t : Lent S) → ((db : Trees) → IsTrue (state g t.0).is_open → (state g t.0).may_leave db → db ≡ (state g t.0).committed.trees) → IsSettled g t → worry (state g t.0) ≡ 0 → (db : Database)
      → Leaves (state g t.0) db → db ≡ rows_of g t
  at_rest t law still sure db left = left_as_base (state g t.0) law db sure left ∙ sym ((rest_of g t still).1 sure)

  -- after rounds over tables that rest, what their store holds is the World now
  pub endures_moved : (old new : Lent S) (one : IsOne tables old) (kept : IsKept tables old) (one' : IsOne tables new) (kept' : IsKept tables new) → AreLeft tables new
      → ((db : Trees) → IsTrue (state g old.0).is_open → (state g old.0).may_leave db → db ≡ (state g old.0).committed.trees) → IsSettled g old → worry (state g old.0) ≡ 0 → IsSettled g new
      → (w now : World) (rs : List Round) → Represents (rows_of g old) w → Moves (shown tables old one kept) (shown tables new one' kept') w rs now → Endures (state g new.0) w rs now
  endures_moved old new one kept one' kept' left law still sure ends w now rs spelled moved =
      let at = rests_shown tables old one kept w still spelled in
      let last = (rest_of g new ends).0 in
      record {
        stands = λ none. spelled_moved tables old new one kept one' kept' w now rs at moved (last ∙ none);
        lasts = λ less db leaves.
            lasts_moved tables old new one kept one' kept' w now rs at moved (at_rest old law still sure) (λ r u v a b. b.only u a.spelled) spelled left (omega (arith, last, less)) less db leaves;
      }

  -- tables that were given back with no more than one doubt were sure when they were opened
  pub sure_at_first : (old new : Lent S) → IsSettled g old → IsSettled g new → doubt_of g old ≤ doubt_of g new → (worry (state g old.0) ≤ 1 → worry (state g old.0) ≡ 0) → worry (state g new.0) ≤ 1 → worry (state g old.0) ≡ 0
  sure_at_first old new still ends later awake low =
      let first = (rest_of g old still).0 in
      let last = (rest_of g new ends).0 in
      awake (omega (arith, first, last, later, low))

  -- and worry didn't fall on the way
  pub worry_grows : (store given : Held S) (old new : Lent S) → IsSettled g old → IsSettled g new → doubt_of g old ≤ doubt_of g new → worry (state g store) ≤ worry (state g old.0) → given ≡ new.0 → worry (state g store) ≤ worry (state g given)
  worry_grows store given old new still ends later opened same =
      let first = (rest_of g old still).0 in
      let last = (rest_of g new ends).0 in
      subst (λ h. worry (state g store) ≤ worry (state g h)) (sym same) (omega (arith, first, last, later, opened))
