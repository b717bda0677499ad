-- The rows of a World that are summed are read.
use Rattle.mx_tables.proofs.Common.{◌≡◌, ◌≤◌, ℕ, ℤ, Bool, true, List, [], ◌∷◌, Some, refl, ◌∙◌, Int, Row, column, Name, PurseRow, Rows, Term, Holds, AllByRecursion, number, office_schema}
use Rattle.std.proofs.Common.{le_refl, map, not, sym, subst, if◌then◌else◌}
use Rattle.std.specs.FinMap as fmap
use Rattle.std.specs.Prelude.{IsSome}
use Rattle.sqlite.specs.Listing.{understood}
use Rattle.sqlite.specs.State.{State, Shown}
use Rattle.sqlite_sql.specs.Term.{eval_all}
use Rattle.sqlite_tied.specs.Compute.{everything}
use Rattle.sqlite_trees.specs.Tree.{Trees}
use Rattle.sqlite_trees.proofs.ListLemmas.{all-filter, all-map, all-permutation}
use Rattle.mx_pay.specs.Limits.{most_number}
use Rattle.mx_pay.specs.Names.{is_name_text, name_cmp}
use Rattle.mx_book.specs.RowEdits.{member_at}
use Rattle.mx_book.specs.Spells as book
use Rattle.mx_book.specs.World.{World}
use Rattle.mx_book.proofs.FoundLemmas.{some_of}
use Rattle.mx_book.proofs.MapLemmas.{all_entries}
use Rattle.mx_book.proofs.RowLemmas.{found_row}
use Rattle.mx_cells.specs.Cells.{member_shown}
use Rattle.mx_tables.specs.Answers.{Displays}
use Rattle.mx_tables.specs.Counted.{IsAdded, IsListed, adds_text, log_shown, member_listed, owed_shown, result_shown, waiting_shown}
use Rattle.mx_tables.specs.States.{Accepts}
use Rattle.mx_tables.specs.declared.sums.Adds.{Adds}
use Rattle.mx_tables.specs.declared.sums.Adds.TheVariants.{Counted, Waiting, Logged, Archived}
use Rattle.mx_tables.specs.declared.sums.Amounts.TheVariants.{Uncollected, Issued, Redeemed, Balances}
use Rattle.mx_tables.proofs.CountedSums.{amounts_are, archived_is, logs_is, select_grants, select_grants_is, select_member_rows, select_member_rows_is, uncollected_flag, waiting_is}
use Rattle.mx_tables.proofs.FaultLemmas.{IsWhole, select_accepted}
use Rattle.mx_tables.proofs.KeptLemmas as kept
use Rattle.mx_tables.proofs.Places.{Belongs, Place}
use Rattle.mx_tables.proofs.ReadLemmas.{answers}
use Rattle.mx_tables.proofs.ShownLemmas.{shown_all}
use Rattle.mx_tables.proofs.SoundLemmas.{archive_valid, holders_there, keys_named, loads_valid, members_valid, own, purse_of, purses_named, purses_valid, redemptions_valid}
use Rattle.mx_tables.proofs.Statements.{env, passes}
use Rattle.mx_tables.proofs.StoredLemmas.{and_true, same_numbers}
use Rattle.mx_tables.proofs.Texts.{IsSelect}

-- ---- no query is refused

adds_whole : (a : Adds) → IsWhole (adds_text a) 0 (understood office_schema (adds_text a))
unfolding understood everything
adds_whole (Counted Uncollected scope) = (le_refl _, refl)
adds_whole (Counted amounts scope) = (le_refl _, refl)
adds_whole a = (le_refl _, refl)

pub adds_accepted : (a : Adds) (db : Trees) → Accepts (adds_text a) [] db
adds_accepted (Counted Uncollected scope) db = select_accepted _ _ _ _ [] _ (amounts_are Uncollected) [] db (adds_whole (Counted Uncollected scope)) (λ h. cc)
adds_accepted (Counted Issued scope) db = select_accepted _ _ _ _ [] _ (amounts_are Issued) [] db (adds_whole (Counted Issued scope)) (λ h. cc)
adds_accepted (Counted Redeemed scope) db = select_accepted _ _ _ _ [] _ (amounts_are Redeemed) [] db (adds_whole (Counted Redeemed scope)) (λ h. cc)
adds_accepted (Counted Balances scope) db = select_accepted _ _ _ _ [] _ (amounts_are Balances) [] db (adds_whole (Counted Balances scope)) (λ h. cc)
adds_accepted Waiting db = select_accepted _ _ _ _ [] _ waiting_is [] db (adds_whole Waiting) (λ h. cc)
adds_accepted Logged db = select_accepted _ _ _ _ [] _ logs_is [] db (adds_whole Logged) (λ h. cc)
adds_accepted Archived db = select_accepted _ _ _ _ [] _ archived_is [] db (adds_whole Archived) (λ h. cc)

members_whole : IsWhole select_grants 0 (understood office_schema select_grants) × IsWhole select_member_rows 0 (understood office_schema select_member_rows)
unfolding understood everything
members_whole = ((le_refl _, refl), (le_refl _, refl))

pub grants_accepted : (db : Trees) → Accepts select_grants [] db
grants_accepted db = select_accepted _ _ _ _ _ _ select_grants_is [] db members_whole.0 (λ h. cc)

pub member_rows_accepted : (db : Trees) → Accepts select_member_rows [] db
member_rows_accepted db = select_accepted _ _ _ _ _ _ select_member_rows_is [] db members_whole.1 (λ h. cc)

-- ---- what they show

-- what is so of what each row of a table shows is so of the rows of a query
pub rows_all : {K V : Type 0} {R : K → K → _} {t : Place R V} (table : Belongs t) (Q : Row → Type 0)
    → (sql : List ℕ) (terms project : List Term) (names : List (List ℕ)) → IsSelect sql t.table.tree terms project [] names → (p : K × V → Bool) (show : K × V → Row)
    → ((id : ℤ) (e : K × V) → passes terms [] (Int id ∷ t.cells e) ≡ p e) → ((id : ℤ) (e : K × V) → eval_all project (env [] (Int id ∷ t.cells e)) ≡ show e)
    → (old new : State) (rows : List Row) → Shown sql [] old new rows → (r : Rows) → Holds old.now r
    → ((k : K) (x : V) → fmap.get (t.map.get r) k ≡ Some x → Q (show (k, x))) → AllByRecursion Q rows
rows_all {t = t} table Q sql terms project names text p show tests shows old new rows shown r h each =
    all-permutation Q _ rows (answers table sql terms project names text [] p show tests shows old new rows shown r h)
    (all-map Q show _ (all-filter (λ e. Q (show e)) p (fmap.entries (t.map.get r)) (all_entries table.kept.key.total (λ k x. Q (show (k, x))) (t.map.get r) each)))

module _ (r : Rows) (w : World) (h : book.Spells r w) where
  owed : (p : Name) (x : PurseRow) → fmap.get r.purses p ≡ Some x → (is_name_text p ≡ true) × IsSome (member_at r.holders (fmap.get r.purses p))
  owed p x at =
      (purses_named r w h p x at, subst (λ o. IsSome (member_at r.holders o)) (sym at) (holders_there r w h p x at))

  pub added_shown : (a : Adds) (old new : State) (rows : List Row) → Shown (adds_text a) [] old new rows → Holds old.now r → AllByRecursion (IsAdded r a) rows
  added_shown (Counted Uncollected scope) old new rows shown holds =
      rows_all kept.redemptions (IsAdded r (Counted Uncollected scope)) _ _ _ _ (amounts_are Uncollected) (λ e. not e.1.collected) (λ e. owed_shown e.0.0 e.1.amount)
      (λ id e. and_true _ ∙ same_numbers (if e.1.collected then 1 else 0) 0 ∙ uncollected_flag e.1.collected) (λ id e. refl) old new rows shown r holds
      (λ k x at. let y = purse_of r w h name_cmp r.redemptions h.spelled.proper.redemptions k x at in let o = owed k.0 y.0 y.1 in ((k.0, x.amount), (o.0, redemptions_valid r w h k x at, o.1), (refl, (refl, tt))))
  added_shown (Counted Issued scope) old new rows shown holds =
      rows_all kept.loads (IsAdded r (Counted Issued scope)) _ _ _ _ (amounts_are Issued) (λ _. true) (λ e. owed_shown e.0.0 e.1) (λ id e. refl) (λ id e. refl) old new rows shown r holds
      (λ k x at. let y = purse_of r w h name_cmp r.loads h.spelled.proper.loads k x at in let o = owed k.0 y.0 y.1 in ((k.0, x), (o.0, loads_valid r w h k x at, o.1), (refl, (refl, tt))))
  added_shown (Counted Redeemed scope) old new rows shown holds =
      rows_all kept.redemptions (IsAdded r (Counted Redeemed scope)) _ _ _ _ (amounts_are Redeemed) (λ _. true) (λ e. owed_shown e.0.0 e.1.amount) (λ id e. refl) (λ id e. refl) old new rows shown r holds
      (λ k x at. let y = purse_of r w h name_cmp r.redemptions h.spelled.proper.redemptions k x at in let o = owed k.0 y.0 y.1 in ((k.0, x.amount), (o.0, redemptions_valid r w h k x at, o.1), (refl, (refl, tt))))
  added_shown (Counted Balances scope) old new rows shown holds =
      rows_all kept.purses (IsAdded r (Counted Balances scope)) _ _ _ _ (amounts_are Balances) (λ _. true) (λ e. owed_shown e.0 e.1.purse.balance) (λ id e. refl) (λ id e. refl) old new rows shown r holds
      (λ p x at. let o = owed p x at in ((p, x.purse.balance), (o.0, (purses_valid r w h p x at).1.balance, o.1), (refl, (refl, tt))))
  added_shown Waiting old new rows shown holds =
      rows_all kept.purses (IsAdded r Waiting) _ _ _ _ waiting_is (λ _. true) waiting_shown (λ id e. refl) (λ id e. refl) old new rows shown r holds
      (λ p x at. (x.purse.status, (purses_valid r w h p x at).1.details, (refl, (refl, tt))))
  added_shown Logged old new rows shown holds =
      rows_all kept.purses (IsAdded r Logged) _ _ _ _ logs_is (λ _. true) log_shown (λ id e. refl) (λ id e. refl) old new rows shown r holds
      (λ p x at. ((p, x), (purses_named r w h p x at, (purses_valid r w h p x at).1.log), (refl, (refl, tt))))
  added_shown Archived old new rows shown holds =
      rows_all kept.archive (IsAdded r Archived) _ _ _ _ archived_is (λ _. true) result_shown (λ id e. refl) (λ id e. refl) old new rows shown r holds
      (λ k x at.
      let y = found_row r k.0 ((own r w h).results.archived k.0 k.1 (some_of (fmap.get r.archive k) x at)) in
      ((k, x), (purses_named r w h k.0 y.0 y.1, archive_valid r w h k x at, some_of (fmap.get r.purses k.0) y.0 y.1), (refl, (refl, tt))))

  -- grants and floats are within their limits
  abbrev HasMoney : ℕ → Row → Type 0
  HasMoney at row = (n : ℕ) × (n ≤ most_number) × (column row at ≡ number n)

  pub grants_shown : (old new : State) (rows : List Row) → Shown select_grants [] old new rows → Holds old.now r → AllByRecursion (HasMoney 0) rows × AllByRecursion (HasMoney 1) rows
  grants_shown old new rows shown holds = (
    rows_all kept.members (HasMoney 0) _ _ _ _ select_grants_is (λ _. true) (λ e. member_shown e.1) (λ id e. refl) (λ id e. refl) old new rows shown r holds (λ m x at. (x.granted, (members_valid r w h m x at).0, refl)),
    rows_all kept.members (HasMoney 1) _ _ _ _ select_grants_is (λ _. true) (λ e. member_shown e.1) (λ id e. refl) (λ id e. refl) old new rows shown r holds (λ m x at. (x.float, (members_valid r w h m x at).1, refl)),
  )

  pub member_rows_shown : (rows : List Row) → rows ≡ map member_listed (fmap.entries r.members) → AllByRecursion (Displays IsListed member_listed) rows
  member_rows_shown rows is =
      subst (AllByRecursion (Displays IsListed member_listed)) (sym is)
      (shown_all IsListed member_listed (λ e. (refl, (refl, (refl, tt)))) (fmap.entries r.members)
      (all_entries kept.members.kept.key.total (λ m x. IsListed (m, x)) r.members (λ m x at. let money = members_valid r w h m x at in (keys_named r w h m x at, money.0, money.1))))
