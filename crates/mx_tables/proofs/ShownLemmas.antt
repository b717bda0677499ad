-- What the rows of a World show is read.
use Rattle.mx_tables.proofs.Common.{◌≡◌, ◌≤◌, ℕ, List, [], ◌∷◌, length, Some, None, Option, refl, true, ◌∙◌, arith, inl, inr, state, ◌++◌, AllByRecursion, Row, column, Text, Name, Rows, Holds, is_name, name_cmp, nat_cmp, number, option_map, PurseRow}
use Rattle.std.proofs.Common.{IsTrue, map, sym, ap, subst}
use Rattle.std.specs.FinMap as fmap
use Rattle.std.specs.Prelude.{IfSome}
use Rattle.std.proofs.lemmas.Bool.{cases_Bool}
use Rattle.std.proofs.lemmas.List.{length-map}
use Rattle.std.proofs.lemmas.List.Sorted.{length_permutation}
use Rattle.sqlite_trees.proofs.ListLemmas.{all-filter, all-map, all-permutation, all_weaker}
use Rattle.hex.specs.Hex.{encode_lower}
use Rattle.mx_pay.specs.Limits.{most_amount}
use Rattle.mx_pay.specs.Names.{is_name_text}
use Rattle.mx_purse.specs.Messages.{IsMessage}
use Rattle.mx_purse.specs.Words.{message_details, message_word}
use Rattle.mx_purse.specs.declared.message.Message.{Message}
use Rattle.sqlite.specs.Given.{HasGiven}
use Rattle.sqlite.specs.Held.{Held}
use Rattle.sqlite.specs.State.{State, Shown}
use Rattle.sqlite_trees.specs.declared.store.Store.{Ghosts}
use Rattle.mx_pay.specs.Tokens.{IsToken, is_token, token_cmp}
use Rattle.mx_pay.proofs.TestLemmas.{is_equal}
use Rattle.mx_book.specs.Spells as book
use Rattle.mx_book.specs.World.{World, Token}
use Rattle.mx_book.specs.declared.values.Caller.{Caller}
use Rattle.mx_book.specs.declared.values.Caller.TheVariants.{Operator}
use Rattle.mx_book.specs.RowReads.{line_of_row, of_name, row_inbox_of}
use Rattle.mx_book.specs.Under.{pair_cmp}
use Rattle.mx_book.specs.declared.contract.StoreFault.{StoreFault}
use Rattle.mx_book.specs.declared.values.LineRow.{LineRow}
use Rattle.mx_book.specs.declared.values.MemberRow.{MemberRow}
use Rattle.mx_book.specs.declared.values.Redemption.{Redemption}
use Rattle.mx_book.proofs.MapLemmas.{all_entries}
use Rattle.mx_book.proofs.NameLemmas.{names_exact, names_total}
use Rattle.mx_cells.specs.Cells.{caller_shown, kind_text, line_shown, message_row, message_shown, owner_text}
use Rattle.mx_cells.specs.Entries.{HasColumns, IsCaller}
use Rattle.mx_tables.specs.Answers.{amount_shown, at_key, Displays, text_shown}
use Rattle.mx_tables.specs.Counted.{HaveNames, owned_shown}
use Rattle.mx_tables.specs.Pages.{FailsToGive, ShowsLine, lines_above}
use Rattle.mx_tables.specs.States.{Blames, HasOneAtMost}
use Rattle.mx_tables.proofs.AcceptLemmas.{lines_accepted, load_accepted, message_accepted, number_accepted, redemption_accepted, token_accepted}
use Rattle.mx_tables.proofs.FaultLemmas.{at_most_one, few, keyed_few, none_listed}
use Rattle.mx_tables.proofs.InboxLemmas.{at_message, finds_number}
use Rattle.mx_tables.proofs.KeptLemmas as kept
use Rattle.mx_tables.proofs.CauseLemmas.{query_told}
use Rattle.mx_tables.proofs.LineLemmas.{all_shown, begins, given, select_lines, select_lines_is}
use Rattle.mx_tables.proofs.LoadLemmas.{finds_owned, reference_passes, select_load, select_load_is, select_redemption, select_redemption_is}
use Rattle.mx_tables.proofs.MemberLemmas.{book_tokens, finds_token}
use Rattle.mx_tables.proofs.ReadLemmas.{found_one, one_mapped}
use Rattle.mx_tables.proofs.SoundLemmas.{callers_valid, holders_named, keys_named, lines_sound, loads_valid, messages_valid, own, purses_named, redemptions_valid}
use Rattle.mx_tables.proofs.Texts.{select_message, select_message_is, select_number, select_owners, select_token}

-- ---- tokens

abbrev Entry : Type 0
Entry = Token × Caller

module _ (r : Rows) (w : World) (h : book.Spells r w) (t : Token) where
  -- no token has two callers
  one_caller : length (at_key token_cmp t (book_tokens r)) ≤ 1
  one_caller = elim (cases_Bool (is_token t r.operator)) [
    | inl mine ↦
        let same : t ≡ r.operator = names_exact t r.operator (is_equal _ mine) in
        let none = none_listed token_cmp names_exact t (fmap.entries r.tokens) (sym (fmap.get-entries r.tokens t) ∙ ap (fmap.get r.tokens) same ∙ (own r w h).tokens.operator) in
        rw (mine, none) (omega arith)
    | inr other ↦ rw other (at_most_one token_cmp names_exact t (fmap.entries r.tokens) (fmap.entries_sorted r.tokens))
  ]

  caller_listed : (c : Caller) → fmap.find token_cmp t (book_tokens r) ≡ Some c → IsCaller c
  caller_listed c at = elim (cases_Bool (is_token t r.operator)) [
    | inl mine ↦ let e : ◌≡◌ {A = Option Caller} (Some Operator) (Some c) = (rw mine at at) in subst IsCaller {x = Operator} (cc) tt
    | inr other ↦ callers_valid r w h t c (fmap.get-entries r.tokens t ∙ (rw other at at))
  ]

  -- the query of a token shows one caller at most
  pub token_one : IsToken t → (old new : State) → Holds old.now r → HasOneAtMost select_token (Text (encode_lower t) ∷ []) old new
  token_one one old new holds = record {
    accepts = token_accepted old.now.trees (encode_lower t);
    few = λ rows shown.
        let size = length_permutation _ _ (finds_token t old new rows shown one r holds) in
        let made = length-map (at_key token_cmp t (book_tokens r)) (λ (e : Entry). caller_shown e.1) in
        omega (arith, size, made, one_caller);
  }

  -- and it is read
  pub token_read : IsToken t → (old new : State) → Holds old.now r → (row : Row) → Shown select_token (Text (encode_lower t) ∷ []) old new (row ∷ [])
      → (c : Caller) × IsCaller c × (column row 0 ≡ Text (kind_text c)) × (column row 1 ≡ Text (owner_text c))
  token_read one old new holds row shown =
      let it = found_one token_cmp caller_shown t (book_tokens r) _ row (finds_token t old new _ shown one r holds) refl in
      (it.0, caller_listed it.0 it.1, ap (λ x. column x 0) (sym it.2), ap (λ x. column x 1) (sym it.2))

-- ---- one value, or none

pub message_one : (p : Name) (n : ℕ) (old new : State) (r : Rows) → Holds old.now r → HasOneAtMost select_message (Text p ∷ number n ∷ []) old new
message_one p n old new r holds = record {
  accepts = message_accepted old.now.trees p n;
  few = λ rows shown. keyed_few kept.inbox (p, n) select_message _ _ _ select_message_is (Text p ∷ number n ∷ []) message_shown (at_message p n) (λ id e. refl) old new rows shown r holds;
}

pub number_one : (p : Name) (n : ℕ) (old new : State) (r : Rows) → Holds old.now r → HasOneAtMost select_number (Text p ∷ number n ∷ []) old new
number_one p n old new r holds = record {
  accepts = number_accepted old.now.trees p n;
  few = λ rows shown. few (pair_cmp name_cmp nat_cmp) kept.pairs_key.exact (p, n) r.inbox (λ (e : (Name × ℕ) × Message). number n ∷ []) rows (finds_number p n old new rows shown r holds);
}

pub load_one : (p reference : Name) (old new : State) (r : Rows) → Holds old.now r → HasOneAtMost select_load (Text p ∷ Text reference ∷ []) old new
load_one p reference old new r holds = record {
  accepts = load_accepted old.now.trees p reference;
  few = λ rows shown. keyed_few kept.loads (p, reference) select_load _ _ _ select_load_is (Text p ∷ Text reference ∷ []) amount_shown (λ id e. reference_passes p reference e.0) (λ id e. refl) old new rows shown r holds;
}

pub redemption_one : (p reference : Name) (old new : State) (r : Rows) → Holds old.now r → HasOneAtMost select_redemption (Text p ∷ Text reference ∷ []) old new
redemption_one p reference old new r holds = record {
  accepts = redemption_accepted old.now.trees p reference;
  few = λ rows shown. keyed_few kept.redemptions (p, reference) select_redemption _ _ _ select_redemption_is (Text p ∷ Text reference ∷ []) (λ (x : Redemption). amount_shown x.amount) (λ id e. reference_passes p reference e.0) (λ id e. refl) old new rows shown r holds;
}

-- an amount within its limit is in the first column
abbrev pub HasAmount : Row → Type 0
HasAmount c = (n : ℕ) × (n ≤ most_amount) × (column c 0 ≡ number n)

module _ (r : Rows) (w : World) (h : book.Spells r w) where
  pub message_read : (p : Name) (n : ℕ) (row : Row) → Some row ≡ option_map message_shown (fmap.get r.inbox (p, n))
      → (m : Message) × IsMessage m × (column row 0 ≡ Text (message_word m)) × (column row 1 ≡ Text (message_details m))
  message_read p n row is =
      let it = one_mapped message_shown (fmap.get r.inbox (p, n)) row is in
      (it.0, messages_valid r w h (p, n) it.0 it.1, ap (λ x. column x 0) (sym it.2), ap (λ x. column x 1) (sym it.2))

  pub load_read : (p reference : Name) (row : Option Row) → row ≡ option_map amount_shown (fmap.get r.loads (p, reference)) → IfSome row HasAmount
  load_read p reference row is = subst (λ o. IfSome o HasAmount) (sym is) (by (fmap.get r.loads (p, reference)) refl)
    where
      by : (o : Option ℕ) → fmap.get r.loads (p, reference) ≡ o → IfSome (option_map amount_shown o) HasAmount
      by None e = tt
      by (Some n) e = (n, loads_valid r w h (p, reference) n e, refl)

  pub redemption_read : (p reference : Name) (row : Option Row) → row ≡ option_map (λ (x : Redemption). amount_shown x.amount) (fmap.get r.redemptions (p, reference)) → IfSome row HasAmount
  redemption_read p reference row is = subst (λ o. IfSome o HasAmount) (sym is) (by (fmap.get r.redemptions (p, reference)) refl)
    where
      by : (o : Option Redemption) → fmap.get r.redemptions (p, reference) ≡ o → IfSome (option_map (λ (x : Redemption). amount_shown x.amount) o) HasAmount
      by None e = tt
      by (Some x) e = (x.amount, redemptions_valid r w h (p, reference) x e, refl)

-- ---- lists

-- rows that show these
pub shown_all : {E : Type 0} (IsOne : E → Type 0) (shows : E → Row) → ((e : E) → HasColumns (shows e) 0 (shows e)) → (es : List E) → AllByRecursion IsOne es → AllByRecursion (Displays IsOne shows) (map shows es)
shown_all IsOne shows own es all = all-map (Displays IsOne shows) shows es (all_weaker IsOne (λ e. Displays IsOne shows (shows e)) (λ e one. (e, one, own e)) es all)

module _ (r : Rows) (w : World) (h : book.Spells r w) where
  pub owners_shown : (old new : State) (rows : List Row) → Shown select_owners [] old new rows → Holds old.now r → AllByRecursion (Displays HaveNames owned_shown) rows
  owners_shown old new rows shown holds =
      all-permutation (Displays HaveNames owned_shown) _ rows (finds_owned old new rows shown r holds)
      (shown_all HaveNames owned_shown (λ e. (refl, (refl, tt))) (fmap.entries r.purses) (all_entries names_total (λ p x. HaveNames (p, x)) r.purses (λ p x at. (purses_named r w h p x at, holders_named r w h p x at))))

  pub inbox_shown : (p : Name) (rows : List Row) → rows ≡ map message_row (row_inbox_of r p) → AllByRecursion (Displays (λ (m : ℕ × Message). IsMessage m.1) message_row) rows
  inbox_shown p rows is =
      subst (AllByRecursion (Displays (λ (m : ℕ × Message). IsMessage m.1) message_row)) (sym is)
      (shown_all (λ (m : ℕ × Message). IsMessage m.1) message_row (λ e. (refl, (refl, (refl, tt)))) (row_inbox_of r p)
      (all-map (λ (m : ℕ × Message). IsMessage m.1) (λ (e : (Name × ℕ) × Message). (e.0.1, e.1)) (of_name p (fmap.entries r.inbox))
      (all-filter (λ e. IsMessage e.1) (λ e. is_name p e.0.0) (fmap.entries r.inbox) (all_entries kept.pairs_key.total (λ _ m. IsMessage m) r.inbox (messages_valid r w h)))))

  pub purses_shown : (rows : List Row) → rows ≡ map text_shown (fmap.keys r.purses) → AllByRecursion (Displays (λ n. is_name_text n ≡ true) text_shown) rows
  purses_shown rows is =
      subst (AllByRecursion (Displays (λ n. is_name_text n ≡ true) text_shown)) (sym is)
      (shown_all (λ n. is_name_text n ≡ true) text_shown (λ e. (refl, tt)) (fmap.keys r.purses)
      (all-map (λ n. is_name_text n ≡ true) (λ (e : Name × PurseRow). e.0) (fmap.entries r.purses) (all_entries names_total (λ p x. is_name_text p ≡ true) r.purses (purses_named r w h))))

  pub members_shown : (rows : List Row) → rows ≡ map text_shown (fmap.keys r.members) → AllByRecursion (Displays (λ n. is_name_text n ≡ true) text_shown) rows
  members_shown rows is =
      subst (AllByRecursion (Displays (λ n. is_name_text n ≡ true) text_shown)) (sym is)
      (shown_all (λ n. is_name_text n ≡ true) text_shown (λ e. (refl, tt)) (fmap.keys r.members)
      (all-map (λ n. is_name_text n ≡ true) (λ (e : Name × MemberRow). e.0) (fmap.entries r.members) (all_entries names_total (λ m x. is_name_text m ≡ true) r.members (keys_named r w h))))

-- ---- lines

-- what is so of all is so of the last of some of them
last_of : {X : Type 0} (P : X → Type 0) (xs ys : List X) (x : X) → AllByRecursion P ((xs ++ x ∷ []) ++ ys) → P x
last_of P [] ys x h = h.0
last_of P (z ∷ zs) ys x h = last_of P zs ys x h.1

module _ (r : Rows) (w : World) (h : book.Spells r w) (p : Name) (after : ℕ) where
  lines_shown : AllByRecursion ShowsLine (all_shown p after r)
  lines_shown =
      all-map ShowsLine (λ (e : (Name × ℕ) × LineRow). line_shown (line_of_row e)) (lines_above p after r)
      (all-filter (λ (e : (Name × ℕ) × LineRow). ShowsLine (line_shown (line_of_row e))) _ (fmap.entries r.lines)
      (all_entries kept.pairs_key.total (λ k x. ShowsLine (line_shown (line_of_row (k, x)))) r.lines (λ k x at.
      let l = lines_sound r w h k x at in (line_of_row (k, x), l.amount, l.note, refl))))

  -- a row that isn't given blames the disk, want of memory or the limit on steps
  pub line_blamed : {S : Type 0} (g : Ghosts S) (old new : Held S) (rows : List Row) → HasGiven g select_lines (given p after) old rows → Holds (state g old).now r → Holds (state g new).now r
      → IsTrue (state g old).is_open → (f : StoreFault) → FailsToGive g old new f → Blames (state g old) (state g new) f
  line_blamed g old new rows has before now live f (inl failed) =
      rw failed.2 (query_told select_lines (given p after) (state g old) (state g new) failed.0 select_lines_is.query.plain before.has.schema (lines_accepted (state g old).now.trees p after) live (failed.1 select_lines (given p after) rows has))
  line_blamed g old new rows has before now live f (inr wrong) =
      let all = begins p after g new (rows ++ wrong.0 ∷ []) (wrong.1 select_lines (given p after) rows has) r now in
      absurd (wrong.2 (last_of ShowsLine rows all.0 wrong.0 (subst (AllByRecursion ShowsLine) (sym all.1) lines_shown)))
