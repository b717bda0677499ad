-- The statements on inboxes.
use Rattle.mx_tables.proofs.Common.{◌≡◌, ◌<◌, ℕ, None, length, List, [], ◌∷◌, refl, ℤ, pos, ◌+◌, true, Some, Option, codes, Ok, ◌∙◌, arith, AllByRecursion, length-map, Text, Int, number, office_schema, option_map, IsPermutation, Ordering, nat_cmp, is_eq, eq_by_cmp, Binary, Row, column, col, Executes, name_cmp, is_name, Name, Rows, rewritten, PurseRow, Holds}
use Rattle.std.proofs.Common.{le_refl, map, ap, not, Err, Result, IfOk, sym, subst, Less}
use Rattle.std.proofs.lemmas.List.Sorted.{length_permutation}
use Rattle.mx_purse.specs.declared.message.Message.{Message}
use Rattle.mx_purse.specs.Messages.{IsMessage}
use Rattle.mx_purse.specs.Words.{message_word, message_details}
use Rattle.mx_purse.proofs.WordLemmas.{same_message}
use Rattle.mx_cells.specs.Cells.{message_cells, message_row, message_shown, first_three}
use Rattle.mx_tables.specs.Answers.{at_key, AreMessages, HaveNumbers, Raises, one_or_none}
use Rattle.mx_tables.proofs.ValueLemmas.{same_made}
use Rattle.mx_cells.proofs.TextLemmas.{same_words}
use Rattle.std.specs.FinMap as fmap
use Rattle.std.specs.Ordering.{ordering_then}
use Rattle.std.specs.Cmp.{eq_by_cmp_equiv, nat_cmp_total, tied_then}
use Rattle.sqlite_value.specs.Keys.{ascending}
use Rattle.sqlite_value.proofs.OrderLemmas.{value_cmp-Int, then-Equal}
use Rattle.sqlite_trees.proofs.ListLemmas.{map-map}
use Rattle.sqlite.specs.State.{State, Shown}
use Rattle.mx_pay.specs.Limits.{most_number}
use Rattle.mx_pay.proofs.SameLemmas.{names_turned}
use Rattle.mx_book.specs.RowEdits.{on_purse}
use Rattle.mx_book.specs.declared.edits.Edit.TheVariants.{AddMessage}
use Rattle.mx_book.specs.RowReads.{row_inbox_of, of_name}
use Rattle.mx_book.specs.Under.{pair_cmp}
use Rattle.mx_book.proofs.NameLemmas.{same_name}
use Rattle.mx_book.proofs.MapLemmas.{all_entries}
use Rattle.mx_tables.proofs.Texts.{is_given, select_inbox, select_inbox_is, select_held_numbers, select_held_numbers_is, select_message, select_message_is, select_number, select_number_is, insert_message, insert_message_is, delete_message, delete_message_is}
use Rattle.mx_tables.proofs.Statements.{passes}
use Rattle.mx_tables.proofs.StoredLemmas.{and_true, same_text, same_numbers, numbers_cmp, cast_int, cast_null}
use Rattle.sqlite.specs.Listing.{understood}
use Rattle.sqlite_tied.specs.Compute.{everything}
use Rattle.sqlite_trees.specs.Tree.{Trees}
use Rattle.mx_tables.specs.States.{Accepts, Brings}
use Rattle.mx_tables.proofs.FaultLemmas.{IsWhole, select_accepted}
use Rattle.mx_tables.proofs.ReadLemmas.{answers, answers_in_order, keyed}
use Rattle.mx_tables.proofs.WriteLemmas.{adds, drops, goes_as, goes_then}
use Rattle.mx_tables.proofs.KeptLemmas as kept
use Rattle.sqlite_trees.proofs.ListLemmas.{all-map, all-filter}

-- messages that show the same row are the same
same_message_row : (m n : ℕ × Message) → IsMessage m.1 → IsMessage n.1 → message_row m ≡ message_row n → m ≡ n
same_message_row (n, m) (k, l) one two h = let message = same_message m l one two (cc) (cc) in cc

-- under one first key, pairs are in the order of their second keys
pub second_less : (a b : Ordering) → is_eq a ≡ true → ordering_then a b ≡ Less → b ≡ Less
second_less a b e h = grind arith

pub same_first : (p a b : Name) → is_name p a ≡ true → is_name p b ≡ true → is_eq (name_cmp a b) ≡ true
same_first p a b s t = ap (λ n. is_name n b) (sym (same_name p a s)) ∙ t

pub finds_inbox : (p : Name) (old new : State) (rows : List Row) → Shown select_inbox (Text p ∷ []) old new rows → (r : Rows) → Holds old.now r
    → rows ≡ map message_row (row_inbox_of r p)
finds_inbox p old new rows shown r h =
    answers_in_order kept.inbox (is_given 1 0 ∷ []) (col 1 2 ∷ col 1 3 ∷ col 1 4 ∷ []) ((col 1 2, ascending Binary) ∷ []) (Text p ∷ []) (λ (e : (Name × ℕ) × Message). is_name p e.0.0)
    (λ (e : (Name × ℕ) × Message). (number e.0.1 ∷ [], message_row (e.0.1, e.1)))
    (λ id e. rw (same_text e.0.0 p) (and_true _ ∙ names_turned e.0.0 p)) (λ id e. refl)
    (λ a b s t low. then-Equal _ ∙ value_cmp-Int (pos a.0.1) (pos b.0.1) ∙ numbers_cmp a.0.1 b.0.1 ∙ second_less _ _ (same_first p a.0.0 b.0.0 s t) low)
    select_inbox (codes "number" ∷ codes "kind" ∷ codes "details" ∷ []) select_inbox_is old new rows shown r h
    ∙ sym (map-map message_row (λ (e : (Name × ℕ) × Message). (e.0.1, e.1)) (of_name p (fmap.entries r.inbox)))

held_whole : IsWhole select_held_numbers 1 (understood office_schema select_held_numbers)
unfolding understood everything
held_whole = (le_refl _, refl)

-- the database refuses no such query
pub held_accepted : (p : Name) (db : Trees) → Accepts select_held_numbers (Text p ∷ []) db
held_accepted p db = select_accepted select_held_numbers _ _ _ [] _ select_held_numbers_is (Text p ∷ []) db held_whole (λ h. cc)

pub finds_numbers : (p : Name) (old new : State) (rows : List Row) → Shown select_held_numbers (Text p ∷ []) old new rows → (r : Rows) → Holds old.now r
    → length rows ≡ length (row_inbox_of r p)
finds_numbers p old new rows shown r h =
    let found = answers kept.inbox select_held_numbers _ _ _ select_held_numbers_is (Text p ∷ []) (λ (e : (Name × ℕ) × Message). is_name p e.0.0) (λ (e : (Name × ℕ) × Message). number e.0.1 ∷ [])
    (λ id e. rw (same_text e.0.0 p) (and_true _ ∙ names_turned e.0.0 p)) (λ id e. refl) old new rows shown r h in
    length_permutation _ _ found ∙ length-map _ _ ∙ sym (length-map (of_name p (fmap.entries r.inbox)) (λ (e : (Name × ℕ) × Message). (e.0.1, e.1)))

pub inbox_read : (p : Name) (r : Rows) → AreMessages r → (rows : List Row) (ms : List (ℕ × Message)) → map first_three rows ≡ map message_row ms → AllByRecursion (λ m. IsMessage m.1) ms
    → rows ≡ map message_row (row_inbox_of r p) → ms ≡ row_inbox_of r p
inbox_read p r valid rows ms read mine is =
    same_made (λ m. IsMessage m.1) message_row same_message_row ms (row_inbox_of r p) mine
    (all-map (λ m. IsMessage m.1) (λ (e : (Name × ℕ) × Message). (e.0.1, e.1)) (of_name p (fmap.entries r.inbox))
    (all-filter (λ e. IsMessage e.1) (λ e. is_name p e.0.0) (fmap.entries r.inbox) (all_entries kept.pairs_key.total (λ _ m. IsMessage m) r.inbox valid)))
    (sym read ∙ ap (map first_three) is ∙ map-map first_three message_row (row_inbox_of r p))

-- the test on both columns of the key
pub at_message : (p : Name) (n : ℕ) (id : ℤ) (e : (Name × ℕ) × Message) → passes (is_given 1 0 ∷ is_given 2 1 ∷ []) (Text p ∷ number n ∷ []) (Int id ∷ message_cells e) ≡ eq_by_cmp (pair_cmp name_cmp nat_cmp) (p, n) e.0
at_message p n id e =
    grind (arith, same_text e.0.0 p, same_numbers e.0.1 n, names_turned e.0.0 p, (eq_by_cmp_equiv nat_cmp_total).symm e.0.1 n, tied_then (name_cmp p e.0.0) (nat_cmp n e.0.1))

pub message_is : (p : Name) (n : ℕ) (old new : State) (rows : List Row) → Shown select_message (Text p ∷ number n ∷ []) old new rows → (r : Rows) → Holds old.now r
    → (found : Option Row) → rows ≡ one_or_none found → found ≡ option_map message_shown (fmap.get r.inbox (p, n))
message_is p n = keyed kept.inbox (p, n) select_message _ _ _ select_message_is (Text p ∷ number n ∷ []) message_shown (at_message p n) (λ id e. refl)

-- the rows at a key have its number
same_numbers_shown : (p : Name) (n : ℕ) (es : List ((Name × ℕ) × Message))
    → map (λ (e : (Name × ℕ) × Message). number e.0.1 ∷ []) (at_key (pair_cmp name_cmp nat_cmp) (p, n) es) ≡ map (λ (e : (Name × ℕ) × Message). number n ∷ []) (at_key (pair_cmp name_cmp nat_cmp) (p, n) es)
same_numbers_shown p n [] = refl
same_numbers_shown p n (e ∷ es) = grind (arith, same_numbers_shown p n es, kept.pairs_key.exact (p, n) e.0)

pub finds_number : (p : Name) (n : ℕ) (old new : State) (rows : List Row) → Shown select_number (Text p ∷ number n ∷ []) old new rows → (r : Rows) → Holds old.now r
    → IsPermutation (map (λ (e : (Name × ℕ) × Message). number n ∷ []) (at_key (pair_cmp name_cmp nat_cmp) (p, n) (fmap.entries r.inbox))) rows
finds_number p n old new rows shown r h =
    subst (λ xs. IsPermutation xs rows) (same_numbers_shown p n (fmap.entries r.inbox))
    (answers kept.inbox select_number _ _ _ select_number_is (Text p ∷ number n ∷ []) (λ (e : (Name × ℕ) × Message). eq_by_cmp (pair_cmp name_cmp nat_cmp) (p, n) e.0) (λ (e : (Name × ℕ) × Message). number e.0.1 ∷ [])
    (at_message p n) (λ id e. refl) old new rows shown r h)

pub message_back : (v m : Message) (row : Row) → IsMessage v → IsMessage m → message_shown v ≡ row → column row 0 ≡ Text (message_word m) → column row 1 ≡ Text (message_details m) → m ≡ v
message_back v m row one two is a b = sym (same_message v m one two (same_words _ _ (ap (λ r. column r 0) is ∙ a)) (same_words _ _ (ap (λ r. column r 1) is ∙ b)))

-- ---- writes

-- what is kept but one key is what is left where it is removed
remove_is : (m : fmap.FinMap (pair_cmp name_cmp nat_cmp) Message) (k : Name × ℕ) → fmap.retain_keys m (λ j. not (eq_by_cmp (pair_cmp name_cmp nat_cmp) k j)) ≡ fmap.remove m k
remove_is m k = fmap.same_map kept.pairs_key.total kept.pairs_key.exact _ _ (λ q.
    let left = fmap.get-retain_keys m (λ j. not (eq_by_cmp (pair_cmp name_cmp nat_cmp) k j)) q (λ x tie. ap (λ j. not (eq_by_cmp (pair_cmp name_cmp nat_cmp) k j)) (sym (kept.pairs_key.exact q x tie))) in
    grind (arith, left, (eq_by_cmp_equiv kept.pairs_key.total).symm k q, fmap.get-remove kept.pairs_key.total m k q))

pub both_hold : {X E : Type 0} (r : Result X E) (P Q : X → Type 0) → IfOk r P → IfOk r Q → IfOk r (λ x. P x × Q x)
both_hold (Ok x) P Q p q = (p, q)
both_hold (Err e) P Q p q = tt

pub drops_message : (p : Name) (n : ℕ) (old new : State) (count : ℕ) → old.now.schema ≡ office_schema → Executes delete_message (Text p ∷ number n ∷ []) old new (Ok count) → Brings (λ r. record r { inbox = fmap.remove r.inbox (p, n) }) old new
drops_message p n old new count has ran =
    goes_as _ _ old new (λ r h. ap (λ m. record r { inbox = m }) (remove_is r.inbox (p, n)))
    (drops kept.inbox delete_message _ _ delete_message_is (Text p ∷ number n ∷ []) (eq_by_cmp (pair_cmp name_cmp nat_cmp) (p, n)) (at_message p n) (λ id e. refl) old new count has ran)

-- no message has a number above 10^15
pub none_above : (r : Rows) (p : Name) (n : ℕ) → HaveNumbers r → most_number < n → fmap.get r.inbox (p, n) ≡ None
none_above r p n low above = by_message (fmap.get r.inbox (p, n)) refl
  where
    by_message : (o : Option Message) → fmap.get r.inbox (p, n) ≡ o → o ≡ None
    by_message None e = refl
    by_message (Some m) e = absurd (let it = low (p, n) m e in omega (arith, it, above))

pub adds_message : (p : Name) (n : ℕ) (m : Message) (old new : State) (count : ℕ) → old.now.schema ≡ office_schema
    → Executes insert_message (Text p ∷ number n ∷ Text (message_word m) ∷ Text (message_details m) ∷ []) old new (Ok count) → Brings (λ r. record r { inbox = fmap.insert r.inbox (p, n) m }) old new
adds_message p n m =
    adds kept.inbox insert_message _ _ insert_message_is (Text p ∷ number n ∷ Text (message_word m) ∷ Text (message_details m) ∷ []) ((p, n), m) (rw (cast_null, cast_int (pos n)) refl)

-- a message under the next number of its purse, which rises
pub delivers : (p : Name) (m : Message) (n : ℕ) (a b c : State) → Raises p n a b → Brings (λ r. record r { inbox = fmap.insert r.inbox (p, n) m }) b c → Brings (λ r. rewritten r (AddMessage p m)) a c
delivers p m n a b c one two = goes_as _ _ a c (λ r holds. is r (fmap.get r.purses p) (one.was r holds)) (goes_then _ _ a b c one.goes two)
  where
    put_in : Rows → Rows
    put_in r = record r { inbox = fmap.insert r.inbox (p, n) m }

    is : (r : Rows) (o : Option PurseRow) → option_map (λ (x : PurseRow). x.next_message) o ≡ Some n
        → put_in (on_purse o r (λ x. record r { purses = fmap.insert r.purses p (record x { next_message = n + 1 }) }))
        ≡ on_purse o r (λ x. record r { purses = fmap.insert r.purses p (record x { next_message = x.next_message + 1 }); inbox = fmap.insert r.inbox (p, x.next_message) m })
    is r o e = grind (arith, e)
