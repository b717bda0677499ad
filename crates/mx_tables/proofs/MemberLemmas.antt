-- The statements on members, holders and tokens.
use Rattle.mx_tables.proofs.Common.{◌≡◌, ℕ, pos, true, List, [], ◌∷◌, filter, codes, Ok, refl, ◌∙◌, Bool, ◌++◌, Some, Option, IsPermutation, ◌&&◌, Text, Binary, Row, column, col, Executes, is_name, Name, Rows, office_schema, number, Holds, Brings, Database}
use Rattle.std.proofs.Common.{map, sym, ap, subst}
use Rattle.std.specs.FinMap as fmap
use Rattle.sqlite_value.specs.Keys.{ascending}
use Rattle.sqlite_value.proofs.OrderLemmas.{value_cmp-Text, then-Equal}
use Rattle.sqlite_trees.proofs.ListLemmas.{map-map}
use Rattle.sqlite.specs.State.{State, Shown}
use Rattle.mx_book.specs.World.{Token}
use Rattle.mx_book.specs.declared.values.MemberRow.{MemberRow}
use Rattle.mx_book.proofs.NameLemmas.{names_total, names_exact, same_name, name_itself}
use Rattle.mx_tables.specs.Schema.{Contents, tokens_of, rows_of, AreTokens}
use Rattle.mx_cells.specs.Cells.{token_cells, caller_shown}
use Rattle.mx_tables.specs.Holds.{HasContents, Stores}
use Rattle.mx_tables.specs.Answers.{at_key, text_shown}
use Rattle.mx_tables.proofs.Texts.{select_members, select_members_is, insert_member, insert_member_is, update_member, update_member_is, insert_holder, insert_holder_is, select_token, select_token_is, insert_token, insert_token_is}
use Rattle.mx_tables.proofs.StoredLemmas.{and_true, same_text, cast_int, cast_null, stores_put}
use Rattle.mx_tables.proofs.ReadLemmas.{answers_in_order, answered}
use Rattle.mx_tables.proofs.WriteLemmas.{adds, alters_one, has_then, no_actions}
use Rattle.mx_tables.proofs.KeptLemmas.{members, holders, token_place, token_rows}
use Rattle.mx_tables.proofs.Places.{stored, distinct}
use Rattle.std.specs.Cmp.{both_ways}
use Rattle.std.proofs.ByRecursion.{All-push}
use Rattle.sqlite_trees.proofs.ListLemmas.{all_of, all_weaker, filter_all, filter_same}
use Rattle.mx_tables.proofs.ValueLemmas.{same_made}
use Rattle.mx_cells.proofs.TextLemmas.{same_words}
use Rattle.std.proofs.lemmas.List.{map-append}
use Rattle.std.proofs.lemmas.List.Sorted.{IsPermutation-sym, IsPermutation-trans, IsPermutation-map, IsPermutation-cons}
use Rattle.hex.specs.Hex.{encode_lower}
use Rattle.sqlite_keyed.proofs.ListLemmas.{IsPermutation-filter}
use Rattle.mx_pay.specs.Tokens.{token_cmp, is_token, token_of, IsToken}
use Rattle.mx_book.specs.declared.values.Caller.{Caller}
use Rattle.mx_book.specs.declared.values.Caller.TheVariants.{Operator}
use Rattle.mx_tables.proofs.Statements.{inserted}
use Rattle.mx_tables.proofs.MapLists.{entries_of, map_push}
use Rattle.mx_cells.proofs.TextLemmas.{token_back}
use Rattle.mx_pay.proofs.SameLemmas.{names_turned}

-- ---- members

pub filter_everything : {X : Type 0} (xs : List X) → filter (λ _. true) xs ≡ xs
filter_everything xs = filter_all (λ _. true) xs (all_of (λ _. ◌≡◌ {A = Bool} true true) (λ x. refl) xs)

pub lists_members : (old new : State) (rows : List Row) → Shown select_members [] old new rows → (r : Rows) → Holds old.now r → rows ≡ map text_shown (fmap.keys r.members)
lists_members old new rows shown r h =
    answers_in_order members [] (col 1 1 ∷ []) ((col 1 1, ascending Binary) ∷ []) [] (λ _. true) (λ (e : Name × MemberRow). (text_shown e.0, text_shown e.0)) (λ id e. refl) (λ id e. refl)
    (λ a b _ _ low. then-Equal _ ∙ value_cmp-Text a.0 b.0 ∙ low) select_members (codes "name" ∷ []) select_members_is old new rows shown r h
    ∙ ap (map (λ (e : Name × MemberRow). text_shown e.0)) (filter_everything (fmap.entries r.members))
    ∙ sym (map-map text_shown (λ (e : Name × MemberRow). e.0) (fmap.entries r.members))

-- names that were read one by one
pub names_read : (rows : List Row) (names keys : List Name) → map (λ r. column r 0) rows ≡ map Text names → rows ≡ map text_shown keys → names ≡ keys
names_read rows names keys read is =
    same_made (λ _. Unit {0}) Text (λ m n _ _. same_words m n) names keys (all_of _ (λ _. tt) names) (all_of _ (λ _. tt) keys)
    (sym read ∙ ap (map (λ r. column r 0)) is ∙ map-map (λ r. column r 0) text_shown keys)

-- ---- writes

pub adds_member : (name : Name) (old new : State) (count : ℕ) → old.now.schema ≡ office_schema → Executes insert_member (Text name ∷ []) old new (Ok count)
    → Brings (λ r. record r { members = fmap.insert r.members name (record { granted = 0; float = 0 }) }) old new
adds_member name = adds members insert_member _ _ insert_member_is (Text name ∷ []) (name, record { granted = 0; float = 0 }) (rw (cast_null, cast_int (pos 0)) refl)

pub resets : (m : Name) (row : MemberRow) (old new : State) → old.now.schema ≡ office_schema → Executes update_member (Text m ∷ number row.granted ∷ number row.float ∷ []) old new (Ok 1)
    → Brings (λ r. record r { members = fmap.insert r.members m row }) old new
resets m row old new has ran =
    alters_one members update_member _ _ update_member_is (Text m ∷ number row.granted ∷ number row.float ∷ []) m (λ _. true) (λ _. row) (λ id e. ap (λ b. b && true) (same_text e.0 m)) (λ id e. refl)
    (λ id e. rw (cast_int id, cast_int (pos row.granted), cast_int (pos row.float)) refl) old new has ran _ (λ r v at. refl)

-- ---- holders

pub adds_holder : (name member : Name) (old new : State) (count : ℕ) → old.now.schema ≡ office_schema → Executes insert_holder (Text name ∷ Text member ∷ []) old new (Ok count)
    → Brings (λ r. record r { holders = fmap.insert r.holders name member }) old new
adds_holder name member = adds holders insert_holder _ _ insert_holder_is (Text name ∷ Text member ∷ []) (name, member) (rw cast_null refl)

-- ---- tokens

-- texts of tokens are the same where the tokens are
same_token_texts : (a b : Token) → IsToken a → IsToken b → is_name (encode_lower a) (encode_lower b) ≡ is_token a b
same_token_texts a b one two = both_ways _ _
    (λ t. let e : a ≡ b = let i : ◌≡◌ {A = Option Token} (Some a) (Some b) = sym (token_back a one) ∙ ap token_of {x = encode_lower a} {y = encode_lower b} (same_name (encode_lower a) (encode_lower b) t) ∙ token_back b two in cc in rw e (name_itself b))
    (λ t. rw (same_name a b t) (name_itself (encode_lower b)))

-- the tokens of a book, the operator's first
abbrev pub book_tokens : Rows → List (Token × Caller)
book_tokens r = (r.operator, Operator) ∷ fmap.entries r.tokens

listed_tokens : (db : Database) (c : Contents) (r : Rows) → HasContents db c → rows_of c ≡ r → IsPermutation (tokens_of c) (book_tokens r)
listed_tokens db c r has is =
    let apart = (distinct token_rows db c has).1 in
    subst (λ (s : Rows). IsPermutation (tokens_of c) (book_tokens s)) is (IsPermutation-cons (c.operator, Operator) c.tokens _ (entries_of token_cmp names_total c.tokens apart))

pub finds_token : (t : Token) (old new : State) (rows : List Row) → Shown select_token (Text (encode_lower t) ∷ []) old new rows → IsToken t → (r : Rows) → Holds old.now r
    → IsPermutation (map (λ (e : Token × Caller). caller_shown e.1) (at_key token_cmp t (book_tokens r))) rows
finds_token t old new rows shown one r h =
    let text = encode_lower t in
    let c = h.contents in
    let show = λ (e : Token × Caller). caller_shown e.1 in
    let mine = λ (e : Token × Caller). is_token t e.0 in
    let got = answered select_token 3 _ _ _ select_token_is (Text text ∷ []) token_cells (λ (e : Token × Caller). is_name text (encode_lower e.0)) show
    (λ id e. rw (same_text (encode_lower e.0) text) (and_true _ ∙ names_turned (encode_lower e.0) text)) (λ id e. refl) old new rows shown h.has.schema (tokens_of c) (stored token_rows old.now c h.has).have in
    let told = subst (λ es. IsPermutation (map show es) rows)
    (filter_same _ mine (tokens_of c) (all_weaker (λ (e : Token × Caller). IsToken e.0) _ (λ e. same_token_texts t e.0 one) (tokens_of c) h.has.tokens)) got in
    let same = IsPermutation-map show _ _ (IsPermutation-filter mine _ _ (listed_tokens old.now c r h.has h.rows)) in
    IsPermutation-trans _ _ _ (IsPermutation-sym _ _ same) told

-- ---- writes

pub adds_token : (t : Token) (caller : Caller) (old new : State) (count : ℕ) → IsToken t → old.now.schema ≡ office_schema → Executes insert_token (token_cells (t, caller)) old new (Ok count)
    → Brings (λ r. record r { tokens = fmap.insert r.tokens t caller }) old new
adds_token t caller old new count one has h =
    let e : Token × Caller = (t, caller) in
    let wrote = (inserted office_schema 2 token_place.table refl (no_actions token_place.table) insert_token (token_cells e) old new has insert_token_is.plain count h _ _ (token_cells e) insert_token_is.is refl (rw cast_null refl)).0 in
    record {
      schema = wrote.schema_is;
      rows = λ r h.
          let c = h.contents in
          let d : Contents = record c { tokens = c.tokens ++ e ∷ [] } in
          let stores = stores_put (old.now.trees 3) (map token_cells (tokens_of c)) (token_cells e) (stored token_rows old.now c h.has) in
          let tokens : AreTokens d = All-push (λ (x : Token × Caller). IsToken x.0) (tokens_of c) e h.has.tokens one in
          let after = has_then 1 token_place.table refl old new _ _ c d wrote h.has refl (subst (Stores _) (sym (map-append token_cells (tokens_of c) (e ∷ []))) stores) tokens in
          let pushed = map_push token_cmp names_total names_exact c.tokens t caller (distinct token_rows new.now d after).1 in
          record { contents = d; has = after; rows = (λ i. record (rows_of c) { tokens = pushed i }) ∙ ap (λ (x : Rows). record x { tokens = fmap.insert x.tokens t caller }) h.rows };
    }
