-- What `serde_json` makes of a tree: which trees it takes, and what stands at a key.
use Rattle.std.proofs.Common.{◌≡◌, ℕ, ◌+◌, ◌<◌, ◌^◌, List, [], ◌∷◌, length, drop, get_or, Bool, true, false, cond, if◌then◌else◌, ℤ, Float, Bor, arith, Option, Some, None, option_map, option_and_then, is_some, refl, sym, ap, ◌∙◌, unwrap_or, bytes_eq}
use Rattle.std.proofs.lemmas.Grind.{common_steps}
use Rattle.std.proofs.lemmas.List.{drop_more}
use Rattle.std.proofs.lemmas.Option.{option_and_then_some}
use Rattle.std.proofs.lemmas.Slice.Eq.{bytes_eq-Decides}
use Rattle.std.specs.Prelude.{SomeIff}
use Rattle.std.specs.Float.{binary64, float_is_finite}
use Rattle.fast_float.specs.Text.{Parts, digits_of, nearest, IsInteger}
use Rattle.json.specs.Lex.{tokens}
use Rattle.json.specs.Json as json
use Rattle.json.specs.Find as find
use Rattle.json.specs.Find.{later_or}
use Rattle.json.specs.Value.{value_view, members_view}
use Rattle.json.specs.declared.value.Value.{Value}
use Rattle.serde_json.specs.Data.{Num, negative, float, Data, null, boolean, number, string, array, object, Items, Members, no_members, put}
use Rattle.serde_json.specs.Find.{get, get_member, as_str, as_number, as_u64}
use Rattle.serde_json.specs.Read.{read, number_of, number_from, float_of, of_json, of_items, of_members}
use Rattle.serde_json.proofs.Views.{get_member-put, get_member-put_other}
use Rattle.mx_wire.specs.Bodies.{text_at, number_at}
use Rattle.mx_wire.specs.Trees.{data_of, IsData}

-- ---- the whole text

pub read_one : (text : List ℕ) (j : json.Json) → json.value 127 (tokens text) ≡ Some (j, []) → read text ≡ of_json j
read_one text j e = rw e refl

-- ---- which trees are taken

some_is : {A : Type 0} (o : Option A) → is_some o ≡ true → (d : A) → o ≡ Some (unwrap_or o d)
some_is None e d = absurd (cc)
some_is (Some a) e d = refl

pub is_data : {A : Type 0} (v : Value A) → is_some (of_json (value_view v)) ≡ true → IsData v
unfolding data_of
is_data v e = some_is (of_json (value_view v)) e null

then_alike : {A B : Type 0} (f g : A → Option B) → ((a : A) → is_some (f a) ≡ is_some (g a)) → (o : Option A) → is_some (option_and_then f o) ≡ is_some (option_and_then g o)
then_alike f g alike None = refl
then_alike f g alike (Some a) = alike a

-- which members are taken doesn't depend on those before
found_is_free : (ms : json.Members) (f g : Members) → is_some (of_members ms f) ≡ is_some (of_members ms g)
found_is_free json.no_members f g = refl
found_is_free (json.member k j ms) f g = then_alike _ _ (λ d. found_is_free ms (put k d f) (put k d g)) (of_json j)

some_member : (k : List ℕ) (o : Option Data) (ms : json.Members) (f : Members) → is_some o ≡ true → is_some (option_and_then (λ d. of_members ms (put k d f)) o) ≡ is_some (of_members ms f)
some_member k None ms f e = absurd (cc)
some_member k (Some d) ms f e = found_is_free ms (put k d f) f

member_taken : (k : List ℕ) (j : json.Json) (ms : json.Members) (f : Members) → is_some (of_json j) ≡ true → is_some (of_members (json.member k j ms) f) ≡ is_some (of_members ms f)
member_taken k j ms f e = some_member k (of_json j) ms f e

pub members_go_on : {A : Type 0} (ms : List (Bor (List ℕ) × Value A)) (i : ℕ) (m : Bor (List ℕ) × Value A) → i < length ms → m ≡ get_or ms i m → is_some (of_json (value_view m.1)) ≡ true
    → is_some (of_members (members_view (drop i ms)) no_members) ≡ is_some (of_members (members_view (drop (i + 1) ms)) no_members)
members_go_on {A} ms i m within is taken =
    let more : List (Bor (List ℕ) × Value A) = drop (i + 1) ms in
    let here : drop i ms ≡ m ∷ more = drop_more ms i m within ∙ ap (λ n. n ∷ more) (sym is) in
    ap (λ ns. is_some (of_members (members_view ns) no_members)) here ∙ member_taken m.0.now (value_view m.1) (members_view more) no_members taken

-- ---- what stands at a key

abbrev or_found : Option json.Json → Option Data → Option Data
or_found None found = found
or_found (Some j) found = of_json j

put_seen : (key k : List ℕ) (j : json.Json) (d : Data) (found : Members) (b : Bool) → bytes_eq k key ≡ b → of_json j ≡ Some d → get_member key (put k d found) ≡ or_found (cond b (Some j) None) (get_member key found)
put_seen key k j d found true same is = let e : k ≡ key = (bytes_eq-Decides k key).0 same in rw (sym e, is) (get_member-put k d found)
put_seen key k j d found false other is = get_member-put_other key k d found (λ e. let same : bytes_eq k key ≡ true = (bytes_eq-Decides k key).1 (sym e) in cc)

later_seen : (o earlier : Option json.Json) (d found : Option Data) → d ≡ or_found earlier found → or_found o d ≡ or_found (later_or o earlier) found
later_seen None earlier d found e = e
later_seen (Some j) earlier d found e = refl

get_member-of : (key : List ℕ) (ms : json.Members) (found all : Members) → of_members ms found ≡ Some all → get_member key all ≡ or_found (find.get_member key ms) (get_member key found)
get_member-of key json.no_members found all e = let same : found ≡ all = cc in ap (get_member key) (sym same)
get_member-of key (json.member k j ms) found all e =
    option_and_then_some (λ d. of_members ms (put k d found)) (of_json j) all e (λ d is more.
    get_member-of key ms (put k d found) all more ∙ later_seen (find.get_member key ms) _ _ _ (put_seen key k j d found (bytes_eq k key) refl is))

get_object : (key : List ℕ) (ms : json.Members) (o : Option Members) (d : Data) → of_members ms no_members ≡ o → option_map object o ≡ Some d → get key d ≡ option_and_then of_json (find.get_member key ms)
get_object key ms None d is e = absurd (cc)
get_object key ms (Some all) d is e = let same : object all ≡ d = cc in ap (get key) (sym same) ∙ get_member-of key ms _ all is ∙ only (find.get_member key ms)
  where
    only : (o : Option json.Json) → or_found o None ≡ option_and_then of_json o
    only None = refl
    only (Some j) = refl

get_of : (key : List ℕ) (j : json.Json) (d : Data) → of_json j ≡ Some d → get key d ≡ option_and_then of_json (find.get key j)
get_of key json.null d e = let same : null ≡ d = cc in ap (get key) (sym same)
get_of key (json.boolean b) d e = let same : boolean b ≡ d = cc in ap (get key) (sym same)
get_of key (json.number s) d e = number_has_none (number_of s) e
  where
    number_has_none : (o : Option Num) → option_map number o ≡ Some d → get key d ≡ None
    number_has_none None e = absurd (cc)
    number_has_none (Some n) e = let same : number n ≡ d = cc in ap (get key) (sym same)
get_of key (json.string s) d e = let same : string s ≡ d = cc in ap (get key) (sym same)
get_of key (json.array js) d e = array_has_none (of_items js) e
  where
    array_has_none : (o : Option Items) → option_map array o ≡ Some d → get key d ≡ None
    array_has_none None e = absurd (cc)
    array_has_none (Some ds) e = let same : array ds ≡ d = cc in ap (get key) (sym same)
get_of key (json.object ms) d e = get_object key ms (of_members ms no_members) d refl e

no_str : {A : Type 0} (f : A → Data) → ((a : A) → as_str (f a) ≡ None) → (o : Option A) → option_and_then as_str (option_map f o) ≡ None
no_str f lacks None = refl
no_str f lacks (Some a) = lacks a

str_of : (j : json.Json) → option_and_then as_str (of_json j) ≡ find.as_str j
str_of json.null = refl
str_of (json.boolean b) = refl
str_of (json.number s) = no_str number (λ n. refl) (number_of s)
str_of (json.string s) = refl
str_of (json.array js) = no_str array (λ ds. refl) (of_items js)
str_of (json.object ms) = no_str object (λ ms. refl) (of_members ms no_members)

str_of_found : (o : Option json.Json) → option_and_then as_str (option_and_then of_json o) ≡ option_and_then find.as_str o
str_of_found None = refl
str_of_found (Some j) = str_of j

pub text_at_of : {A : Type 0} (key : List ℕ) (v : Value A) → IsData v → text_at key (data_of v) ≡ option_and_then find.as_str (find.get key (value_view v))
text_at_of key v taken = ap (option_and_then as_str) (get_of key (value_view v) (data_of v) taken) ∙ str_of_found (find.get key (value_view v))

abbrev pub u64_of_text : List ℕ → Option ℕ
u64_of_text s = option_and_then as_u64 (number_of s)

no_u64 : {A : Type 0} (f : A → Data) → ((a : A) → as_number (f a) ≡ None) → (o : Option A) → option_and_then as_u64 (option_and_then as_number (option_map f o)) ≡ None
no_u64 f lacks None = refl
no_u64 f lacks (Some a) = ap (option_and_then as_u64) (lacks a)

number_back : (o : Option Num) → option_and_then as_number (option_map number o) ≡ o
number_back None = refl
number_back (Some n) = refl

u64_of : (j : json.Json) → option_and_then as_u64 (option_and_then as_number (of_json j)) ≡ option_and_then u64_of_text (find.as_number j)
u64_of json.null = refl
u64_of (json.boolean b) = refl
u64_of (json.number s) = ap (option_and_then as_u64) (number_back (number_of s))
u64_of (json.string s) = refl
u64_of (json.array js) = no_u64 array (λ ds. refl) (of_items js)
u64_of (json.object ms) = no_u64 object (λ ms. refl) (of_members ms no_members)

u64_of_found : (o : Option json.Json) → option_and_then as_u64 (option_and_then as_number (option_and_then of_json o)) ≡ option_and_then u64_of_text (option_and_then find.as_number o)
u64_of_found None = refl
u64_of_found (Some j) = u64_of j

pub number_at_of : {A : Type 0} (key : List ℕ) (v : Value A) → IsData v → number_at key (data_of v) ≡ option_and_then u64_of_text (option_and_then find.as_number (find.get key (value_view v)))
number_at_of key v taken = ap (λ o. option_and_then as_u64 (option_and_then as_number o)) (get_of key (value_view v) (data_of v) taken) ∙ u64_of_found (find.get key (value_view v))

-- ---- the number of a text

pub u64_of_negative : (p : Parts) → option_and_then as_u64 (number_from true p) ≡ None
u64_of_negative p = by _ _ _ _
  where
    by : (a b : Bool) (z : ℤ) (x : Float) → option_and_then as_u64 (if a then Some (negative z) else (if b then Some (float x) else None)) ≡ None
    by true b z x = refl
    by false true z x = refl
    by false false z x = refl

no_float : (p : Parts) → option_and_then as_u64 (float_of false p) ≡ None
no_float p = by (float_is_finite (nearest binary64 false p))
  where
    by : (b : Bool) → option_and_then as_u64 (if b then Some (float (nearest binary64 false p)) else None) ≡ None
    by true = refl
    by false = refl

pub u64_of_unsigned : (p : Parts) (r : Option ℕ) → SomeIff r (IsInteger p × (digits_of p < 2 ^ 64)) (digits_of p) → r ≡ option_and_then as_u64 (number_from false p)
u64_of_unsigned p None h = grind (arith, common_steps, no_float)
u64_of_unsigned p (Some n) h = grind (arith, common_steps)
