-- What matchit finds is one of its rows, and of an ASCII path it takes ASCII parts.
use Rattle.std.proofs.Common.{◌≡◌, ℕ, zero, suc, ◌-◌, ◌<◌, ◌&&◌, List, [], ◌∷◌, Bool, true, false, length, drop, take, refl, subst, arith}
use Rattle.std.specs.Prelude.{Option, Some, None, cond, ◌==◌, nat_lt, nat_le}
use Rattle.std.specs.Char.{is_ascii}
use Rattle.std.specs.List.{list_all}
use Rattle.std.specs.Str.{IsAscii, IsNotAscii, IsUtf8}
use Rattle.std.proofs.lemmas.Bool.{and_parts, and_from, false_from_ne_true}
use Rattle.std.proofs.lemmas.Bool.Decides.{nat_tests}
use Rattle.std.proofs.lemmas.Str.{IsAscii-take, IsAscii-drop, IsUtf8-from_ascii, IsUtf8-nil}
use Rattle.matchit.specs.Rows.{RowsOf, param_token, catch_all_token}
use Rattle.matchit.specs.Router.{RouteOf}
use Rattle.matchit.specs.Seek.{first, seek, param_step, own, step, or_else, longest_suffix, segment, with_suffix, same_text, has_slash}
use Rattle.matchit.specs.Params.{walk, part_of, AllText}
use Rattle.matchit.proofs.OnLiterals.{matchit_on_literals}
use Rattle.mx_wire.specs.declared.routes.Method.{Method}
use Rattle.mx_wire.specs.declared.routes.Pattern.{Pattern}
use Rattle.mx_wire.specs.declared.routes.Route.{Route}
use Rattle.mx_wire.specs.Routes.{Rows, table_rows, route_of, asked}

ascii_byte : (b : ℕ) → is_ascii b ≡ true → b < 128
ascii_byte b h = grind (arith, nat_tests)

-- the test and the fact
IsAscii-from_test : (bs : List ℕ) → list_all is_ascii bs ≡ true → IsAscii bs
IsAscii-from_test [] h i = omega arith
IsAscii-from_test (b ∷ bs) h zero = ascii_byte b (and_parts _ _ h).0
IsAscii-from_test (b ∷ bs) h (suc i) = IsAscii-from_test bs (and_parts _ _ h).1 i

test_of_byte : (b : ℕ) → b < 128 → is_ascii b ≡ true
test_of_byte b h = grind (arith, nat_tests)

test-from_IsAscii : (bs : List ℕ) → IsAscii bs → list_all is_ascii bs ≡ true
test-from_IsAscii [] h = refl
test-from_IsAscii (b ∷ bs) h = and_from _ _ (test_of_byte b (h 0)) (test-from_IsAscii bs (λ i. h (suc i)))

test-from_IsNotAscii : (bs : List ℕ) → IsNotAscii bs → list_all is_ascii bs ≡ false
test-from_IsNotAscii bs h = false_from_ne_true _ (λ all. let low = IsAscii-from_test bs all h.0 in absurd (omega (arith, low, h.1)))

-- ---- the parts of an ASCII path are texts

part_text : (bytes : List ℕ) (start end : ℕ) → IsAscii bytes → IsUtf8 (part_of bytes start end)
part_text bytes start end ascii = by (nat_le start end && nat_le end (length bytes))
  where
    by : (b : Bool) → IsUtf8 (cond b (take (end - start) (drop start bytes)) [])
    by true = IsUtf8-from_ascii _ (IsAscii-take _ (end - start) (IsAscii-drop bytes start ascii))
    by false = IsUtf8-nil

pub walk_text : (pattern text path : List ℕ) (names : List (ℕ × ℕ)) (token at : ℕ)
    → IsAscii text → IsAscii path → AllText (walk pattern text path names token at)
walk_text pattern text path [] token at t p = tt
walk_text pattern text path (name ∷ rest) token at t p = (
  part_text text name.0 name.1 t,
  part_text path _ _ p,
  walk_text pattern text path rest _ _ t p,
)

-- ---- what holds of every row holds of the one that is found

module _ {K : Type 0} (P : K → Type 0) where
  abbrev pub AllKeys : RowsOf K → Type 0
  AllKeys [] = Unit {0}
  AllKeys ((t, key) ∷ rest) = P key × AllKeys rest

  abbrev pub OfFound : Option K → Type 0
  OfFound None = Unit {0}
  OfFound (Some key) = P key

  own-all : (rs : RowsOf K) → AllKeys rs → OfFound (own rs)
  own-all [] a = tt
  own-all (([], key) ∷ rest) a = a.0
  own-all ((x ∷ t, key) ∷ rest) a = own-all rest a.1

  or_else-all : (x y : Option K) → OfFound x → OfFound y → OfFound (or_else x y)
  or_else-all None y a b = b
  or_else-all (Some key) y a b = a

  cond-all : (b : Bool) (x y : RowsOf K) → AllKeys x → AllKeys y → AllKeys (cond b x y)
  cond-all true x y a c = a
  cond-all false x y a c = c

  step-all : (b : ℕ) (rs : RowsOf K) → AllKeys rs → AllKeys (step b rs)
  step-all b [] a = tt
  step-all b (([], key) ∷ rest) a = step-all b rest a.1
  step-all b ((x ∷ t, key) ∷ rest) a = cond-all (x == b) _ _ (a.0, step-all b rest a.1) (step-all b rest a.1)

  with_suffix-all : (suffix : List ℕ) (rs : RowsOf K) → AllKeys rs → AllKeys (with_suffix suffix rs)
  with_suffix-all suffix [] a = tt
  with_suffix-all suffix ((t, key) ∷ rest) a = cond-all (same_text (segment t) suffix) _ _ (a.0, with_suffix-all suffix rest a.1) (with_suffix-all suffix rest a.1)

  param_step-all : (rs : RowsOf K) (path : List ℕ) → AllKeys rs → AllKeys (param_step rs path).1
  unfolding param_step
  param_step-all rs path a = by (nat_lt 0 (length (longest_suffix (segment path) rs))) (has_slash path)
    where
      by : (b c : Bool) → AllKeys (cond {A = ℕ × RowsOf K} b (length (segment path) - length (longest_suffix (segment path) rs), with_suffix (longest_suffix (segment path) rs) rs) (cond c (0, []) (length path, rs))).1
      by true c = with_suffix-all (longest_suffix (segment path) rs) rs a
      by false true = tt
      by false false = a

  pub seek-all : (skip : ℕ) (rs : RowsOf K) (path : List ℕ) → AllKeys rs → OfFound (seek skip rs path)
  unfolding seek
  seek-all skip rs [] a = own-all rs a
  seek-all (suc skip) rs (b ∷ path) a = seek-all skip rs path a
  seek-all zero rs (b ∷ path) a =
      or_else-all _ _ (seek-all 0 (step b rs) path (step-all b rs a))
      (or_else-all _ _
      (seek-all _ _ path (param_step-all (step param_token rs) (b ∷ path) (step-all param_token rs a)))
      (own-all (step catch_all_token rs) (step-all catch_all_token rs a)))

-- ---- the texts of the table are ASCII

abbrev is_text : RouteOf Pattern → Bool
is_text r = list_all is_ascii r.text

abbrev IsText : RouteOf Pattern → Type 0
IsText r = is_text r ≡ true

texts : AllKeys IsText table_rows
unfolding matchit_on_literals table_rows
texts = (refl, (refl, (refl, (refl, (refl, (refl, (refl, (refl, (refl, (refl, (refl, (refl, (refl, (refl, (refl, (refl, (refl, (refl, (refl, (refl, tt))))))))))))))))))))

pub found_ascii : (path : List ℕ) (r : RouteOf Pattern) → first table_rows path ≡ Some r → IsAscii r.text
found_ascii path r found = IsAscii-from_test r.text (subst (OfFound IsText) found (seek-all IsText 0 table_rows path texts))

-- ---- the route, by what matchit finds

pub route_not_ascii : (method : Method) (path : List ℕ) → IsNotAscii path → route_of method path ≡ None
unfolding route_of
route_not_ascii method path h = rw (test-from_IsNotAscii path h) refl

pub route_missing : (method : Method) (path : List ℕ) → IsAscii path → first table_rows path ≡ None → route_of method path ≡ None
unfolding route_of
route_missing method path h missing = rw (test-from_IsAscii path h, missing) refl

pub route_found : (method : Method) (path taken : List ℕ) (r : RouteOf Pattern) (answer : Option Route)
    → IsAscii path → first table_rows path ≡ Some r → taken ≡ path → answer ≡ asked method taken r → answer ≡ route_of method path
unfolding route_of
route_found method path taken r answer h found same e = rw (test-from_IsAscii path h, found, ← same) e

-- what a router of the table finds for a text that is the path
pub at_table : (router : Rows) (text path : List ℕ) (o : Option (RouteOf Pattern)) → router ≡ table_rows → text ≡ path → first router text ≡ o → first table_rows path ≡ o
at_table router text path o a b e = rw (← a, ← b) e
