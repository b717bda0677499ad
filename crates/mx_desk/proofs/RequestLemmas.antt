-- What comes first is one thing, and stays where more follows.
use Rattle.std.proofs.Common.{◌≡◌, ℕ, ◌+◌, ◌<◌, ◌≤◌, Bool, true, false, List, [], ◌∷◌, ◌++◌, length, refl, sym, ap, ◌∙◌, arith, length-append, length-drop}
use Rattle.std.specs.Prelude.{Result, Ok, Err, nat_le, if◌then◌else◌}
use Rattle.std.proofs.lemmas.List.{take-append-le, drop-append-le}
use Rattle.std.proofs.lemmas.Bool.{leb-true, le-leb}
use Rattle.httparse.specs.Grammar.{RequestHead, ReadsRequest, print_request, IsRequestHead}
use Rattle.httparse.proofs.GrammarLemmas.{ReadsRequest-append, request_unique}
use Rattle.mx_desk.specs.declared.head.Reason.{Reason}
use Rattle.mx_desk.specs.declared.head.Stop.{Stop}
use Rattle.mx_desk.specs.Requests.{Request, IsHead, Next, Stops, Whole, First, nothing, no_head, a_head, after_head, framing, fields_of, Begins, none, more}

pub IsHead-append : (b tail : List ℕ) (h : RequestHead) (rest : List ℕ) → IsHead b h rest → IsHead (b ++ tail) h (rest ++ tail)
IsHead-append b tail h rest x = record {
  reads = ReadsRequest-append b h rest tail x.reads;
  short = x.short;
  few = x.few;
}

-- a head is not empty
print_some : (h : RequestHead) → IsRequestHead h → 0 < length (print_request h)
unfolding print_request
print_some h x =
    let some = x.method.0 in
    simp length-append (omega arith)

pub head_length : (b : List ℕ) (h : RequestHead) (rest : List ℕ) → ReadsRequest b h rest → length rest < length b
head_length b h rest x =
    let sizes = ap length x.1 ∙ length-append (print_request h) rest in
    let some = print_some h x.0 in
    omega arith

empty_head : (h : RequestHead) (rest : List ℕ) → ¬ (IsHead [] h rest)
empty_head h rest x = let l : length rest < 0 = head_length [] h rest x.reads in absurd (omega arith)

pub First-unique : (b : List ℕ) (n m : Next) → First b n → First b m → n ≡ m
First-unique b n m nothing nothing = refl
First-unique b n m nothing (no_head lt none_fits) = absurd (omega arith)
First-unique b n m nothing (a_head {rest = q} {h = k} is e) = absurd (empty_head k q is)
First-unique b n m (no_head lt none_fits) nothing = absurd (omega arith)
First-unique b n m (no_head lt none_fits) (no_head lt' none_fits') = refl
First-unique b n m (no_head lt none_fits) (a_head {rest = q} {h = k} is e) = absurd (none_fits k q is)
First-unique b n m (a_head {rest = q} {h = k} is e) nothing = absurd (empty_head k q is)
First-unique b n m (a_head {rest = q} {h = k} is e) (no_head lt none_fits) = absurd (none_fits k q is)
First-unique b n m (a_head {rest = q} {h = k} is e) (a_head {rest = r} {h = h} is' e') =
    let same = request_unique b k h q r is.reads is'.reads in
    sym e ∙ ap (λ (x : RequestHead). after_head (framing (fields_of x)) x q) same.0 ∙ ap (λ (x : List ℕ). after_head (framing (fields_of h)) h x) same.1 ∙ e'

cond_whole : (b : Bool) (q : Request) (x : List ℕ) (s : Stop) (r : Request) (mid : List ℕ)
    → (if b then Whole q x else Stops s) ≡ Whole r mid → (b ≡ true) × (q ≡ r) × (x ≡ mid)
cond_whole true q x s r mid e = (refl, cc, cc)
cond_whole false q x s r mid e = absurd (cc)

whole_append : (f : Result ℕ Reason) (h : RequestHead) (rest tail : List ℕ) (r : Request) (mid : List ℕ)
    → after_head f h rest ≡ Whole r mid → after_head f h (rest ++ tail) ≡ Whole r (mid ++ tail)
whole_append (Err reason) h rest tail r mid e = absurd (cc)
whole_append (Ok n) h rest tail r mid e =
    let p = cond_whole (nat_le n (length rest)) _ _ _ r mid e in
    let within : n ≤ length rest = leb-true n (length rest) p.0 in
    let fits : nat_le n (length (rest ++ tail)) ≡ true = le-leb n (length (rest ++ tail)) (simp length-append (omega arith)) in
    rw (fits, take-append-le, drop-append-le, p.1, p.2) refl

pub First-append : (b tail : List ℕ) (r : Request) (mid : List ℕ) → First b (Whole r mid) → First (b ++ tail) (Whole r (mid ++ tail))
First-append b tail r mid (a_head {rest = rest} {h = h} is e) =
    a_head (IsHead-append b tail h rest is) (whole_append (framing (fields_of h)) h rest tail r mid e)

pub Begins-append : (b tail : List ℕ) (rs : List Request) (rest : List ℕ) → Begins b rs rest → Begins (b ++ tail) rs (rest ++ tail)
Begins-append b tail rs rest none = none
Begins-append b tail (r ∷ rs) rest (more {mid = mid} first begins) =
    more (First-append b tail r mid first) (Begins-append mid tail rs rest begins)

pub Begins-then : (b : List ℕ) (rs : List Request) (mid : List ℕ) (ss : List Request) (rest : List ℕ)
    → Begins b rs mid → Begins mid ss rest → Begins b (rs ++ ss) rest
Begins-then b [] mid ss rest none begins = begins
Begins-then b (r ∷ rs) mid ss rest (more first one) two = more first (Begins-then _ rs mid ss rest one two)

after_head_shorter : (f : Result ℕ Reason) (h : RequestHead) (rest : List ℕ) (r : Request) (mid : List ℕ)
    → after_head f h rest ≡ Whole r mid → length mid ≤ length rest
after_head_shorter (Err reason) h rest r mid e = absurd (cc)
after_head_shorter (Ok n) h rest r mid e =
    let p = cond_whole (nat_le n (length rest)) _ _ _ r mid e in
    rw (sym p.2) (simp length-drop (omega arith))

pub Whole-shorter : (b : List ℕ) (r : Request) (mid : List ℕ) → First b (Whole r mid) → length mid < length b
Whole-shorter b r mid (a_head {rest = rest} {h = h} is e) =
    let x = head_length b h rest is.reads in
    let y = after_head_shorter (framing (fields_of h)) h rest r mid e in
    omega arith

-- each request has a byte at least
pub Begins-shorter : (b : List ℕ) (rs : List Request) (rest : List ℕ) → Begins b rs rest → length rs + length rest ≤ length b
Begins-shorter b [] rest none = omega arith
Begins-shorter b (r ∷ rs) rest (more {mid = mid} first begins) =
    let one = Whole-shorter b r mid first in
    let two = Begins-shorter mid rs rest begins in
    omega arith
