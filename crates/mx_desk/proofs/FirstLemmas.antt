-- What a parse of the bytes so far says of all that may follow.
use Rattle.std.proofs.Common.{◌≡◌, ℕ, ◌+◌, ◌-◌, ◌<◌, ◌≤◌, true, false, List, [], ◌∷◌, ◌++◌, length, take, drop, refl, sym, ap, ◌∙◌, arith, length-append, length-drop, length-take}
use Rattle.std.specs.Prelude.{Ok, Err, nat_le}
use Rattle.std.proofs.lemmas.List.{take-append-le, append-nil, drop-append-le, length-map, drop-drop}
use Rattle.std.proofs.lemmas.Bool.{le-leb, lt-leb}
use Rattle.httparse.specs.Grammar.{RequestHead, ReadsRequest, print_request, HasNoRequest}
use Rattle.httparse.specs.Spans.{IsRequestAt, RequestOverflows, header_bytes, name_and_value}
use Rattle.httparse.specs.declared.spans.HeaderSpan.{HeaderSpan}
use Rattle.httparse.specs.declared.spans.RequestSpans.{RequestSpans}
use Rattle.httparse.proofs.GrammarLemmas.{ReadsRequest-append, request_prefix_free}
use Rattle.mx_wire.specs.Routes.{method_of}
use Rattle.mx_desk.specs.declared.head.Reason.{Reason}
use Rattle.mx_desk.specs.declared.head.Reason.TheVariants.{BodyCut}
use Rattle.mx_desk.specs.Requests.{Request, IsHead, HasNoHead, Stops, Whole, First, a_head, framing, fields_of, request_of}

pub none_so_far : (b : List ℕ) → HasNoRequest b → HasNoHead b
none_so_far b no_request h rest is = no_request h rest is.reads

pub too_many : (b tail : List ℕ) → RequestOverflows 64 b → HasNoHead (b ++ tail)
too_many b tail over h rest is =
    let many = over tail h rest is.reads in
    let few = is.few in
    absurd (omega arith)

front_of : (p q b tail : List ℕ) → b ++ tail ≡ p ++ q → length p ≤ length b → b ≡ p ++ drop (length p) b
front_of [] q b tail e within = refl
front_of (x ∷ p) q [] tail e within = absurd (omega arith)
front_of (x ∷ p) q (y ∷ b) tail e within =
    let heads : y ≡ x = cc in
    let tails : b ++ tail ≡ p ++ q = cc in
    let rest : b ≡ p ++ drop (length p) b = front_of p q b tail tails (omega arith) in
    cc

pub too_long : (b tail : List ℕ) → HasNoRequest b → 8192 ≤ length b → HasNoHead (b ++ tail)
too_long b tail no_request long h rest is =
    let short = is.short in
    no_request h (drop (length (print_request h)) b) (is.reads.0, front_of (print_request h) rest b tail is.reads.1 (omega arith))

pub ends_late : (b tail : List ℕ) (k : RequestHead) (r : List ℕ) → ReadsRequest b k r → 8192 < length (print_request k) → HasNoHead (b ++ tail)
ends_late b tail k r reads late h rest is =
    let same = request_prefix_free b tail k h r rest reads is.reads in
    let sizes = ap (λ (x : RequestHead). length (print_request x)) same.0 in
    let short = is.short in
    absurd (omega arith)

pub head_at : (b tail : List ℕ) (fields : List HeaderSpan) (r : RequestSpans) (h : RequestHead)
    → IsRequestAt b fields r h → r.len ≤ 8192 → r.headers ≤ 64 → IsHead (b ++ tail) h (drop r.len b ++ tail)
head_at b tail fields r h at short few = record {
  reads = ReadsRequest-append b h (drop r.len b) tail at.reads;
  short = let size = at.len in omega arith;
  few =
      let sizes = ap length at.fields in
      let counted : length h.fields ≡ length (take r.headers fields) = sym (length-map h.fields name_and_value) ∙ sym sizes ∙ length-map (take r.headers fields) (header_bytes b) in
      let taken = length-take r.headers fields in
      omega arith;
}

-- a whole request after a head
pub whole_at : (b tail : List ℕ) (h : RequestHead) (start n : ℕ)
    → IsHead (b ++ tail) h (drop start b ++ tail) → framing (fields_of h) ≡ Ok n → start + n ≤ length b
    → First (b ++ tail) (Whole (request_of h (take n (drop start b))) (drop n (drop start b) ++ tail))
whole_at b tail h start n is f within =
    let size = length-drop start b in
    let room : n ≤ length (drop start b) = omega arith in
    let fits : nat_le n (length (drop start b ++ tail)) ≡ true = le-leb _ _ (simp length-append (omega arith)) in
    a_head is (rw (f, fits, take-append-le, drop-append-le) refl)

pub cut_at : (b : List ℕ) (h : RequestHead) (start n : ℕ)
    → IsHead (b ++ []) h (drop start b ++ []) → framing (fields_of h) ≡ Ok n → length b - start < n
    → First b (Stops (record { method = method_of h.method; reason = BodyCut }))
cut_at b h start n is f cut =
    let size = length-drop start b in
    let over : nat_le n (length (drop start b)) ≡ false = lt-leb n (length (drop start b)) (omega arith) in
    a_head (rw (append-nil b, append-nil (drop start b)) at is) (rw (f, over) refl)

pub refused_at : (b : List ℕ) (h : RequestHead) (rest : List ℕ) (reason : Reason)
    → IsHead b h rest → framing (fields_of h) ≡ Err reason → First b (Stops (record { method = method_of h.method; reason = reason }))
refused_at b h rest reason is f = a_head is (rw f refl)

pub same_request : (h : RequestHead) (body : List ℕ) (r : Request)
    → r.method ≡ method_of h.method → r.path ≡ h.target → r.token ≡ (request_of h body).token → r.body ≡ body → request_of h body ≡ r
same_request h body r a b c d = sym (λ i. record { method = a i; path = b i; token = c i; body = d i })

pub whole_found : (b tail : List ℕ) (h : RequestHead) (start n : ℕ) (r : Request)
    → IsHead (b ++ tail) h (drop start b ++ tail) → framing (fields_of h) ≡ Ok n → start + n ≤ length b
    → r.method ≡ method_of h.method → r.path ≡ h.target → r.token ≡ (request_of h (take n (drop start b))).token
    → r.body ≡ take n (drop start b)
    → First (b ++ tail) (Whole r (drop (start + n) b ++ tail))
whole_found b tail h start n r is f within method path token body =
    rw (sym (same_request h (take n (drop start b)) r method path token body), sym (drop-drop n start b)) (whole_at b tail h start n is f within)
