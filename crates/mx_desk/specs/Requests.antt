-- The requests in a text: heads within the limits, each with its body (RFC 9112, sections 2 to 6). A head is one
-- of httparse's grammar, of at most 8,192 bytes and 64 fields.
use Rattle.std.specs.Prelude.{◌≡◌, ℕ, ◌<◌, ◌≤◌, Bool, List, [], ◌∷◌, length, take, drop, map, if◌then◌else◌, nat_le, nat_lt, ◌&&◌, Option, Some, None, Result, Ok, Err, codes}
use Rattle.std.specs.List.{list_all}
use Rattle.std.specs.Char.{is_ascii_digit}
use Rattle.std.specs.Str.{str_eq_ignore_ascii_case}
use Rattle.std.specs.Str.Parse.{digits_value}
use Rattle.httparse.specs.Grammar.{RequestHead, ReadsRequest, print_request}
use Rattle.httparse.specs.Spans.{name_and_value}
use Rattle.mx_wire.specs.Routes.{method_of}
use Rattle.mx_wire.specs.declared.routes.Method.{Method}
use Rattle.mx_wire.specs.declared.routes.Method.TheVariants.{Other}
use Rattle.mx_desk.specs.declared.head.Reason.{Reason}
use Rattle.mx_desk.specs.declared.head.Reason.TheVariants.{BadHead, TransferCoding, BadLength, TooLarge, BodyCut}
use Rattle.mx_desk.specs.declared.head.Stop.{Stop}

-- a request, with the value of its one token field
pub record Request : Type 0 where
  pub method : Method
  pub path : List ℕ
  pub token : Option (List ℕ)
  pub body : List ℕ

-- the values of the fields of that name, whose case doesn't count (RFC 9110, section 5.1)
abbrev pub values_of : List ℕ → List (List ℕ × List ℕ) → List (List ℕ)
values_of name [] = []
values_of name (f ∷ fs) =
    if str_eq_ignore_ascii_case f.0 name then f.1 ∷ values_of name fs else values_of name fs

-- the value, where there is exactly one
abbrev pub only : List (List ℕ) → Option (List ℕ)
only [] = None
only (v ∷ []) = Some v
only (v ∷ w ∷ vs) = None

-- one or more digits (RFC 9110, section 8.6)
abbrev pub is_number : List ℕ → Bool
is_number v = nat_lt 0 (length v) && list_all is_ascii_digit v

-- how many bytes of body a value announces: a number up to 4,096
abbrev pub announced : List ℕ → Result ℕ Reason
announced v =
    if is_number v then (if nat_le (digits_value 10 v) 4096 then Ok (digits_value 10 v) else Err TooLarge) else Err BadLength

-- how many bytes of body the Content-Length fields announce: none where there is no such field
abbrev pub length_of : List (List ℕ) → Result ℕ Reason
length_of [] = Ok 0
length_of (v ∷ []) = announced v
length_of (v ∷ w ∷ vs) = Err BadLength

-- how many bytes of body follow a head with these fields (RFC 9112, section 6.3); no transfer coding is taken
abbrev pub framing : List (List ℕ × List ℕ) → Result ℕ Reason
framing fields =
    if nat_lt 0 (length (values_of (codes "transfer-encoding") fields))
    then Err TransferCoding
    else length_of (values_of (codes "content-length") fields)

-- b is the head h and then rest, within the limits
pub record IsHead (b : List ℕ) (h : RequestHead) (rest : List ℕ) : Type 0 where
  pub reads : ReadsRequest b h rest
  pub short : length (print_request h) ≤ 8192
  pub few : length h.fields ≤ 64

-- no prefix of b is a head within the limits
abbrev pub HasNoHead : List ℕ → Type 0
HasNoHead b = (h : RequestHead) (rest : List ℕ) → ¬ (IsHead b h rest)

-- what comes first in a text: nothing, a fault that ends the run, or a request and the rest
pub data Next : Type 0 where
  Nothing : Next
  Stops : Stop → Next
  Whole : Request → List ℕ → Next

abbrev pub fields_of : RequestHead → List (List ℕ × List ℕ)
fields_of h = map name_and_value h.fields

abbrev pub request_of : RequestHead → List ℕ → Request
request_of h body = record {
  method = method_of h.method;
  path = h.target;
  token = only (values_of (codes "purse-token") (fields_of h));
  body = body;
}

-- what comes first where a text begins with this head: the fault of its fields, or a request with the body that
-- they announce, or a cut body where fewer bytes follow
abbrev pub after_head : Result ℕ Reason → RequestHead → List ℕ → Next
after_head (Err reason) h rest = Stops (record { method = method_of h.method; reason = reason })
after_head (Ok n) h rest =
    if nat_le n (length rest)
    then Whole (request_of h (take n rest)) (drop n rest)
    else Stops (record { method = method_of h.method; reason = BodyCut })

-- what comes first in b
pub data First : List ℕ → Next → Type 0 where
  nothing : First [] Nothing
  no_head : {b : List ℕ} → 0 < length b → HasNoHead b → First b (Stops (record { method = Other; reason = BadHead }))
  a_head : {b rest : List ℕ} {h : RequestHead} {next : Next}
      → IsHead b h rest → after_head (framing (fields_of h)) h rest ≡ next → First b next

-- b is these requests and then rest
pub data Begins : List ℕ → List Request → List ℕ → Type 0 where
  none : {b : List ℕ} → Begins b [] b
  more : {b mid rest : List ℕ} {r : Request} {rs : List Request}
      → First b (Whole r mid) → Begins mid rs rest → Begins b (r ∷ rs) rest

-- nothing, or a fault
abbrev pub IsEnd : Next → Type 0
IsEnd Nothing = Unit {0}
IsEnd (Stops s) = Unit {0}
IsEnd (Whole r rest) = ⊥

-- the requests in b, and its end
pub record Requests (b : List ℕ) (rs : List Request) (end : Next) : Type 0 where
  pub rest : List ℕ
  pub begins : Begins b rs rest
  pub first : First rest end
  pub is_end : IsEnd end
