-- What `first` answers says of the bytes so far and of all that may follow.
use Rattle.std.specs.Prelude.{◌≡◌, ℕ, ◌<◌, ◌≤◌, List, [], ◌++◌, length, drop, Option, Some, None, option_map}
use Rattle.mx_desk.specs.declared.head.Received.{Received}
use Rattle.mx_desk.specs.declared.head.Found.{Found}
use Rattle.mx_desk.specs.declared.head.Found.TheVariants as found
use Rattle.mx_desk.specs.declared.head.Stop.{Stop}
use Rattle.mx_desk.specs.Requests.{Request, First, Stops, Whole}

-- the request that the code's borrows show
abbrev pub request_view : Received → Request
request_view a = record {
  method = a.method;
  path = a.path.now;
  token = option_map (λ x. x.now) a.token;
  body = a.body.now;
}

-- it comes first now, and more bytes may change it
abbrev pub IsOpen : List ℕ → Option Stop → Type 0
IsOpen b None = b ≡ []
IsOpen b (Some s) = First b (Stops s) × (length b < 12288)

abbrev pub IsFound : List ℕ → Found → Type 0
IsFound b (found.Open o) = IsOpen b o
IsFound b (found.Stopped s) = (more : List ℕ) → First (b ++ more) (Stops s)
IsFound b (found.Whole asked n) =
    (n ≤ length b) × ((more : List ℕ) → First (b ++ more) (Whole (request_view asked) (drop n b ++ more)))
