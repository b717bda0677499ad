-- What is written for a text, from a World.
use Rattle.std.specs.Prelude.{◌≡◌, ℕ, ◌+◌, Bool, true, List, [], ◌∷◌, ◌++◌, length, map, if◌then◌else◌, Option, IfSome}
use Rattle.mx_book.specs.World.{World}
use Rattle.mx_book.specs.declared.contract.StoreFault.{StoreFault}
use Rattle.mx_wire.specs.Replies.{sent, unavailable, fixed_parts}
use Rattle.mx_wire.specs.declared.replies.Fixed.{Fixed}
use Rattle.mx_wire.specs.declared.replies.Fixed.TheVariants as fixed
use Rattle.mx_desk.specs.declared.head.Reason.{Reason}
use Rattle.mx_desk.specs.declared.head.Reason.TheVariants.{BadHead, TransferCoding, BadLength, TooLarge, BodyCut}
use Rattle.mx_desk.specs.declared.head.Stop.{Stop}
use Rattle.mx_desk.specs.Requests.{Request, Next, Nothing, Stops, Whole, Begins, First, IsEnd}
use Rattle.mx_desk.specs.Respond.{respond, MayBeGivenUp}

-- the responses to the faults that end a run
abbrev pub stop_fixed : Reason → Fixed
stop_fixed BadHead = fixed.BadHead
stop_fixed TransferCoding = fixed.TransferCoding
stop_fixed BadLength = fixed.BadLength
stop_fixed TooLarge = fixed.TooLarge
stop_fixed BodyCut = fixed.BodyCut

unfoldable pub stop_text : Stop → List ℕ
stop_text s = sent s.method (fixed_parts (stop_fixed s.reason))

-- a request, and whether it was given up: answered 503, which changes nothing
pub record Marked : Type 0 where
  pub request : Request
  pub given_up : Bool

-- a request is given up only where it may be
abbrev pub MayBeMarked : (StoreFault → Type 0) → World → Marked → Type 0
MayBeMarked fails w m = m.given_up ≡ true → MayBeGivenUp fails w m.request

abbrev pub world_after_one : World → Marked → World
world_after_one w m = if m.given_up then w else (respond w m.request).world

abbrev pub response_to : World → Marked → List ℕ
response_to w m = if m.given_up then unavailable else sent m.request.method (respond w m.request).response

-- the World after these requests
abbrev pub world_after : World → List Marked → World
world_after w [] = w
world_after w (m ∷ ms) = world_after (world_after_one w m) ms

-- each of these requests is given up only where it may be, in the World that the ones before left
abbrev pub AllMayBeMarked : (StoreFault → Type 0) → World → List Marked → Type 0
AllMayBeMarked fails w [] = Unit {0}
AllMayBeMarked fails w (m ∷ ms) = MayBeMarked fails w m × AllMayBeMarked fails (world_after_one w m) ms

-- their responses, joined
abbrev pub outputs : World → List Marked → List ℕ
outputs w [] = []
outputs w (m ∷ ms) = response_to w m ++ outputs (world_after_one w m) ms

abbrev pub requests_of : List Marked → List Request
requests_of ms = map (λ m. m.request) ms

-- the response to the end of a text
abbrev pub end_text : Next → List ℕ
end_text Nothing = []
end_text (Stops s) = stop_text s
end_text (Whole r rest) = []

abbrev pub end_count : Next → ℕ
end_count Nothing = 0
end_count (Stops s) = 1
end_count (Whole r rest) = 0

-- the first requests of b, in order and with these marks, were answered; rest follows them
pub record Answered (fails : StoreFault → Type 0) (w : World) (b : List ℕ) (ms : List Marked) (rest : List ℕ) (out : List ℕ) (now : World) : Type 0 where
  pub begins : Begins b (requests_of ms) rest
  pub marks : AllMayBeMarked fails w ms
  pub out_is : out ≡ outputs w ms
  pub world_is : now ≡ world_after w ms

-- a whole input was served, with n responses: these requests are all that it has, and what was written are their responses
-- and the response to its end
pub record ServedAll (w : World) (input : Option (List ℕ)) (ms : List Marked) (out : List ℕ) (n : ℕ) : Type 0 where
  pub end : Next
  pub is_end : IsEnd end
  pub out_is : out ≡ outputs w ms ++ end_text end
  pub count : n ≡ length ms + end_count end
  pub all : IfSome input (λ b. (rest : List ℕ) × Begins b (requests_of ms) rest × First rest end)
