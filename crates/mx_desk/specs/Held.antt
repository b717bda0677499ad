-- What is held of requests that were answered in a round, until it is settled.
use Rattle.std.specs.Prelude.{◌≡◌, ◌≤◌, ℕ, Bool, true, false, List, [], ◌∷◌, ◌++◌, Option, Result, Ok, Err, IfErr, OnOk, OnErr, is_ok, length, take, ◌<◌, if◌then◌else◌}
use Rattle.std.specs.Io.KnownBytes.{Appends}
use Rattle.std.specs.List.{flat_map}
use Rattle.mx_book.specs.Views.{View, Bides, Settles, IsSure}
use Rattle.mx_book.specs.World.{World, Token}
use Rattle.mx_book.specs.declared.contract.StoreFault.{StoreFault}
use Rattle.mx_book.specs.declared.values.Caller.{Caller}
use Rattle.mx_wire.specs.Made.{parts_of}
use Rattle.mx_wire.specs.Replies.{sent, unavailable, fixed_parts}
use Rattle.mx_wire.specs.declared.replies.Fixed.TheVariants as fixed
use Rattle.mx_wire.specs.declared.replies.Response.{Response}
use Rattle.mx_wire.specs.declared.routes.Method.{Method}
use Rattle.mx_desk.specs.declared.fault.DeskFault.{DeskFault}
use Rattle.mx_desk.specs.declared.held.Held.{Held}
use Rattle.mx_desk.specs.Knows.{Has, Knows}
use Rattle.mx_desk.specs.Requests.{Begins, Request}
use Rattle.mx_desk.specs.Respond.{is_routed}
use Rattle.mx_desk.specs.Serve.{Marked, AllMayBeMarked, requests_of, response_to, world_after, world_after_one}

-- the response to a request, where its round is settled
abbrev pub response_text : Method → Result Response StoreFault → List ℕ
response_text method (Ok response) = sent method (parts_of response)
response_text method (Err e) = unavailable

-- what is sent to a request: where its round is given up, 503 if it has a route
abbrev pub text_of : Bool → Held → List ℕ
text_of kept h = if kept then response_text h.method h.response else if h.routed then unavailable else response_text h.method h.response

abbrev pub texts : Bool → List Held → List ℕ
texts kept = flat_map (text_of kept)

-- each request is sent the response that its mark gives it, in the World that the ones before left
abbrev pub AreSent : Bool → World → List Held → List Marked → Type 0
AreSent kept w [] [] = Unit {0}
AreSent kept w (h ∷ hs) (m ∷ ms) = (text_of kept h ≡ response_to w m) × AreSent kept (world_after_one w m) hs ms
AreSent kept w _ _ = ⊥

-- so much is held of a request, whatever became of the book
pub record IsHeldFor (h : Held) (r : Request) : Type 0 where
  pub routed : h.routed ≡ is_routed r
  pub no_route : h.routed ≡ false → response_text h.method h.response ≡ sent r.method (fixed_parts fixed.NoRoute)

abbrev pub AreHeldFor : List Held → List Request → Type 0
AreHeldFor [] [] = Unit {0}
AreHeldFor (h ∷ hs) (r ∷ rs) = IsHeldFor h r × AreHeldFor hs rs
AreHeldFor _ _ = ⊥

-- requests are answered by the definitions, or given up where they may be, and the book has what they changed
pub record Drafted (fails : StoreFault → Type 0) (new : View) (places : List (Option (Token × Caller))) (w : World) (hs : List Held) (rs : List Request) : Type 0 where
  pub marked : List Marked
  pub requests : requests_of marked ≡ rs
  pub marks : AllMayBeMarked fails w marked
  pub responses : AreSent true w hs marked
  pub kept : Has new places (world_after w marked)

-- This is held of requests that were answered in a round. It is so while there is no doubt.
pub record Holds (fails : StoreFault → Type 0) (old new : View) (known knows : List (Option (Token × Caller))) (hs : List Held) (rs : List Request) : Type 0 where
  pub later : old.doubt ≤ new.doubt
  pub bides : Bides old new
  pub held : AreHeldFor hs rs
  pub drafted : IsSure new → Knows old.world known → Drafted fails new knows old.world hs rs

-- This is held of more requests, with which the input begins.
pub record HoldsMore (fails : StoreFault → Type 0) (old new : View) (known knows : List (Option (Token × Caller))) (before after : List Held) (input rest : List ℕ) : Type 0 where
  pub hs : List Held
  pub rs : List Request
  pub items : after ≡ before ++ hs
  pub begins : Begins input rs rest
  pub holds : Holds fails old new known knows hs rs

-- A round is settled or given up, and then the responses are written, all or the first bytes of them. What is remembered stays,
-- or is so in every World.
pub record Responds {T : Type 0} (fails : StoreFault → Type 0) (old new : View) (known knows : List (Option (Token × Caller))) (hs : List Held) (output written : Option (List ℕ)) (result : Result T DeskFault) : Type 0 where
  pub settled : Result T StoreFault
  pub settles : Settles old new settled
  pub fault : IfErr settled fails
  pub same : OnOk settled (knows ≡ known)
  pub anew : OnErr settled ((w : World) → Knows w knows)
  pub ok : OnOk result (Appends output written (texts (is_ok settled) hs))
  pub err : OnErr result ((count : ℕ) × (count < length (texts (is_ok settled) hs)) × Appends output written (take count (texts (is_ok settled) hs)))
