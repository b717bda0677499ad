-- What a holder is told of requests, and what is the holder's own after them, follow from what the holder sees alone.
use Rattle.std.proofs.Common.{◌≡◌, ℕ, Bool, true, false, cond, List, [], ◌∷◌, ◌++◌, map, refl, sym, ◌∙◌, ap, Option, Some, None, option_map}
use Rattle.mx_pay.specs.Names.{is_name}
use Rattle.mx_book.specs.World.{World, Name}
use Rattle.mx_book.specs.declared.values.Caller.{Caller}
use Rattle.mx_book.specs.declared.values.Caller.TheVariants.{Operator, Clerk, Holder}
use Rattle.mx_office.specs.Step.{Course, ends, asks, base, step}
use Rattle.mx_office.specs.Isolation.{Event, Holdings, only_if, for_holder, issued_event, put_event, view_of, on_holdings, after_event, local, cut}
use Rattle.mx_command.specs.declared.values.Command.{Command}
use Rattle.mx_command.specs.declared.values.Refusal.TheVariants.{NotForCaller}
use Rattle.mx_command.specs.declared.values.Reply.{Reply}
use Rattle.mx_office.proofs.LawLemmas.{and_then, course-append, one_law}
use Rattle.mx_wire.specs.Routes.{route_of, class_of}
use Rattle.mx_wire.specs.Bodies.{command_of}
use Rattle.mx_wire.specs.Replies.{sent, fixed_parts, reply_parts}
use Rattle.mx_wire.specs.declared.replies.Fixed.TheVariants as fixed
use Rattle.mx_wire.specs.declared.routes.Class.{Class}
use Rattle.mx_wire.specs.declared.routes.Class.TheVariants as class
use Rattle.mx_wire.specs.declared.routes.Route.{Route}
use Rattle.mx_desk.specs.Requests.{Request}
use Rattle.mx_desk.specs.Respond.{Responded, caller_of, is_of_class, respond, after_route, after_caller, after_body}
use Rattle.mx_desk.specs.Serve.{Marked, world_after_one, world_after, response_to}
use Rattle.mx_desk.specs.Isolation.{Own, Answer, Seen, without_token, if_holders, asked_by, brought_by, seen_of_request, seen_of, seen, is_holders, own_command, own_route, own_answer, after_seen, alone, told_one, told, IsApart}

-- ---- what is brought

-- what is brought is told in no response
brought : (m : Holdings) (es : List Event) → alone m (map Seen.Brought es) ≡ ends (local m es).end []
brought m [] = refl
brought m (e ∷ es) = brought (after_event m e).end es

holders_class : (h : Name) (cls : Class) → is_of_class (Holder h) cls ≡ is_holders cls
holders_class h class.Operator = refl
holders_class h class.Clerk = refl
holders_class h class.Holder = refl

-- ---- a request that does nothing

module _ (m : Holdings) (h : Name) (r : Own) (x : List ℕ) where
  idle_holder : (b : Bool) → after_seen m (Seen.Sent r) ≡ ends m (x ∷ []) → alone m (only_if b (Seen.Sent r) ++ []) ≡ ends m (only_if b x)
  idle_holder true is = ap (λ (c : Course Holdings (List ℕ)). ends c.end (c.replies ++ [])) is
  idle_holder false is = refl

  -- the response to it is the same on the holdings
  idle : (caller : Caller) → ((g : Name) → caller ≡ Holder g → after_seen m (Seen.Sent r) ≡ ends m (x ∷ [])) → alone m (for_holder h caller (Seen.Sent r) ++ []) ≡ ends m (for_holder h caller x)
  idle Operator is = refl
  idle (Clerk c) is = refl
  idle (Holder g) is = idle_holder (is_name h g) (is g refl)

-- ---- a request that asks a command

-- the first of a list, or another where it is empty
abbrev first_or : Reply → List Reply → Reply
first_or r [] = r
first_or r (x ∷ xs) = x

module _ (w : World) (h : Name) (c : Command) (r : Own) (bytes : Reply → List ℕ) where
  -- of somebody else
  others : (caller : Caller) → local (cut w h) (([] ++ issued_event w h caller c) ++ put_event (base w caller c).state h (base w caller c).sent) ≡ ends (cut (step w caller c).world h) []
      → alone (cut w h) ([] ++ map Seen.Brought (issued_event w h caller c ++ put_event (base w caller c).state h (base w caller c).sent)) ≡ ends (cut (step w caller c).world h) []
  others caller law = brought (cut w h) (issued_event w h caller c ++ put_event (base w caller c).state h (base w caller c).sent) ∙ ap (λ (x : Course Holdings Reply). ends x.end []) law

  -- of the holder, as the command's answer on the holdings says it
  own : (g : Name) → (let d = on_holdings (cut w h) (asks c) in after_seen (cut w h) (Seen.Sent r) ≡ ends d.state (bytes d.reply ∷ []))
      → local (cut w h) ((Event.Own c ∷ [] ++ []) ++ put_event (base w (Holder g) c).state h (base w (Holder g) c).sent) ≡ ends (cut (step w (Holder g) c).world h) ((step w (Holder g) c).reply ∷ [])
      → alone (cut w h) (Seen.Sent r ∷ [] ++ map Seen.Brought ([] ++ put_event (base w (Holder g) c).state h (base w (Holder g) c).sent)) ≡ ends (cut (step w (Holder g) c).world h) (bytes (step w (Holder g) c).reply ∷ [])
  own g is law =
      let d = on_holdings (cut w h) (asks c) in
      let put = put_event (base w (Holder g) c).state h (base w (Holder g) c).sent in
      let reply = (step w (Holder g) c).reply in
      let same : d.reply ≡ reply = ap (λ (x : Course Holdings Reply). first_or reply x.replies) law in
      ap (λ (x : Course Holdings (List ℕ)). let rest = alone x.end (map Seen.Brought put) in ends rest.end (x.replies ++ rest.replies)) is
      ∙ ap (λ (x : Course Holdings (List ℕ)). ends x.end (bytes d.reply ∷ x.replies)) (brought d.state put)
      ∙ (λ i. ends (law i).end (bytes (same i) ∷ []))

  -- of a holder, who may be that one
  holder : (g : Name) (b : Bool) → (let d = on_holdings (cut w h) (asks c) in after_seen (cut w h) (Seen.Sent r) ≡ ends d.state (bytes d.reply ∷ []))
      → local (cut w h) ((only_if b (Event.Own c) ++ []) ++ put_event (base w (Holder g) c).state h (base w (Holder g) c).sent) ≡ ends (cut (step w (Holder g) c).world h) (only_if b (step w (Holder g) c).reply)
      → alone (cut w h) (only_if b (Seen.Sent r) ++ map Seen.Brought ([] ++ put_event (base w (Holder g) c).state h (base w (Holder g) c).sent)) ≡ ends (cut (step w (Holder g) c).world h) (only_if b (bytes (step w (Holder g) c).reply))
  holder g true is law = own g is law
  holder g false is law = others (Holder g) law

-- ---- the answer to a request of the holder's own

module _ (m : Holdings) (r : Own) where
  own_none : route_of r.method r.path ≡ None → own_answer m r ≡ record { holdings = m; response = fixed_parts fixed.NoRoute }
  own_none at = ap (own_route m r) at

  own_foreign : (route : Route) → route_of r.method r.path ≡ Some route → is_holders (class_of route) ≡ false → own_answer m r ≡ record { holdings = m; response = fixed_parts (fixed.Refused NotForCaller) }
  own_foreign route at foreign = ap (own_route m r) at ∙ ap (λ b. cond b (own_command m (command_of route r.body)) (record { holdings = m; response = fixed_parts (fixed.Refused NotForCaller) })) foreign

  own_known : (route : Route) (o : Option Command) → route_of r.method r.path ≡ Some route → is_holders (class_of route) ≡ true → command_of route r.body ≡ o → own_answer m r ≡ own_command m o
  own_known route o at known said =
      ap (own_route m r) at ∙ ap (λ b. cond b (own_command m (command_of route r.body)) (record { holdings = m; response = fixed_parts (fixed.Refused NotForCaller) })) known
      ∙ ap (own_command m) said

  told_so : (a : Answer) → own_answer m r ≡ a → after_seen m (Seen.Sent r) ≡ ends a.holdings (sent r.method a.response ∷ [])
  told_so a is = ap (λ (x : Answer). ends x.holdings (sent r.method x.response ∷ [])) is

-- ---- a request, by its route, its caller and its body

module _ (w : World) (h : Name) (r : Request) where
  abbrev m : Holdings
  m = cut w h

  abbrev bytes_of : Responded → List ℕ
  bytes_of x = sent r.method x.response

  -- what is to be shown of a response
  abbrev Apart : Option Caller → Option Route → Responded → Type 0
  Apart who route to = alone m (if_holders h who (Seen.Sent (without_token r)) ++ map Seen.Brought (brought_by w h (asked_by r who route))) ≡ ends (cut to.world h) (if_holders h who (bytes_of to))

  no_route : (who : Option Caller) → route_of r.method r.path ≡ None → Apart who None (record { world = w; response = fixed_parts fixed.NoRoute })
  no_route None at = refl
  no_route (Some caller) at = idle m h (without_token r) (sent r.method (fixed_parts fixed.NoRoute)) caller (λ g is. told_so m (without_token r) _ (own_none m (without_token r) at))

  -- the caller is of the route's class: the body says a command, or is bad
  body_case : (caller : Caller) (route : Route) → route_of r.method r.path ≡ Some route → is_of_class caller (class_of route) ≡ true → (o : Option Command) → command_of route r.body ≡ o
      → alone m (for_holder h caller (Seen.Sent (without_token r)) ++ map Seen.Brought (brought_by w h (option_map (λ command. (caller, command)) o))) ≡ ends (cut (after_body w caller o).world h) (for_holder h caller (bytes_of (after_body w caller o)))
  unfolding after_body view_of
  body_case caller route at right None said =
      idle m h (without_token r) (sent r.method (fixed_parts fixed.BadBody)) caller (λ g is. told_so m (without_token r) _
      (own_known m (without_token r) route None at (sym (holders_class g (class_of route)) ∙ ap (λ x. is_of_class x (class_of route)) (sym is) ∙ right) said))
  body_case Operator route at right (Some c) said = others w h c (without_token r) (λ x. []) Operator (one_law w h Operator c)
  body_case (Clerk n) route at right (Some c) said = others w h c (without_token r) (λ x. []) (Clerk n) (one_law w h (Clerk n) c)
  body_case (Holder g) route at right (Some c) said =
      holder w h c (without_token r) (λ reply. sent r.method (reply_parts reply)) g (is_name h g)
      (told_so m (without_token r) _ (own_known m (without_token r) route (Some c) at (sym (holders_class g (class_of route)) ∙ right) said))
      (one_law w h (Holder g) c)

  class_case : (caller : Caller) (route : Route) (b : Bool) → route_of r.method r.path ≡ Some route → is_of_class caller (class_of route) ≡ b
      → alone m (for_holder h caller (Seen.Sent (without_token r)) ++ map Seen.Brought (brought_by w h (cond b (option_map (λ command. (caller, command)) (command_of route r.body)) None)))
      ≡ (let to = cond b (after_body w caller (command_of route r.body)) (record { world = w; response = fixed_parts (fixed.Refused NotForCaller) }) in ends (cut to.world h) (for_holder h caller (bytes_of to)))
  class_case caller route true at right = body_case caller route at right (command_of route r.body) refl
  class_case caller route false at wrong =
      idle m h (without_token r) (sent r.method (fixed_parts (fixed.Refused NotForCaller))) caller (λ g is. told_so m (without_token r) _
      (own_foreign m (without_token r) route at (sym (holders_class g (class_of route)) ∙ ap (λ x. is_of_class x (class_of route)) (sym is) ∙ wrong)))

  caller_case : (who : Option Caller) (route : Route) → route_of r.method r.path ≡ Some route → Apart who (Some route) (after_caller w r route who)
  unfolding after_caller
  caller_case None route at = refl
  caller_case (Some caller) route at = class_case caller route (is_of_class caller (class_of route)) at refl

  route_case : (route : Option Route) → route_of r.method r.path ≡ route → Apart (caller_of w r.token) route (after_route w r route)
  unfolding after_route
  route_case None at = no_route (caller_of w r.token) at
  route_case (Some route) at = caller_case (caller_of w r.token) route at

  request_apart : alone m (seen_of_request w h r) ≡ ends (cut (respond w r).world h) (if_holders h (caller_of w r.token) (bytes_of (respond w r)))
  unfolding respond
  request_apart = route_case (route_of r.method r.path) refl

-- ---- requests in order, some of which are given up

marked_apart : (w : World) (h : Name) (x : Marked) (b : Bool) → alone (cut w h) (cond b [] (seen_of_request w h x.request))
    ≡ ends (cut (cond b w (respond w x.request).world) h) (cond b [] (if_holders h (caller_of w x.request.token) (sent x.request.method (respond w x.request).response)))
marked_apart w h x true = refl
marked_apart w h x false = request_apart w h x.request

told_same : (w : World) (h : Name) (x : Marked) (b : Bool) → x.given_up ≡ b
    → cond b [] (if_holders h (caller_of w x.request.token) (sent x.request.method (respond w x.request).response)) ≡ cond b [] (if_holders h (caller_of w x.request.token) (response_to w x))
told_same w h x true is = refl
told_same w h x false is = rw is refl

one_apart : (w : World) (h : Name) (x : Marked) → alone (cut w h) (seen_of w h x) ≡ ends (cut (world_after_one w x) h) (told_one h w x)
one_apart w h x = marked_apart w h x x.given_up ∙ ap (ends (cut (world_after_one w x) h)) (told_same w h x x.given_up refl)

all_apart : (w : World) (h : Name) (xs : List Marked) → alone (cut w h) (seen h w xs) ≡ ends (cut (world_after w xs) h) (told h w xs)
all_apart w h [] = refl
all_apart w h (x ∷ xs) =
    course-append after_seen (cut w h) (seen_of w h x) (seen h (world_after_one w x) xs)
    ∙ ap (λ c. and_then after_seen c (seen h (world_after_one w x) xs)) (one_apart w h x)
    ∙ ap (λ (c : Course Holdings (List ℕ)). ends c.end (told_one h w x ++ c.replies)) (all_apart (world_after_one w x) h xs)

-- requests keep each holder apart
pub are_apart : (w : World) (xs : List Marked) (h : Name) → IsApart w h xs
are_apart w xs h = record { told = sym (ap (λ c. c.replies) (all_apart w h xs)); accounts = sym (ap (λ c. c.end) (all_apart w h xs)) }
