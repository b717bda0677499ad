-- Rounds that were settled, and rounds that were given up.
use Rattle.std.proofs.Common.{◌≡◌, ◌+◌, ◌<◌, ◌≤◌, ℕ, zero, suc, Bool, true, false, List, [], ◌∷◌, ◌++◌, length, length-append, get_or, map, take, drop, Option, Some, None, refl, sym, ◌∙◌, ap, subst, inr, append_assoc, arith}
use Rattle.std.specs.Prelude.{Result, Ok, Err, IfErr, OnOk, OnErr, is_ok, is_some}
use Rattle.std.proofs.lemmas.Bool.{false≢true}
use Rattle.std.proofs.lemmas.Grind.{flat_map-append}
use Rattle.std.proofs.lemmas.List.{append-nil, take_more, take-append-drop, take-append-le}
use Rattle.std.proofs.Math.Seq.{take-append-add}
use Rattle.mx_book.specs.Stands.{attempt_all, attempt_one}
use Rattle.mx_book.specs.Views.{View, IsLawful, Bides, Drafts, Settles}
use Rattle.mx_book.specs.World.{World, Token}
use Rattle.mx_book.specs.declared.contract.StoreFault.{StoreFault}
use Rattle.mx_book.specs.declared.values.Caller.{Caller}
use Rattle.mx_book.proofs.StandLemmas.{later_then, sure_before}
use Rattle.mx_book.proofs.ViewLemmas.{attempts_settled, bides_none, bides_then}
use Rattle.mx_wire.specs.Routes.{route_of}
use Rattle.mx_wire.specs.Replies.{fixed_parts, sent}
use Rattle.mx_wire.specs.declared.replies.Fixed.TheVariants as fixed
use Rattle.mx_wire.specs.declared.replies.Response.TheVariants.{Always}
use Rattle.mx_wire.specs.declared.replies.Response.{Response}
use Rattle.mx_wire.specs.declared.routes.Route.{Route}
use Rattle.mx_desk.specs.Answers.{IsAnswer}
use Rattle.mx_desk.specs.declared.held.Held.{Held}
use Rattle.mx_desk.specs.Held.{AreHeldFor, Drafted, Holds, HoldsMore, AreSent, IsHeldFor, response_text, text_of, texts}
use Rattle.mx_desk.specs.Knows.{Has, Knows, RestsKnown}
use Rattle.mx_desk.specs.Requests.{First, Request, Whole, more, none}
use Rattle.mx_desk.specs.Respond.{after_route, respond, MayBeGivenUp}
use Rattle.mx_desk.specs.Rounds.{Moves, Round, all_of, attempts, lost, marked_of}
use Rattle.mx_desk.specs.Serve.{Marked, AllMayBeMarked, outputs, requests_of, response_to, world_after, world_after_one}
use Rattle.mx_desk.proofs.LawLemmas.{marks-append, world_after-append}
use Rattle.mx_desk.proofs.RequestLemmas.{Begins-then}

-- ---- a round that is given up

lost_one : (w : World) (m : Marked) → world_after_one w (lost m) ≡ w
unfolding respond after_route
lost_one w m = by (route_of m.request.method m.request.path) refl where
  by : (o : Option Route) → route_of m.request.method m.request.path ≡ o → world_after_one w (lost m) ≡ w
  by None is = rw is refl
  by (Some route) is = rw is refl

-- nothing is done in it
pub lost_stays : (w : World) (ms : List Marked) → world_after w (map lost ms) ≡ w
lost_stays w [] = refl
lost_stays w (m ∷ ms) = ap (λ v. world_after v (map lost ms)) (lost_one w m) ∙ lost_stays w ms

pub requests_lost : (ms : List Marked) → requests_of (map lost ms) ≡ requests_of ms
requests_lost [] = refl
requests_lost (m ∷ ms) = ap (λ rs. m.request ∷ rs) (requests_lost ms)

-- each of its requests may be given up, since a call of the book failed
lost_marks : (fails : StoreFault → Type 0) (e : StoreFault) → fails e → (w : World) (ms : List Marked) → AllMayBeMarked fails w (map lost ms)
lost_marks fails e may w [] = tt
lost_marks fails e may w (m ∷ ms) = (λ routed. (routed, inr (e, may)), subst (λ v. AllMayBeMarked fails v (map lost ms)) (sym (lost_one w m)) (lost_marks fails e may w ms))

lost_response : (w : World) (m : Marked) (h : Held) → IsHeldFor h m.request → text_of false h ≡ response_to w (lost m)
unfolding respond after_route
lost_response w m h is = by (route_of m.request.method m.request.path) refl where
  by : (o : Option Route) → route_of m.request.method m.request.path ≡ o → text_of false h ≡ response_to w (lost m)
  by None none_is =
      let routed : h.routed ≡ false = is.routed ∙ rw none_is refl in
      rw (routed, none_is) (is.no_route routed)
  by (Some route) some_is =
      let routed : h.routed ≡ true = is.routed ∙ rw some_is refl in
      rw (routed, some_is) refl

lost_responses : (w : World) (ms : List Marked) (hs : List Held) → AreHeldFor hs (requests_of ms) → AreSent false w hs (map lost ms)
lost_responses w [] [] held = tt
lost_responses w [] (h ∷ hs) held = absurd held
lost_responses w (m ∷ ms) [] held = absurd held
lost_responses w (m ∷ ms) (h ∷ hs) held =
    (lost_response w m h held.0, subst (λ v. AreSent false v hs (map lost ms)) (sym (lost_one w m)) (lost_responses w ms hs held.1))

-- ---- rounds as attempts

round_leads : (w : World) (held : List Marked) (given_up : Bool) (few : length held ≤ 64) → world_after w (marked_of (record { held = held; few = few; given_up = given_up })) ≡ attempt_one w (record { given_up = given_up; change = λ v. world_after v held })
round_leads w held true few = lost_stays w held
round_leads w held false few = refl

-- the World after the requests of rounds is that after their attempts
pub attempts_lead : (w : World) (rs : List Round) → attempt_all w (attempts rs) ≡ world_after w (all_of rs)
attempts_lead w [] = refl
attempts_lead w (r ∷ rs) =
    attempts_lead (attempt_one w (record { given_up = r.given_up; change = λ v. world_after v r.held })) rs ∙ ap (λ v. world_after v (all_of rs)) (sym (round_leads w r.held r.given_up r.few)) ∙ sym (world_after-append w (marked_of r) (all_of rs))

pub all_of-append : (rs ss : List Round) → all_of (rs ++ ss) ≡ all_of rs ++ all_of ss
all_of-append [] ss = refl
all_of-append (r ∷ rs) ss = ap (λ l. marked_of r ++ l) (all_of-append rs ss) ∙ sym (append_assoc (marked_of r) (all_of rs) _)

-- ---- what is held

-- what is sent to one more
pub texts_more : (kept : Bool) (hs : List Held) (i : ℕ) (h : Held) → i < length hs → h ≡ get_or hs i h → texts kept (take (i + 1) hs) ≡ texts kept (take i hs) ++ text_of kept h
texts_more kept hs i h below is =
    ap (texts kept) (take_more hs i h below ∙ ap (λ x. take i hs ++ x ∷ []) (sym is)) ∙ flat_map-append (text_of kept) (take i hs) (h ∷ []) ∙ ap (λ t. texts kept (take i hs) ++ t) (append-nil (text_of kept h))

-- and where that is cut
pub texts_cut : (kept : Bool) (hs : List Held) (i : ℕ) (h : Held) (count : ℕ) → i < length hs → h ≡ get_or hs i h → count < length (text_of kept h)
    → (length (texts kept (take i hs)) + count < length (texts kept hs)) × (take (length (texts kept (take i hs)) + count) (texts kept hs) ≡ texts kept (take i hs) ++ take count (text_of kept h))
texts_cut kept hs i h count below is less = (rw whole (simp length-append (omega arith)), rw whole (take-append-add before (text_of kept h ++ after) count ∙ ap (λ t. before ++ t) (take-append-le count (text_of kept h) after (omega (arith, less))))) where
  before : List ℕ
  before = texts kept (take i hs)

  after : List ℕ
  after = texts kept (drop (i + 1) hs)

  whole : texts kept hs ≡ texts kept (take i hs) ++ (text_of kept h ++ texts kept (drop (i + 1) hs))
  whole =
      ap (texts kept) (sym (take-append-drop (i + 1) hs)) ∙ flat_map-append (text_of kept) (take (i + 1) hs) (drop (i + 1) hs)
      ∙ ap (λ t. t ++ texts kept (drop (i + 1) hs)) (texts_more kept hs i h below is) ∙ append_assoc (texts kept (take i hs)) (text_of kept h) _

held-append : (hs is : List Held) (rs ss : List Request) → AreHeldFor hs rs → AreHeldFor is ss → AreHeldFor (hs ++ is) (rs ++ ss)
held-append [] is [] ss one two = two
held-append [] is (r ∷ rs) ss one two = absurd one
held-append (h ∷ hs) is [] ss one two = absurd one
held-append (h ∷ hs) is (r ∷ rs) ss one two = (one.0, held-append hs is rs ss one.1 two)

pub held_length : (hs : List Held) (rs : List Request) → AreHeldFor hs rs → length hs ≡ length rs
held_length [] [] held = refl
held_length [] (r ∷ rs) held = absurd held
held_length (h ∷ hs) [] held = absurd held
held_length (h ∷ hs) (r ∷ rs) held = ap suc (held_length hs rs held.1)

requests-append : (ms ns : List Marked) → requests_of (ms ++ ns) ≡ requests_of ms ++ requests_of ns
requests-append [] ns = refl
requests-append (m ∷ ms) ns = ap (λ rs. m.request ∷ rs) (requests-append ms ns)

pub requests_length : (ms : List Marked) → length (requests_of ms) ≡ length ms
requests_length [] = refl
requests_length (m ∷ ms) = ap suc (requests_length ms)

few_marked : (hs : List Held) (rs : List Request) (ms : List Marked) → AreHeldFor hs rs → length hs ≤ 64 → requests_of ms ≡ rs → length ms ≤ 64
few_marked hs rs ms held few same =
    let one = held_length hs rs held in
    let two = requests_length ms in
    let three = ap length same in
    omega arith

abbrev unmarked : List Request → List Marked
unmarked [] = []
unmarked (r ∷ rs) = record { request = r; given_up = true } ∷ unmarked rs

requests_unmarked : (rs : List Request) → requests_of (unmarked rs) ≡ rs
requests_unmarked [] = refl
requests_unmarked (r ∷ rs) = ap (λ l. r ∷ l) (requests_unmarked rs)

-- what is held of a request whose route this is
pub held_for : (response : Result Response StoreFault) (routed : Bool) (route : Option Route) (r : Request) → routed ≡ is_some route → route ≡ route_of r.method r.path
    → (route ≡ None → response ≡ Ok (Always fixed.NoRoute)) → IsHeldFor (record { response = response; method = r.method; routed = routed }) r
held_for response routed route r is found alike = record { routed = is ∙ ap is_some found; no_route = λ other. by route refl (sym is ∙ other) } where
  by : (o : Option Route) → route ≡ o → is_some route ≡ false → response_text r.method response ≡ sent r.method (fixed_parts fixed.NoRoute)
  by None none_is other = ap (response_text r.method) (alike none_is)
  by (Some x) some_is other = absurd (false≢true (sym other ∙ ap is_some some_is))

-- a store that told no lie did none
low_harm : {v : View} → IsLawful v → v.doubt ≤ 1 → v.harm ≤ 1
low_harm law low = let deep = law.deep in omega (arith, deep, low)

-- ---- what is sent

-- to all of them
pub texts_sent : (kept : Bool) (w : World) (hs : List Held) (ms : List Marked) → AreSent kept w hs ms → texts kept hs ≡ outputs w ms
texts_sent kept w [] [] sent = refl
texts_sent kept w [] (m ∷ ms) sent = absurd sent
texts_sent kept w (h ∷ hs) [] sent = absurd sent
texts_sent kept w (h ∷ hs) (m ∷ ms) sent = λ i. sent.0 i ++ texts_sent kept (world_after_one w m) hs ms sent.1 i

sent-append : (kept : Bool) (w : World) (hs is : List Held) (ms ns : List Marked) → AreSent kept w hs ms → AreSent kept (world_after w ms) is ns → AreSent kept w (hs ++ is) (ms ++ ns)
sent-append kept w [] is [] ns one two = two
sent-append kept w [] is (m ∷ ms) ns one two = absurd one
sent-append kept w (h ∷ hs) is [] ns one two = absurd one
sent-append kept w (h ∷ hs) is (m ∷ ms) ns one two = (one.0, sent-append kept (world_after_one w m) hs is ms ns one.1 two)

-- a round was answered: each request by its response, or 503 where it is given up
pub record IsAnswered (fails : StoreFault → Type 0) (old new : View) (knows : List (Option (Token × Caller))) (w : World) (rs : List Request) (kept : Bool) (hs : List Held) : Type 0 where
  pub round : Round
  pub requests : requests_of (marked_of round) ≡ rs
  pub marks : AllMayBeMarked fails w (marked_of round)
  pub responses : AreSent kept w hs (marked_of round)
  pub moves : Moves old new w (round ∷ []) (world_after w (marked_of round))
  pub knows_now : Knows (world_after w (marked_of round)) knows

module _ (fails : StoreFault → Type 0) where
  pub holds_none : (v : View) (known : List (Option (Token × Caller))) → Holds fails v v known known [] []
  holds_none v known = record {
    later = omega arith;
    bides = bides_none v;
    held = tt;
    drafted = λ sure knows. record { marked = []; requests = refl; marks = tt; responses = tt; kept = (refl, knows) };
  }

  -- one request
  pub holds_one : (x y : View) (p q : List (Option (Token × Caller))) (h : Held) (r : Request) → x.doubt ≤ y.doubt → Bides x y → IsHeldFor h r → h.method ≡ r.method
      → (y.doubt ≡ 0 → Knows x.world p → IsAnswer (Has y q) x.world (respond x.world r) (MayBeGivenUp fails x.world r) h.response)
      → Holds fails x y p q (h ∷ []) (r ∷ [])
  holds_one x y p q h r later bides held method answers = record {
    later = later;
    bides = bides;
    held = (held, tt);
    drafted = λ sure knows. by h.response refl (answers sure knows);
  }
    where
      by : (response : Result Response StoreFault) → h.response ≡ response → IsAnswer (Has y q) x.world (respond x.world r) (MayBeGivenUp fails x.world r) response → Drafted fails y q x.world (h ∷ []) (r ∷ [])
      by (Ok response) is answer = record {
        marked = record { request = r; given_up = false } ∷ [];
        requests = refl;
        marks = (λ e. cc, tt);
        responses = (ap (response_text h.method) is ∙ (λ i. sent (method i) (answer.0 i)), tt);
        kept = answer.1;
      }
      by (Err e) is answer = record {
        marked = record { request = r; given_up = true } ∷ [];
        requests = refl;
        marks = (λ _. answer.0, tt);
        responses = (ap (response_text h.method) is, tt);
        kept = answer.1;
      }

  pub holds_then : (x y z : View) (p q r : List (Option (Token × Caller))) (hs is : List Held) (rs ss : List Request) → Holds fails x y p q hs rs → Holds fails y z q r is ss → Holds fails x z p r (hs ++ is) (rs ++ ss)
  holds_then x y z p q r hs is rs ss one two = record {
    later = later_then one.later two.later;
    bides = bides_then one.bides two.bides;
    held = held-append hs is rs ss one.held two.held;
    drafted = λ sure knows.
        let d = one.drafted (sure_before two.later sure) knows in
        let e = subst (λ w. Drafted fails z r w is ss) d.kept.0 (two.drafted sure (subst (λ w. Knows w q) (sym d.kept.0) d.kept.1)) in record {
          marked = d.marked ++ e.marked;
          requests = requests-append d.marked e.marked ∙ (λ i. d.requests i ++ e.requests i);
          marks = marks-append fails x.world d.marked e.marked d.marks e.marks;
          responses = sent-append true x.world hs is d.marked e.marked d.responses e.responses;
          kept = subst (Has z r) (sym (world_after-append x.world d.marked e.marked)) e.kept;
        };
  }

  -- nothing more is held
  pub more_none : (v : View) (known : List (Option (Token × Caller))) (hs : List Held) (input : List ℕ) → HoldsMore fails v v known known hs hs input input
  more_none v known hs input = record { hs = []; rs = []; items = sym (append-nil hs); begins = none; holds = holds_none v known }

  -- one more request
  pub more_then : (x y z : View) (p q r : List (Option (Token × Caller))) (before mid after : List Held) (input rest left : List ℕ) (h : Held) (one : Request) → HoldsMore fails x y p q before mid input rest
      → after ≡ mid ++ h ∷ [] → First rest (Whole one left) → Holds fails y z q r (h ∷ []) (one ∷ []) → HoldsMore fails x z p r before after input left
  more_then x y z p q r before mid after input rest left h one had items first holds = record {
    hs = had.hs ++ h ∷ [];
    rs = had.rs ++ one ∷ [];
    items = items ∙ ap (λ l. l ++ h ∷ []) had.items ∙ append_assoc before had.hs (h ∷ []);
    begins = Begins-then input had.rs rest (one ∷ []) left had.begins (more first none);
    holds = holds_then x y z p q r had.hs (h ∷ []) had.rs (one ∷ []) had.holds holds;
  }

  module _ {x y z : View} (first : IsLawful x) (last : IsLawful z) (known held_known knows : List (Option (Token × Caller))) (w : World) (hs : List Held) (rs : List Request)
      (kept : RestsKnown x known w) (holds : Holds fails x y known held_known hs rs) (few : length hs ≤ 64) where
    -- while there is no doubt the World is the one before the round
    here : y.doubt ≡ 0 → x.world ≡ w
    here sure = kept.0.is (sure_before holds.later sure)

    drafted_here : y.doubt ≡ 0 → Drafted fails y held_known w hs rs
    drafted_here sure = subst (λ v. Drafted fails y held_known v hs rs) (here sure) (holds.drafted sure (subst (λ v. Knows v known) (sym (here sure)) kept.1))

    drafts : (ms : List Marked) → (y.doubt ≡ 0 → y.world ≡ world_after w ms) → Drafts x y (λ v. world_after v ms)
    drafts ms is = record { later = holds.later; world = λ sure. is sure ∙ ap (λ v. world_after v ms) (sym (here sure)); bides = holds.bides }

    -- with these marks, where that is so if there is no doubt
    given_up_round : {T : Type 0} (e : StoreFault) → Settles {T = T} y z (Err e) → fails e → ((v : World) → Knows v knows)
        → (ms : List Marked) → requests_of ms ≡ rs → (y.doubt ≡ 0 → y.world ≡ world_after w ms) → IsAnswered fails x z knows w rs false hs
    given_up_round e done may anew ms same is = record {
      round = record { held = ms; few = few_marked hs rs ms holds.held few same; given_up = true };
      requests = requests_lost ms ∙ same;
      marks = lost_marks fails e may w ms;
      responses = lost_responses w ms hs (subst (AreHeldFor hs) (sym same) holds.held);
      moves = record { moves = (attempts_settled first last kept.0.still (Err e) (λ v. world_after v ms) (drafts ms is) done).undone; world = lost_stays w ms };
      knows_now = anew (world_after w (map lost ms));
    }

    pub answered_round : {T : Type 0} (settled : Result T StoreFault) → Settles y z settled → IfErr settled fails → OnOk settled (knows ≡ held_known) → OnErr settled ((v : World) → Knows v knows) → z.doubt ≤ 1
        → IsAnswered fails x z knows w rs (is_ok settled) hs
    answered_round (Ok t) done may same anew low =
        let d = drafted_here (done.ok (low_harm last low)).0 in record {
          round = record { held = d.marked; few = few_marked hs rs d.marked holds.held few d.requests; given_up = false };
          requests = d.requests;
          marks = d.marks;
          responses = d.responses;
          moves = record { moves = (attempts_settled first last kept.0.still (Ok t) (λ v. world_after v d.marked) (drafts d.marked (λ sure. d.kept.0)) done).made; world = refl };
          knows_now = subst (Knows (world_after w d.marked)) (sym same) d.kept.1;
        }
    answered_round (Err e) done may same anew low = by y.doubt refl where
      by : (n : ℕ) → y.doubt ≡ n → IsAnswered fails x z knows w rs false hs
      by zero sure = let d = drafted_here sure in given_up_round e done may anew d.marked d.requests (λ sure. d.kept.0)
      by (suc n) doubted = given_up_round e done may anew (unmarked rs) (requests_unmarked rs) (λ sure. absurd (omega (arith, sure, doubted)))
