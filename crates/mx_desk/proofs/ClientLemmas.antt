-- Clients that are answered in a round.
use Rattle.std.proofs.Common.{◌≡◌, ◌≤◌, ℕ, Bool, List, [], ◌∷◌, ◌++◌, length, map, Option, refl, sym, ◌∙◌, ap, subst, append_assoc, arith}
use Rattle.std.specs.Prelude.{Result, IfErr, OnOk, OnErr, is_ok}
use Rattle.mx_book.specs.Views.{View, IsLawful, Settles}
use Rattle.mx_book.specs.World.{World, Token}
use Rattle.mx_book.specs.declared.contract.StoreFault.{StoreFault}
use Rattle.mx_book.specs.declared.values.Caller.{Caller}
use Rattle.mx_desk.specs.declared.held.Held.{Held}
use Rattle.mx_desk.specs.Clients.{BeginEach, Exchange, Exchanged, Exchanges, HoldsEach, IsUnframed, answered, exchanges, framed, no_client, none, not_framed, then, unanswered, unframed}
use Rattle.mx_desk.specs.Held.{AreSent}
use Rattle.mx_desk.specs.Knows.{Knows, RestsKnown}
use Rattle.mx_desk.specs.Leaves.{Lawful}
use Rattle.mx_desk.specs.Requests.{First, Request, Whole}
use Rattle.mx_desk.specs.Rounds.{Moves, Round, marked_of}
use Rattle.mx_desk.specs.Serve.{Marked, AllMayBeMarked, requests_of, world_after, world_after_one}
use Rattle.mx_desk.proofs.LawLemmas.{world_after-append}
use Rattle.mx_desk.proofs.LawfulLemmas.{lawful_requests}
use Rattle.mx_desk.proofs.RoundLemmas.{answered_round, holds_none, holds_then}

-- clients behind clients
pub exchanges-append : {fails : StoreFault → Type 0} {w v now : World} {xs ys : List Exchange} {ms ns : List Marked} → Exchanges fails w xs ms v → Exchanges fails v ys ns now → Exchanges fails w (xs ++ ys) (ms ++ ns) now
exchanges-append none two = two
exchanges-append (then {ms = ms} {ns = ns} x xs) two = rw append_assoc (then x (exchanges-append xs two))

exchanged_world : {fails : StoreFault → Type 0} {w now : World} {x : Exchange} {ms : List Marked} → Exchanged fails w x ms now → now ≡ world_after w ms
exchanged_world (unanswered is) = refl
exchanged_world (unframed first is) = refl
exchanged_world (answered first may is) = refl

exchanges_world : {fails : StoreFault → Type 0} {w now : World} {xs : List Exchange} {ms : List Marked} → Exchanges fails w xs ms now → now ≡ world_after w ms
exchanges_world none = refl
exchanges_world {w = w} (then {ms = ms} {ns = ns} x xs) = exchanges_world xs ∙ ap (λ v. world_after v ns) (exchanged_world x) ∙ sym (world_after-append w ms ns)

-- all that is promised of requests holds of theirs
pub exchanges_lawful : {fails : StoreFault → Type 0} {w now : World} {xs : List Exchange} {ms : List Marked} → Exchanges fails w xs ms now → Lawful w ms now
exchanges_lawful {w = w} {now = now} {ms = ms} all = lawful_requests w now ms (exchanges_world all)

begin-append : {bs cs : List (List ℕ)} {hs is gs fs : List Held} {rs ss : List Request} → BeginEach bs hs rs gs → BeginEach cs is ss fs → BeginEach (bs ++ cs) (hs ++ is) (rs ++ ss) (gs ++ fs)
begin-append no_client two = two
begin-append (framed first one) two = framed first (begin-append one two)
begin-append (not_framed how one) two = not_framed how (begin-append one two)

begin_few : {bs : List (List ℕ)} {hs gs : List Held} {rs : List Request} → BeginEach bs hs rs gs → length gs ≤ length hs
begin_few no_client = omega arith
begin_few (framed first one) = let few = begin_few one in omega (arith, few)
begin_few (not_framed how one) = let few = begin_few one in omega (arith, few)

module _ (fails : StoreFault → Type 0) where
  pub each_none : (v : View) (known : List (Option (Token × Caller))) → HoldsEach fails v v known known [] []
  each_none v known = record { rs = []; gs = []; begin = no_client; holds = holds_none fails v known }

  -- one whose bytes can't be framed
  pub each_unframed : (v : View) (known : List (Option (Token × Caller))) (b : List ℕ) (h : Held) → IsUnframed b h → HoldsEach fails v v known known (b ∷ []) (h ∷ [])
  each_unframed v known b h how = record { rs = []; gs = []; begin = not_framed how no_client; holds = holds_none fails v known }

  pub each_then : (x y z : View) (p q r : List (Option (Token × Caller))) (bs cs : List (List ℕ)) (hs is : List Held) → HoldsEach fails x y p q bs hs → HoldsEach fails y z q r cs is → HoldsEach fails x z p r (bs ++ cs) (hs ++ is)
  each_then x y z p q r bs cs hs is one two = record {
    rs = one.rs ++ two.rs;
    gs = one.gs ++ two.gs;
    begin = begin-append one.begin two.begin;
    holds = holds_then fails x y z p q r one.gs two.gs one.rs two.rs one.holds two.holds;
  }

  each_exchanged : (kept : Bool) {bs : List (List ℕ)} {hs gs : List Held} {rs : List Request} → BeginEach bs hs rs gs → (w : World) (ms : List Marked) → requests_of ms ≡ rs → AllMayBeMarked fails w ms → AreSent kept w gs ms
      → Exchanges fails w (exchanges kept bs hs) ms (world_after w ms)
  each_exchanged kept no_client w [] same marks sent = none
  each_exchanged kept no_client w (m ∷ ms) same marks sent = absurd sent
  each_exchanged kept (framed first begin) w [] same marks sent = absurd sent
  each_exchanged kept (framed {b = b} {rest = rest} {r = r} first begin) w (m ∷ ms) same marks sent =
      let heads : m.request ≡ r = cc in
      then (answered (subst (λ x. First b (Whole x rest)) (sym heads) first) marks.0 sent.0) (each_exchanged kept begin (world_after_one w m) ms (cc) marks.1 sent.1)
  each_exchanged kept (not_framed how begin) w ms same marks sent = then (unframed how.1 (how.2 kept)) (each_exchanged kept begin w ms same marks sent)

  -- a round was settled or given up
  pub record IsSettledRound (old new : View) (knows : List (Option (Token × Caller))) (w : World) (xs : List Exchange) : Type 0 where
    pub round : Round
    pub exchanged : Exchanges fails w xs (marked_of round) (world_after w (marked_of round))
    pub moves : Moves old new w (round ∷ []) (world_after w (marked_of round))
    pub knows_now : Knows (world_after w (marked_of round)) knows

  pub settled_round : {T : Type 0} {x y z : View} (first : IsLawful x) (last : IsLawful z) (known held_known knows : List (Option (Token × Caller))) (w : World) (bs : List (List ℕ)) (hs : List Held)
      → RestsKnown x known w → HoldsEach fails x y known held_known bs hs → length hs ≤ 64
      → (settled : Result T StoreFault) → Settles y z settled → IfErr settled fails → OnOk settled (knows ≡ held_known) → OnErr settled ((v : World) → Knows v knows) → z.doubt ≤ 1
      → IsSettledRound x z knows w (exchanges (is_ok settled) bs hs)
  settled_round first last known held_known knows w bs hs kept each few settled done may same anew low =
      let fewer = begin_few each.begin in
      let a = answered_round fails first last known held_known knows w each.gs each.rs kept each.holds (omega (arith, fewer, few)) settled done may same anew low in record {
        round = a.round;
        exchanged = each_exchanged (is_ok settled) each.begin w (marked_of a.round) a.requests a.marks a.responses;
        moves = a.moves;
        knows_now = a.knows_now;
      }

-- where nobody is answered, nothing is done
nobody : {fails : StoreFault → Type 0} {w now : World} {xs : List Exchange} {ms : List Marked} → xs ≡ [] → Exchanges fails w xs ms now → (ms ≡ []) × (now ≡ w)
nobody is none = (refl, refl)
nobody is (then x xs) = absurd (cc)

pub nobody_exchanged : {fails : StoreFault → Type 0} {w now : World} {ms : List Marked} → Exchanges fails w [] ms now → (ms ++ [] ≡ []) × (now ≡ w)
nobody_exchanged all = let both = nobody refl all in (ap (λ l. l ++ []) both.0, both.1)
