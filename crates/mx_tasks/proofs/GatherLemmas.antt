-- Clients that are attended to.
use Rattle.std.proofs.Common.{◌≡◌, ◌∙◌, ℕ, Bool, List, [], ◌∷◌, ◌++◌, length, length-append, Option, refl, sym, ap, subst, append_assoc, arith}
use Rattle.std.proofs.lemmas.List.{append-nil, map-append}
use Rattle.std.proofs.lemmas.List.Elements.{All-append, All-cons, All-nil}
use Rattle.mx_book.specs.Views.{View}
use Rattle.mx_book.specs.World.{Token}
use Rattle.mx_book.specs.declared.contract.StoreFault.{StoreFault}
use Rattle.mx_book.specs.declared.values.Caller.{Caller}
use Rattle.mx_desk.specs.Clients.{Exchange, HoldsEach, exchanges}
use Rattle.mx_desk.proofs.ClientLemmas.{each_none, each_then, each_unframed}
use Rattle.mx_tasks.specs.Attended.{IsUnframedBy, came_by, held_by}
use Rattle.mx_tasks.specs.declared.serve.desk.Attended.{Attended}
use Rattle.mx_tasks.specs.declared.serve.desk.Attended.TheVariants.{Asks, Leaves, Waits}
use Rattle.mx_tasks.specs.Connections.{Gathers}
use Rattle.mx_tasks.specs.Halls.{Always, Hall, Tends}
use Rattle.mx_tasks.specs.Seats.{AreSeated, IsFresh, came_of, held_of}
use Rattle.mx_tasks.specs.declared.serve.seat.Asked.{Asked}
use Rattle.mx_tasks.proofs.HallLemmas.{tends_then}

pub exchanges_length : {S : Type 0} (kept : Bool) (round : List (Asked S)) → length (exchanges kept (came_of round) (held_of round)) ≡ length round
exchanges_length kept [] = refl
exchanges_length kept (a ∷ round) = let rest = exchanges_length kept round in omega (arith, rest)

-- a client that sends nothing more
pub each_ended : {S : Type 0} (fails : StoreFault → Type 0) (v : View) (known : List (Option (Token × Caller))) (a : Attended S) → IsUnframedBy a → HoldsEach fails v v known known (came_by a) (held_by a)
each_ended fails v known (Waits c) is = each_none fails v known
each_ended fails v known (Leaves c) is = each_none fails v known
each_ended fails v known (Asks c h goes_on) is = each_unframed fails v known c.came.items h is

pub held_length : {S : Type 0} (round : List (Asked S)) → length (held_of round) ≡ length round
held_length [] = refl
held_length (a ∷ round) = let rest = held_length round in omega (arith, rest)

module _ {S : Type 0} (fails : StoreFault → Type 0) (received written : S → Option (List ℕ)) where
  -- nobody asked
  pub gathers_none : {old new : View} {known knows : List (Option (Token × Caller))} {h k : Hall S} {before : List (Asked S)} → HoldsEach fails old new known knows [] [] → Tends received written Always 0 0 h k → Gathers fails received written old new known knows h k before before
  gathers_none {before = before} holds tends = record {
    more = [];
    items = sym (append-nil before);
    holds = holds;
    fresh = λ xs was. All-nil (λ (a : Asked S). IsFresh received written a.visitor);
    tends = tends;
  }

  -- somebody did
  pub gathers_one : {old new : View} {known knows : List (Option (Token × Caller))} {h k : Hall S} {before after : List (Asked S)} (a : Asked S) → after ≡ before ++ a ∷ [] → HoldsEach fails old new known knows (a.visitor.came.items ∷ []) (a.held ∷ [])
      → ((xs : List Exchange) → AreSeated received written xs h.places → IsFresh received written a.visitor) → Tends received written Always 0 1 h k → Gathers fails received written old new known knows h k before after
  gathers_one a items holds fresh tends = record {
    more = a ∷ [];
    items = items;
    holds = holds;
    fresh = λ xs was. All-cons (λ (b : Asked S). IsFresh received written b.visitor) a [] (fresh xs was) (All-nil (λ (b : Asked S). IsFresh received written b.visitor));
    tends = tends;
  }

  -- clients, and others behind them
  pub gathers_then : (x y z : View) (p q r : List (Option (Token × Caller))) (h k l : Hall S) (a b c : List (Asked S)) → Gathers fails received written x y p q h k a b → Gathers fails received written y z q r k l b c → Gathers fails received written x z p r h l a c
  gathers_then x y z p q r h k l a b c one two = record {
    more = one.more ++ two.more;
    items = two.items ∙ ap (λ m. m ++ two.more) one.items ∙ append_assoc a one.more two.more;
    holds = rw (map-append, map-append) (each_then fails x y z p q r (came_of one.more) (came_of two.more) (held_of one.more) (held_of two.more) one.holds two.holds);
    fresh = λ xs was. All-append (λ (b : Asked S). IsFresh received written b.visitor) one.more two.more (one.fresh xs was) (two.fresh xs (one.tends.told xs was tt));
    tends = (let both = length-append one.more two.more in tends_then received written Always 0 (length (one.more ++ two.more)) one.tends two.tends (λ xs was so. (tt, tt)) (omega (arith, both)));
  }

  -- where nothing is held in the end, nothing was held before
  pub grown_from : {old new : View} {known knows : List (Option (Token × Caller))} {h k : Hall S} {before after : List (Asked S)} → Gathers fails received written old new known knows h k before after → length after ≡ 0 → (length before ≡ 0) × (length after ≡ length before)
  grown_from {before = before} g none = let grown = ap length g.items ∙ length-append before g.more in (omega (arith, grown, none), omega (arith, grown, none))

  -- and clients are as before
  pub held_none : {old new : View} {known knows : List (Option (Token × Caller))} {h k : Hall S} {after : List (Asked S)} → Gathers fails received written old new known knows h k [] after → length after ≡ 0 → Tends received written Always 0 0 h k
  held_none {h = h} {k = k} g none = subst (λ n. Tends received written Always 0 n h k) (ap length (sym g.items) ∙ none) g.tends
