-- What becomes of the places of clients.
use Rattle.std.proofs.Common.{get_or, ⊎_elim, ◌≡◌, ◌∙◌, ◌≤◌, ◌<◌, ◌+◌, ℕ, List, [], ◌∷◌, ◌++◌, length, length-append, drop, Option, Some, None, inl, inr, refl, sym, ap, subst, append_assoc, arith}
use Rattle.std.proofs.Math.ListN.{set}
use Rattle.std.proofs.lemmas.List.{append-nil, take-append-drop}
use Rattle.std.proofs.lemmas.List.Elements.{All-append, All-cons, All-head, All-nil, All-set, All-tail}
use Rattle.std.proofs.lemmas.List.Sums.{sum_by-set}
use Rattle.std.proofs.lemmas.Bool.{cases_lt}
use Rattle.std.specs.List.{AllWithin, HoldsAt}
use Rattle.std.specs.Prelude.{All, IfSome, sum_by}
use Rattle.mx_desk.specs.Clients.{Exchange}
use Rattle.mx_desk.specs.Devices.{capped}
use Rattle.mx_tasks.specs.Clients.{AreFewer, Comes, EndSo, IsToldOf, Tells, TellsOne}
use Rattle.mx_tasks.specs.Halls.{Always, Hall, IsFree, Tends, asks}
use Rattle.mx_tasks.specs.Seats.{AreSeated, IsEnding, IsSeated, answer_of, stream_of}
use Rattle.mx_tasks.specs.declared.serve.seat.Seat.{Seat}
use Rattle.mx_tasks.specs.declared.serve.seat.Seat.TheVariants.{Asking, Taking}

-- ---- connections that end

pub end_none : (xs : List Exchange) (o : Option (List Exchange)) → EndSo xs 0 o o
end_none xs None = refl
end_none xs (Some all) = ([], sym (append-nil all), refl, All-nil (IsToldOf xs))

pub end_then : (xs : List Exchange) (m n : ℕ) (a b c : Option (List Exchange)) → EndSo xs m a b → EndSo xs n b c → EndSo xs (m + n) a c
end_then xs m n None b c one two = let two : EndSo xs n None c = subst (λ o. EndSo xs n o c) one two in two
end_then xs m n (Some x) None None one two = tt
end_then xs m n (Some x) None (Some z) one two = absurd (cc)
end_then xs m n (Some x) (Some y) None one two = tt
end_then xs m n (Some x) (Some y) (Some z) one two = (
  one.0 ++ two.0,
  two.1 ∙ ap (λ l. l ++ two.0) one.1 ∙ append_assoc x one.0 two.0,
  (let a = one.2 in let b = two.2 in length-append one.0 two.0 ∙ omega (arith, a, b)),
  All-append (IsToldOf xs) one.0 two.0 one.3 two.3,
)

abbrev exchange : List ℕ → List ℕ → Exchange
exchange came text = record { came = came; answer = text }

end_one : (xs : List Exchange) (o : Option (List Exchange)) (r w : Option (List ℕ)) (n : Option (List Exchange)) → TellsOne o r w n
    → ((came text : List ℕ) → r ≡ Some came → w ≡ Some text → IsToldOf xs (exchange came text)) → EndSo xs 1 o n
end_one xs None r w n tells told = tells
end_one xs (Some all) r w None tells told = tt
end_one xs (Some all) None w (Some more) tells told = absurd tells
end_one xs (Some all) (Some came) None (Some more) tells told = absurd tells
end_one xs (Some all) (Some came) (Some text) (Some more) tells told = (exchange came text ∷ [], tells, refl, All-cons (IsToldOf xs) (exchange came text) [] (told came text refl refl) (All-nil (IsToldOf xs)))

fewer_none : (o : Option ℕ) → AreFewer 0 o o
fewer_none None = refl
fewer_none (Some n) = omega arith

fewer_then : (m n : ℕ) (a b c : Option ℕ) → AreFewer m a b → AreFewer n b c → AreFewer (m + n) a c
fewer_then m n None b c one two = let two : AreFewer n None c = subst (λ o. AreFewer n o c) one two in two
fewer_then m n (Some x) None c one two = absurd one
fewer_then m n (Some x) (Some y) None one two = absurd two
fewer_then m n (Some x) (Some y) (Some z) one two = omega (arith, one, two)

-- one more
pub within_more : {X : Type 0} (P : X → Type 0) (xs : List X) (i : ℕ) → AllWithin P xs 0 i → HoldsAt P xs i → AllWithin P xs 0 (i + 1)
within_more P xs i before here k d low high = ⊎_elim (λ less. before k d low less) (λ past. subst (λ j. P (get_or xs j d)) (let same : i ≡ k = omega (arith, past, high) in same) (here d)) (cases_lt k i)

-- at free places nobody asks
pub nobody_asks : {S : Type 0} (places : List (Option (Seat S))) → All IsFree places → sum_by asks places ≡ 0
nobody_asks [] free = refl
nobody_asks (None ∷ places) free = nobody_asks places (All-tail IsFree None places free)
nobody_asks (Some seat ∷ places) free = absurd (let some = All-head IsFree (Some seat) places free in cc)

module _ {S : Type 0} (received written : S → Option (List ℕ)) where
  ending_told : (xs : List Exchange) (seat : Seat S) → IsEnding received written xs seat → (came text : List ℕ) → received (stream_of seat) ≡ Some came → written (stream_of seat) ≡ Some text → IsToldOf xs (exchange came text)
  ending_told xs (Asking v) untold came text is_came is_text = inl (rw is_text at untold)
  ending_told xs (Taking a) told came text is_came is_text =
      let from = told.0 in
      let came_first = rw is_came at from.3 in
      let is = rw is_text at told.1.1 in
      inr (from.0, from.1, came_first, (drop a.sent (answer_of a), from.2 ∙ sym (take-append-drop a.sent (answer_of a)) ∙ ap (λ t. t ++ drop a.sent (answer_of a)) (sym is)))

  pub seated_ends : (xs : List Exchange) (seat : Seat S) → IsSeated received written xs seat → IsEnding received written xs seat
  seated_ends xs (Asking v) is = is.1
  seated_ends xs (Taking a) is = is

  -- nothing is done
  pub tends_none : (h : Hall S) → Tends received written Always 0 0 h h
  tends_none h = record {
    told = λ xs was so. was;
    ends = 0;
    ended = λ xs was so. end_none xs h.clients.ended;
    counted = omega arith;
    takes = 0;
    fewer = fewer_none h.clients.coming;
    taken = omega arith;
    most = λ most. most;
    count = refl;
    asking = omega arith;
  }

  -- one thing, and then another
  pub tends_then : {P Q : List Exchange → Type 0} {a b c d : ℕ} {h k l : Hall S} (R : List Exchange → Type 0) (given out : ℕ) → Tends received written P a b h k → Tends received written Q c d k l
      → ((xs : List Exchange) → AreSeated received written xs h.places → R xs → P xs × Q xs) → out + a + c ≤ b + d + given → Tends received written R given out h l
  tends_then {P} {Q} {a} {b} {c} {d} {h} {k} {l} R given out one two so even = record {
    told = λ xs was is. let both = so xs was is in two.told xs (one.told xs was both.0) both.1;
    ends = one.ends + two.ends;
    ended = λ xs was is. let both = so xs was is in end_then xs one.ends two.ends h.clients.ended k.clients.ended l.clients.ended (one.ended xs was both.0) (two.ended xs (one.told xs was both.0) both.1);
    counted = (let x = one.counted in let y = two.counted in omega (arith, x, y));
    takes = one.takes + two.takes;
    fewer = fewer_then one.takes two.takes h.clients.coming k.clients.coming l.clients.coming one.fewer two.fewer;
    taken = (let x = one.taken in let y = two.taken in omega (arith, x, y));
    most = λ most. let x = one.most most in let y = two.most in let z = one.count in omega (arith, x, y, z);
    count = two.count ∙ one.count;
    asking = (let x = one.asking in let y = two.asking in omega (arith, x, y, even));
  }

  -- a connection ends
  pub closes : (seat : Seat S) (h k : Hall S) → k.places ≡ h.places → Tells h.clients (received (stream_of seat)) (written (stream_of seat)) k.clients → k.ended ≡ capped (h.ended + 1) → k.taken ≡ h.taken → k.count ≡ h.count
      → Tends received written (λ xs. IsEnding received written xs seat) (asks (Some seat)) 0 h k
  closes seat h k same tells counted taken count = record {
    told = λ xs was so. subst (AreSeated received written xs) (sym same) was;
    ends = 1;
    ended = λ xs was so. end_one xs h.clients.ended (received (stream_of seat)) (written (stream_of seat)) k.clients.ended tells.1 (ending_told xs seat so);
    counted = omega (arith, counted);
    takes = 0;
    fewer = subst (AreFewer 0 h.clients.coming) (sym tells.0) (fewer_none h.clients.coming);
    taken = omega arith;
    most = λ most. omega arith;
    count = count;
    asking = (let even = ap (sum_by asks) same in omega (arith, even));
  }

  -- somebody gets a place
  pub puts : (place : ℕ) (seat : Seat S) (h k : Hall S) → place < length h.places → k.places ≡ set h.places place (Some seat) → k.clients ≡ h.clients → k.ended ≡ h.ended → k.taken ≡ h.taken → k.count ≡ h.count
      → Tends received written (λ xs. IsSeated received written xs seat) (asks (Some seat)) 0 h k
  puts place seat h k inside set_is same ended taken count = record {
    told = λ xs was so. subst (AreSeated received written xs) (sym set_is) (All-set (λ p. IfSome p (IsSeated received written xs)) h.places place (Some seat) so was);
    ends = 0;
    ended = λ xs was so. subst (λ c. EndSo xs 0 h.clients.ended c.ended) (sym same) (end_none xs h.clients.ended);
    counted = omega (arith, ended);
    takes = 0;
    fewer = subst (λ c. AreFewer 0 h.clients.coming c.coming) (sym same) (fewer_none h.clients.coming);
    taken = omega arith;
    most = λ most. omega arith;
    count = count;
    asking = (let even = ap (sum_by asks) set_is in let sums = sum_by-set asks h.places place (Some seat) None inside in omega (arith, even, sums));
  }

  -- the same, where more is known
  pub tends_as : {P : List Exchange → Type 0} (Q : List Exchange → Type 0) {given out : ℕ} {h k : Hall S} → ((xs : List Exchange) → AreSeated received written xs h.places → Q xs → P xs) → Tends received written P given out h k → Tends received written Q given out h k
  tends_as Q f t = record {
    told = λ xs was so. t.told xs was (f xs was so);
    ends = t.ends;
    ended = λ xs was so. t.ended xs was (f xs was so);
    counted = t.counted;
    takes = t.takes;
    fewer = t.fewer;
    taken = t.taken;
    most = t.most;
    count = t.count;
    asking = t.asking;
  }

  -- a client comes
  pub comes : (h k : Hall S) (r w : Option (List ℕ)) → Comes h.clients r w k.clients → k.places ≡ h.places → h.taken < h.count → k.taken ≡ h.taken + 1 → k.ended ≡ h.ended → k.count ≡ h.count → Tends received written Always 0 1 h k
  comes h k r w come places less taken ended count = record {
    told = λ xs was so. subst (AreSeated received written xs) (sym places) was;
    ends = 0;
    ended = λ xs was so. subst (λ o. EndSo xs 0 h.clients.ended o) (sym come.1) (end_none xs h.clients.ended);
    counted = omega (arith, ended);
    takes = 1;
    fewer = come.0;
    taken = taken;
    most = λ most. omega arith;
    count = count;
    asking = (let even = ap (sum_by asks) places in omega (arith, even));
  }

  -- somebody leaves a place
  pub vacates : (seat : Option (Seat S)) (h k : Hall S) → k.clients ≡ h.clients → k.ended ≡ h.ended → k.taken ≡ h.taken → k.count ≡ h.count
      → ((xs : List Exchange) → AreSeated received written xs h.places → IfSome seat (IsSeated received written xs) × AreSeated received written xs k.places) → sum_by asks k.places + asks seat ≡ sum_by asks h.places
      → Tends received written Always 0 (asks seat) h k
  vacates seat h k same ended taken count seats asking = record {
    told = λ xs was so. (seats xs was).1;
    ends = 0;
    ended = λ xs was so. subst (λ c. EndSo xs 0 h.clients.ended c.ended) (sym same) (end_none xs h.clients.ended);
    counted = omega (arith, ended);
    takes = 0;
    fewer = subst (λ c. AreFewer 0 h.clients.coming c.coming) (sym same) (fewer_none h.clients.coming);
    taken = omega arith;
    most = λ most. omega arith;
    count = count;
    asking = omega (arith, asking);
  }

  -- what is known of clients is as it was
  pub tends_same : (h k : Hall S) → k.places ≡ h.places → k.clients ≡ h.clients → k.ended ≡ h.ended → k.taken ≡ h.taken → k.count ≡ h.count → Tends received written Always 0 0 h k
  tends_same h k places same ended taken count = vacates None h k same ended taken count (λ xs was. (tt, subst (AreSeated received written xs) (sym places) was)) (let even = ap (sum_by asks) places in omega (arith, even))

  -- and its connection ends
  pub frees : (seat : Seat S) {h k l : Hall S} → Tends received written Always 0 (asks (Some seat)) h k → ((xs : List Exchange) → AreSeated received written xs h.places → IsSeated received written xs seat) → Tends received written (λ xs. IsEnding received written xs seat) (asks (Some seat)) 0 k l
      → Tends received written Always 0 0 h l
  frees seat out seated ends = tends_then Always 0 0 out ends (λ xs was so. (tt, seated_ends xs seat (seated xs was))) (omega arith)
