-- What counts as lost and as received, before and after a change of a World.
use Rattle.std.proofs.Common.{◌≡◌, ℕ, ◌+◌, Bool, true, false, cond, not, refl, sym, ◌∙◌, ap, Some, ◌&&◌, ◌||◌, inl, inr, arith, is_some}
use Rattle.std.proofs.lemmas.Bool.{or_left}
use Rattle.std.specs.FinMap as fmap
use Rattle.mx_pay.specs.Names.{is_name}
use Rattle.mx_pay.specs.Details.{Details, details_cmp, is_details}
use Rattle.mx_pay.specs.Log.{Entries}
use Rattle.mx_pay.proofs.LogLemmas.{details_total}
use Rattle.mx_purse.specs.Operations.{expects_val}
use Rattle.mx_book.specs.Reads.{is_archived}
use Rattle.mx_book.specs.Sums.{sum_values}
use Rattle.mx_book.specs.Totals.{from_in_epa, from_logged, to_in_epv, to_logged, maybe_lost, definitely_lost, still_lost, occurring, value_where}
use Rattle.mx_book.specs.World.{World, Name}
use Rattle.mx_book.proofs.SumLemmas.{sum_values-insert}
use Rattle.mx_office.specs.Abstract.{ChosenLost, counts_lost, counts_received, received_by, losses_of}
use Rattle.mx_office.proofs.ConservedLemmas.{split_side, due_occurs, maybe_is, lost_is, where_is, worths, worths_are}
use Rattle.mx_office.proofs.EntrySumLemmas.{number}
use Rattle.mx_office.proofs.SecurityLemmas.{lost_occurs}
use Rattle.mx_office.proofs.SeenLemmas.{Step, clash, both_parts, neither, or_cases}
use Rattle.mx_office.proofs.SeenWorldLemmas.{Invariant, seen, flowing, flow_parts}
use Rattle.mx_office.proofs.SoundLemmas.{details_turned}
use Rattle.mx_pay.proofs.SameLemmas.{same_details}

-- ---- the value of the details that meet a test, where the tests differ at one

module _ (f g : Details → Bool) (x y : Entries) (fs : (d : Details) → f d ≡ true → is_some (fmap.get x d) ≡ true) (gs : (d : Details) → g d ≡ true → is_some (fmap.get y d) ≡ true)
    (e : Details) (other : (d : Details) → is_details e d ≡ false → g d ≡ f d) where
  abbrev value_at : (Details → Bool) → Details → ℕ
  value_at t d = cond (t d) d.value 0

  value_moved : (d : Details) (b : Bool) → is_details d e ≡ b → number (cond b (Some (value_at g e)) (fmap.get (worths f x fs) d)) ≡ value_at g d
  value_moved d true t = ap (value_at g) (sym (same_details d e t))
  value_moved d false t = worths_are f x fs d ∙ ap (λ b. cond b d.value 0) (sym (other d (details_turned e d ∙ t)))

  pub value_moves : value_where g y + value_at f e ≡ value_where f x + value_at g e
  value_moves =
      let m : fmap.FinMap details_cmp ℕ = worths f x fs in
      let e1 : value_where f x ≡ sum_values (λ n. n) m = where_is f x fs m (worths_are f x fs) in
      let next : fmap.FinMap details_cmp ℕ = fmap.insert m e (value_at g e) in
      let e2 : value_where g y ≡ sum_values (λ n. n) next = where_is g y gs next (λ d. ap number (fmap.get-insert details_total m e (value_at g e) d) ∙ value_moved d (is_details d e) refl) in
      let e3 : sum_values (λ n. n) next + number (fmap.get m e) ≡ sum_values (λ n. n) m + value_at g e = sum_values-insert details_total (λ n. n) m e (value_at g e) in
      let e4 : number (fmap.get m e) ≡ value_at f e = worths_are f x fs e in
      omega (arith, e1, e2, e3, e4)

-- ---- what counts occurs

maybe_occurs : (w : World) (d : Details) → maybe_lost w d ≡ true → is_some (fmap.get (occurring w) d) ≡ true
maybe_occurs w d h = due_occurs w d (split_side expects_val (fmap.get w.rows d.to) (is_archived w d.to d) d ∙ or_left (to_in_epv w d) (to_logged w d) (both_parts (from_in_epa w d || from_logged w d) (to_in_epv w d) h).1)

received_occurs : (w : World) (c : ChosenLost) (d : Details) → counts_received w c d ≡ true → is_some (fmap.get (occurring w) d) ≡ true
received_occurs w c d h = maybe_occurs w d (both_parts (maybe_lost w d) _ h).0

counted_occurs : (w : World) (c : ChosenLost) (d : Details) → counts_lost w c d ≡ true → is_some (fmap.get (occurring w) d) ≡ true
counted_occurs w c d h = or_cases (still_lost w d) _ (λ t. lost_occurs w d (both_parts (definitely_lost w d) _ t).0) (λ t. maybe_occurs w d (both_parts (maybe_lost w d) _ t).0) h

-- ---- the sums of a purse

-- the value of details that are of a purse and meet a test
abbrev pub share : Bool → Bool → Details → ℕ
share own test d = cond (own && test) d.value 0

-- details of no value
nothing_of : Name → Details
nothing_of p = record { from = p; to = p; value = 0; from_seq = 0; to_seq = 0 }

nothing_shared : (own test : Bool) (p : Name) → share own test (nothing_of p) ≡ 0
unfolding nothing_of
nothing_shared true true p = refl
nothing_shared true false p = refl
nothing_shared false test p = refl

-- what a purse has of the details that meet a test, which occur
module _ (w v : World) (own : Details → Name) (f g : Details → Bool) (fs : (d : Details) → f d ≡ true → is_some (fmap.get (occurring w) d) ≡ true) (gs : (d : Details) → g d ≡ true → is_some (fmap.get (occurring v) d) ≡ true) where
  own_moves : (e : Details) → ((d : Details) → is_details e d ≡ false → g d ≡ f d) → (p : Name)
      → value_where (λ d. is_name p (own d) && g d) (occurring v) + share (is_name p (own e)) (f e) e ≡ value_where (λ d. is_name p (own d) && f d) (occurring w) + share (is_name p (own e)) (g e) e
  own_moves e other p = value_moves (λ d. is_name p (own d) && f d) (λ d. is_name p (own d) && g d) (occurring w) (occurring v)
      (λ d t. fs d (both_parts _ _ t).1) (λ d t. gs d (both_parts _ _ t).1) e (λ d apart. ap (λ x. is_name p (own d) && x) (other d apart))

  own_same : ((d : Details) → g d ≡ f d) → (p : Name) → value_where (λ d. is_name p (own d) && g d) (occurring v) ≡ value_where (λ d. is_name p (own d) && f d) (occurring w)
  own_same same p =
      let e : Details = nothing_of p in
      omega (arith, own_moves e (λ d _. same d) p, nothing_shared (is_name p (own e)) (f e) p, nothing_shared (is_name p (own e)) (g e) p)

module _ (w v : World) (b c : ChosenLost) where
  pub received_same : ((d : Details) → counts_received v c d ≡ counts_received w b d) → (p : Name) → received_by v c p ≡ received_by w b p
  received_same = own_same w v (λ d. d.to) (counts_received w b) (counts_received v c) (received_occurs w b) (received_occurs v c)

  pub lost_same : ((d : Details) → counts_lost v c d ≡ counts_lost w b d) → (p : Name) → losses_of v c p ≡ losses_of w b p
  lost_same = own_same w v (λ d. d.from) (counts_lost w b) (counts_lost v c) (counted_occurs w b) (counted_occurs v c)

-- ---- the choice before

-- f: is under way, x and y: is waited for before and after, h: is chosen
received_case : (f x y h : Bool) → (f ≡ true → y ≡ true → x ≡ true) → ((f && y) && not h) ≡ ((f && x) && not ((f && not y) || ((f && y) && h)))
received_case false x y h k = refl
received_case true x true h k = ap (λ z. z && not h) (sym (k refl refl))
received_case true x false h k = sym (neither x false refl)

counts_case : (f x y h : Bool) → (f ≡ true → y ≡ true → x ≡ true) → ((f && not y) || ((f && y) && h)) ≡ ((f && not x) || ((f && x) && ((f && not y) || ((f && y) && h))))
counts_case false x y h k = refl
counts_case true x true h k = ap (λ z. not z || (z && h)) (sym (k refl refl))
counts_case true true false h k = refl
counts_case true false false h k = refl

-- what counts as lost after a command is chosen before it: then each payment that is under way before and after counts
-- as it did
module _ (w v : World) (i : Invariant w) (j : Invariant v) (step : Step (seen w) (seen v)) (c : ChosenLost) (d : Details) (flow : flowing v d ≡ flowing w d) where
  waited : flowing w d ≡ true → (seen v).epv d ≡ true → (seen w).epv d ≡ true
  waited flows t = elim (step.epv d t) [ inl h ↦ h | inr past ↦ clash ((seen w).to_past d) (i.known d (flow_parts w d flows).0) past ]

  after_lost : counts_lost v c d ≡ ((flowing w d && not ((seen v).epv d)) || ((flowing w d && (seen v).epv d) && c d))
  after_lost = (λ k. lost_is v j d k || (maybe_is v j d k && c d)) ∙ (λ k. (flow k && not ((seen v).epv d)) || ((flow k && (seen v).epv d) && c d))

  received_stays : counts_received v c d ≡ counts_received w (counts_lost v c) d
  received_stays =
      (λ k. maybe_is v j d k && not (c d))
      ∙ (λ k. (flow k && (seen v).epv d) && not (c d))
      ∙ received_case (flowing w d) ((seen w).epv d) ((seen v).epv d) (c d) waited
      ∙ (λ k. sym (maybe_is w i d) k && not (sym after_lost k))

  counts_stays : counts_lost v c d ≡ counts_lost w (counts_lost v c) d
  counts_stays =
      after_lost
      ∙ counts_case (flowing w d) ((seen w).epv d) ((seen v).epv d) (c d) waited
      ∙ (λ k. sym (lost_is w i d) k || (sym (maybe_is w i d) k && sym after_lost k))

-- the sums of a purse, where what is under way stays, and where one payment begins or ends to be under way
module _ (w v : World) (i : Invariant w) (j : Invariant v) (step : Step (seen w) (seen v)) (c : ChosenLost) where
  module _ (flow : (d : Details) → flowing v d ≡ flowing w d) where
    pub still_received : (q : Name) → received_by v c q ≡ received_by w (counts_lost v c) q
    still_received = received_same w v (counts_lost v c) c (λ d. received_stays w v i j step c d (flow d))

    pub losses_stay : (q : Name) → losses_of v c q ≡ losses_of w (counts_lost v c) q
    losses_stay = lost_same w v (counts_lost v c) c (λ d. counts_stays w v i j step c d (flow d))

  module _ (e : Details) (other : (d : Details) → is_details e d ≡ false → flowing v d ≡ flowing w d) (x y : Bool) where
    pub received_now : counts_received w (counts_lost v c) e ≡ x → counts_received v c e ≡ y → (q : Name) → received_by v c q + share (is_name q e.to) x e ≡ received_by w (counts_lost v c) q + share (is_name q e.to) y e
    received_now before now q =
        ap (λ b. received_by v c q + share (is_name q e.to) b e) (sym before)
        ∙ own_moves w v (λ d. d.to) (counts_received w (counts_lost v c)) (counts_received v c) (received_occurs w (counts_lost v c)) (received_occurs v c) e (λ d apart. received_stays w v i j step c d (other d apart)) q
        ∙ ap (λ b. received_by w (counts_lost v c) q + share (is_name q e.to) b e) now

    pub lost_now : counts_lost w (counts_lost v c) e ≡ x → counts_lost v c e ≡ y → (q : Name) → losses_of v c q + share (is_name q e.from) x e ≡ losses_of w (counts_lost v c) q + share (is_name q e.from) y e
    lost_now before now q =
        ap (λ b. losses_of v c q + share (is_name q e.from) b e) (sym before)
        ∙ own_moves w v (λ d. d.from) (counts_lost w (counts_lost v c)) (counts_lost v c) (counted_occurs w (counts_lost v c)) (counted_occurs v c) e (λ d apart. counts_stays w v i j step c d (other d apart)) q
        ∙ ap (λ b. losses_of w (counts_lost v c) q + share (is_name q e.from) b e) now

-- what isn't under way counts as neither
module _ (w : World) (i : Invariant w) (c : ChosenLost) (d : Details) (rests : flowing w d ≡ false) where
  pub never_received : counts_received w c d ≡ false
  never_received = (λ k. (maybe_is w i d ∙ ap (λ f. f && (seen w).epv d) rests) k && not (c d))

  pub never_lost : counts_lost w c d ≡ false
  never_lost = (λ k. (lost_is w i d ∙ ap (λ f. f && not ((seen w).epv d)) rests) k || ((maybe_is w i d ∙ ap (λ f. f && (seen w).epv d) rests) k && c d))

either_case : (e h : Bool) → (not e || (e && h)) ≡ not (e && not h)
either_case true true = refl
either_case true false = refl
either_case false h = refl

-- what is under way counts as one of the two
pub one_of_two : (w : World) (i : Invariant w) (c : ChosenLost) (d : Details) → flowing w d ≡ true → counts_lost w c d ≡ not (counts_received w c d)
one_of_two w i c d flows =
    (λ k. (lost_is w i d ∙ ap (λ f. f && not ((seen w).epv d)) flows) k || ((maybe_is w i d ∙ ap (λ f. f && (seen w).epv d) flows) k && c d))
    ∙ either_case ((seen w).epv d) (c d)
    ∙ (λ k. not (sym (maybe_is w i d ∙ ap (λ f. f && (seen w).epv d) flows) k && not (c d)))
