-- What is known of a connection, and of a client.
use Rattle.std.proofs.Common.{◌≡◌, ◌∙◌, ◌≤◌, ◌+◌, ◌-◌, ℕ, List, [], ◌∷◌, ◌++◌, length, take, drop, Option, Some, None, sym, ap, subst, append_assoc, arith, length-drop}
use Rattle.std.proofs.lemmas.List.{take_all}
use Rattle.std.proofs.Math.Seq.{take-add}
use Rattle.std.proofs.lemmas.List.{append-nil}
use Rattle.std.proofs.lemmas.List.Elements.{All-cons, All-head, All-nil, All-tail}
use Rattle.std.specs.Prelude.{All, Bool, Contains, IfSome}
use Rattle.std.specs.Io.KnownBytes.{append_known}
use Rattle.mx_desk.specs.Clients.{Exchange, exchanges}
use Rattle.mx_desk.specs.Held.{text_of}
use Rattle.mx_tasks.specs.Clients.{IsKnown, IsPrefix}
use Rattle.mx_tasks.specs.Seats.{AreFresh, IsAnswerOf, IsFresh, IsSentSo, answer_of, came_of, held_of}
use Rattle.mx_tasks.specs.declared.serve.seat.Answered.{Answered}
use Rattle.mx_tasks.specs.declared.serve.seat.Asked.{Asked}

-- what is known to be this is known to be that with more behind it
pub known-append : (o : Option (List ℕ)) (bs more : List ℕ) → IsKnown o bs → IsKnown (append_known o more) (bs ++ more)
known-append None bs more is = tt
known-append (Some x) bs more is = ap (λ y. y ++ more) is

-- the rest of a text
rest_is : (text : List ℕ) (n : ℕ) → take (length text - n) (drop n text) ≡ drop n text
rest_is text n = take_all (length text - n) (drop n text) (rw (length-drop n text) (omega arith))

pub rest_fits : (text : List ℕ) (n k : ℕ) → n ≤ length text → k ≤ length (take (length text - n) (drop n text)) → n + k ≤ length text
rest_fits text n k inside fits = let few = length-drop n text in let fits : k ≤ length (drop n text) = subst (λ t. k ≤ length t) (rest_is text n) fits in omega (arith, few, fits)

-- more of a text
pub known_more : (old new : Option (List ℕ)) (text : List ℕ) (n k : ℕ) → IsKnown old (take n text) → new ≡ append_known old (take k (take (length text - n) (drop n text))) → IsKnown new (take (n + k) text)
known_more old new text n k is more =
    let behind = take k (drop n text) in
    let more : new ≡ append_known old behind = more ∙ ap (λ t. append_known old (take k t)) (rest_is text n) in
    subst (λ o. IsKnown o (take (n + k) text)) (sym more) (subst (IsKnown (append_known old behind)) (sym (take-add n k text)) (known-append old (take n text) behind is))

-- what is read goes on
pub prefix_more : (came : List ℕ) (old new : Option (List ℕ)) (more : List ℕ) → IfSome old (IsPrefix came) → new ≡ append_known old more → IfSome new (IsPrefix came)
prefix_more came None new more is same = subst (λ o. IfSome o (IsPrefix came)) (sym same) tt
prefix_more came (Some x) new more is same = subst (λ o. IfSome o (IsPrefix came)) (sym same) (is.0 ++ more, ap (λ y. y ++ more) is.1 ∙ append_assoc came is.0 more)

-- a client that is answered is told more of the same answer
pub goes_on : {S : Type 0} (received written : S → Option (List ℕ)) (xs : List Exchange) (a b : Answered S) → answer_of b ≡ answer_of a → (IsSentSo written a → IsSentSo written b)
    → ((came : List ℕ) → IfSome (received a.stream) (IsPrefix came) → IfSome (received b.stream) (IsPrefix came)) → IsAnswerOf received xs a × IsSentSo written a → IsAnswerOf received xs b × IsSentSo written b
goes_on received written xs a b same sent came is = let from = is.0 in ((from.0, from.1, from.2 ∙ sym same, came from.0.came from.3), sent is.1)

-- the same where of its connection the same is known
pub moved_on : {S : Type 0} (received written : S → Option (List ℕ)) (xs : List Exchange) (a : Answered S) (stream : S) → received stream ≡ received a.stream → written stream ≡ written a.stream
    → IsAnswerOf received xs a × IsSentSo written a → IsAnswerOf received xs (record a { stream = stream }) × IsSentSo written (record a { stream = stream })
moved_on received written xs a stream same_received same_written is = let from = is.0 in ((from.0, from.1, from.2, rw same_received from.3), (is.1.0, rw same_written is.1.1))

-- ---- a round that is told

-- nothing was told to a client, and its exchange is one of these
abbrev pub IsToTell : {S : Type 0} → (S → Option (List ℕ)) → (S → Option (List ℕ)) → Bool → List Exchange → Asked S → Type 0
IsToTell received written kept xs a = IsFresh received written a.visitor × Contains xs (record { came = a.visitor.came.items; answer = text_of kept a.held })

module _ {S : Type 0} (received written : S → Option (List ℕ)) (kept : Bool) (xs : List Exchange) where
  pub all_to_tell : (round : List (Asked S)) → AreFresh received written round → All (Contains xs) (exchanges kept (came_of round) (held_of round)) → All (IsToTell received written kept xs) round
  all_to_tell [] fresh have = All-nil (IsToTell received written kept xs)
  all_to_tell (a ∷ round) fresh have =
      let Fresh = λ (b : Asked S). IsFresh received written b.visitor in
      All-cons (IsToTell received written kept xs) a round (All-head Fresh a round fresh, All-head (Contains xs) _ _ have) (all_to_tell round (All-tail Fresh a round fresh) (All-tail (Contains xs) _ _ have))

  first_of : (came : List ℕ) (o : Option (List ℕ)) → IsKnown o came → IfSome o (IsPrefix came)
  first_of came None is = tt
  first_of came (Some y) is = ([], is ∙ sym (append-nil came))

  -- it is told the first bytes of its answer: none
  pub to_tell : (a : Asked S) (b : Answered S) → b.stream ≡ a.visitor.stream → answer_of b ≡ text_of kept a.held → b.sent ≡ 0 → IsToTell received written kept xs a → IsAnswerOf received xs b × IsSentSo written b
  to_tell a b stream same none is = (
    (record { came = a.visitor.came.items; answer = text_of kept a.held }, is.1, sym same, rw stream (first_of a.visitor.came.items (received a.visitor.stream) is.0.0)),
    (rw none (omega arith), rw (none, stream) is.0.1),
  )
