-- A turn of the desk that answers a round.
use Rattle.std.proofs.Common.{◌≡◌, ◌+◌, ◌<◌, ◌≤◌, ℕ, List, [], ◌∷◌, ◌++◌, length, take, Option, sym, ◌∙◌, ap, subst, arith}
use Rattle.std.specs.Prelude.{Result, Ok, Err, OnOk, OnErr, is_ok}
use Rattle.std.proofs.lemmas.Result.{on_ok_weaker, on_err_weaker}
use Rattle.std.specs.Io.KnownBytes.{Appends}
use Rattle.mx_book.specs.Views.{View, IsLawful}
use Rattle.mx_book.specs.World.{World, Token}
use Rattle.mx_book.specs.declared.contract.StoreFault.{StoreFault}
use Rattle.mx_book.specs.declared.values.Caller.{Caller}
use Rattle.mx_desk.specs.declared.fault.DeskFault.{DeskFault}
use Rattle.mx_desk.specs.declared.held.Held.{Held}
use Rattle.mx_desk.specs.Held.{Holds, HoldsMore, Responds, texts}
use Rattle.mx_desk.specs.Knows.{Knows, RestsKnown}
use Rattle.mx_desk.specs.Requests.{Begins, First, Request, Whole, more}
use Rattle.mx_desk.specs.Rounds.{Moves, Round, marked_of}
use Rattle.mx_desk.specs.Serve.{AllMayBeMarked, outputs, requests_of, world_after}
use Rattle.mx_desk.proofs.RequestLemmas.{Begins-shorter}
use Rattle.mx_desk.proofs.RoundLemmas.{answered_round, held_length, holds_then, requests_length, texts_sent, IsAnswered}

-- a round was answered, of which these bytes are the first
pub record IsTurned {T : Type 0} (fails : StoreFault → Type 0) (old new : View) (knows : List (Option (Token × Caller))) (w : World) (pending rest : List ℕ) (n : ℕ) (output written : Option (List ℕ)) (result : Result T DeskFault) : Type 0 where
  pub round : Round
  pub few : length (marked_of round) ≤ 64
  pub marks : AllMayBeMarked fails w (marked_of round)
  pub begins : Begins pending (requests_of (marked_of round)) rest
  pub count : n ≡ length (marked_of round)
  pub ok : (x : T) → result ≡ Ok x → Appends output written (outputs w (marked_of round))
  pub err : (e : DeskFault) → result ≡ Err e → ((count : ℕ) × (count < length (outputs w (marked_of round))) × Appends output written (take count (outputs w (marked_of round))))
  pub moves : Moves old new w (round ∷ []) (world_after w (marked_of round))
  pub knows_now : Knows (world_after w (marked_of round)) knows

module _ (fails : StoreFault → Type 0) (v x y : View) (known k1 k2 : List (Option (Token × Caller))) (h : Held) (r : Request) (before after : List Held) (pending input rest : List ℕ)
    (first : First pending (Whole r input)) (one : Holds fails v x known k1 (h ∷ []) (r ∷ [])) (others : HoldsMore fails x y k1 k2 before after input rest) (is_one : before ≡ h ∷ []) where
  -- what is held in all
  items : after ≡ h ∷ others.hs
  items = others.items ∙ ap (λ l. l ++ others.hs) is_one

  all_held : Holds fails v y known k2 (h ∷ others.hs) (r ∷ others.rs)
  all_held = holds_then fails v x y known k1 k2 (h ∷ []) others.hs (r ∷ []) others.rs one others.holds

  all_begin : Begins pending (r ∷ others.rs) rest
  all_begin = more first others.begins

  many : length after ≡ length (r ∷ others.rs)
  many = ap length items ∙ held_length (h ∷ others.hs) (r ∷ others.rs) all_held.held

  -- each has a byte at least
  pub turn_shorter : (0 < length after) × (length after + length rest ≤ length pending)
  turn_shorter =
      let few = Begins-shorter pending (r ∷ others.rs) rest all_begin in
      let same = many in
      (omega (arith, same), omega (arith, few, same))

  module _ {T : Type 0} (z : View) (law : IsLawful v) (last : IsLawful z)
      (knows : List (Option (Token × Caller))) (w : World) (output written : Option (List ℕ)) (result : Result T DeskFault)
      (kept : RestsKnown v known w) (few : length after ≤ 64) (done : Responds fails y z k2 knows after output written result) (low : z.doubt ≤ 1) where
    abbrev IsCut : List ℕ → Type 0
    IsCut t = (count : ℕ) × (count < length t) × Appends output written (take count t)

    answered : IsAnswered fails v z knows w (r ∷ others.rs) (is_ok done.settled) (h ∷ others.hs)
    answered =
        answered_round fails law last known k2 knows w (h ∷ others.hs) (r ∷ others.rs) kept all_held (subst (λ l. length l ≤ 64) items few)
        done.settled done.settles done.fault done.same done.anew low

    text : texts (is_ok done.settled) after ≡ outputs w (marked_of answered.round)
    text = ap (texts (is_ok done.settled)) items ∙ texts_sent (is_ok done.settled) w (h ∷ others.hs) (marked_of answered.round) answered.responses

    count : length after ≡ length (marked_of answered.round)
    count = many ∙ ap length (sym answered.requests) ∙ requests_length (marked_of answered.round)

    pub turned : IsTurned fails v z knows w pending rest (length after) output written result
    turned = record {
      round = answered.round;
      few = (let same = count in omega (arith, same, few));
      marks = answered.marks;
      begins = subst (λ rs. Begins pending rs rest) (sym answered.requests) all_begin;
      count = count;
      ok = λ x is. subst (λ r. OnOk r (Appends output written (outputs w (marked_of answered.round)))) is (on_ok_weaker result (λ wrote. subst (Appends output written) text wrote) done.ok);
      err = λ e is. subst (λ r. OnErr r (IsCut (outputs w (marked_of answered.round)))) is
          (on_err_weaker result (λ cut. (cut.0, subst (λ t. cut.0 < length t) text cut.1, subst (λ t. Appends output written (take cut.0 t)) text cut.2)) done.err);
      moves = answered.moves;
      knows_now = answered.knows_now;
    }
