-- A run and one command more.
use Rattle.std.proofs.Common.{◌≡◌, ℕ, ◌+◌, ◌<◌, true, false, List, [], ◌∷◌, ◌++◌, length, take, get_or, refl, sym, ◌∙◌, ap, subst}
use Rattle.std.proofs.lemmas.List.{take_more}
use Rattle.std.specs.List.{AllByRecursion}
use Rattle.mx_book.specs.Stands.{attempt, attempt_all}
use Rattle.mx_book.proofs.StandLemmas.{attempt_all-append}
use Rattle.mx_book.specs.Views.{View, MovesTo}
use Rattle.mx_book.proofs.ViewLemmas.{moves_then}
use Rattle.mx_book.specs.World.{World}
use Rattle.std.proofs.ByRecursion.{All-append as all_append}
use Rattle.mx_book.specs.declared.contract.StoreFault.{StoreFault}
use Rattle.mx_office.specs.declared.values.Outcome.{Outcome}
use Rattle.mx_office.specs.declared.values.Outcome.TheVariants.{Reply as Replied, Unavailable}
use Rattle.mx_command.specs.declared.values.Refusal.{Refusal}
use Rattle.mx_command.specs.declared.values.Reply.{Reply}
use Rattle.mx_command.specs.declared.values.Reply.TheVariants.{Refused}
use Rattle.mx_command.specs.Commands.{IsAsked, Asked}
use Rattle.mx_office.specs.Step.{step}
use Rattle.mx_office.specs.Run.{IsRun, IsUndone, MayBeUndone, Runs, attempts, is_unavailable}

one_taken : (cs : List Asked) (i : ℕ) (c : Asked) → i < length cs → c ≡ get_or cs i c → take (i + 1) cs ≡ take i cs ++ c ∷ []
one_taken cs i c lt at = take_more cs i c lt ∙ ap (λ x. take i cs ++ x ∷ []) (sym at)

-- commands that are values, and one more
pub asked_more : (cs : List Asked) (i : ℕ) (c : Asked) → i < length cs → c ≡ get_or cs i c → AllByRecursion IsAsked (take i cs) → IsAsked c → AllByRecursion IsAsked (take (i + 1) cs)
asked_more cs i c lt at before asked = rw (one_taken cs i c lt at) (all_append IsAsked (take i cs) (c ∷ []) before (asked, tt))

-- ---- outcomes by which nothing changes

pub undone_before : (os : List Outcome) (o : Outcome) (more : List Outcome) → more ≡ os ++ o ∷ [] → AllByRecursion IsUndone more → AllByRecursion IsUndone os × IsUndone o
undone_before os o more is all = parts os (subst (AllByRecursion IsUndone) is all) where
  parts : (os : List Outcome) → AllByRecursion IsUndone (os ++ o ∷ []) → AllByRecursion IsUndone os × IsUndone o
  parts [] all = (tt, all.0)
  parts (x ∷ os) all = let rest = parts os all.1 in ((all.0, rest.0), rest.1)

-- after a refusal the World is as it was
pub refused_last : (old now new : World) (r : Reply) (o : Outcome) → o ≡ Replied r → IsUndone o → ((refusal : Refusal) → r ≡ Refused refusal → new ≡ now) → now ≡ old → new ≡ old
refused_last old now new r o is undone same so_far = let refused = subst IsUndone is undone in same refused.0 refused.1 ∙ so_far

-- ---- runs

module _ (fails : StoreFault → Type 0) where
  -- one command more, which is answered
  run_replied : (w v : World) (cs : List Asked) (os : List Outcome) (c : Asked) (r : Reply) → IsRun fails w cs os v → r ≡ (step v c.0 c.1).reply → IsRun fails w (cs ++ c ∷ []) (os ++ Replied r ∷ []) (step v c.0 c.1).world
  run_replied w v [] [] c r is reply = (reply ∙ ap (λ x. (step x c.0 c.1).reply) (sym is), ap (λ x. (step x c.0 c.1).world) is)
  run_replied w v [] (o ∷ os) c r is reply = absurd is
  run_replied w v (x ∷ cs) [] c r is reply = absurd is
  run_replied w v (x ∷ cs) (Replied q ∷ os) c r is reply = (is.0, run_replied (step w x.0 x.1).world v cs os c r is.1 reply)
  run_replied w v (x ∷ cs) (Unavailable ∷ os) c r is reply = (is.0, run_replied w v cs os c r is.1 reply)

  -- one command more, which the book could not do
  run_undone : (w v : World) (cs : List Asked) (os : List Outcome) (c : Asked) → IsRun fails w cs os v → MayBeUndone fails v c → IsRun fails w (cs ++ c ∷ []) (os ++ Unavailable ∷ []) v
  run_undone w v [] [] c is why = (subst (λ x. MayBeUndone fails x c) (sym is) why, is)
  run_undone w v [] (o ∷ os) c is why = absurd is
  run_undone w v (x ∷ cs) [] c is why = absurd is
  run_undone w v (x ∷ cs) (Replied q ∷ os) c is why = (is.0, run_undone (step w x.0 x.1).world v cs os c is.1 why)
  run_undone w v (x ∷ cs) (Unavailable ∷ os) c is why = (is.0, run_undone w v cs os c is.1 why)

  -- ---- the command at a place, as a loop meets it

  pub run_replied_at : (w v : World) (cs : List Asked) (i : ℕ) (c : Asked) (os more : List Outcome) (o : Outcome) (r : Reply) → i < length cs → c ≡ get_or cs i c → IsRun fails w (take i cs) os v
      → r ≡ (step v c.0 c.1).reply → o ≡ Replied r → more ≡ os ++ o ∷ [] → IsRun fails w (take (i + 1) cs) more (step v c.0 c.1).world
  run_replied_at w v cs i c os more o r lt at is reply o_is more_is = rw (one_taken cs i c lt at, more_is, o_is) (run_replied w v (take i cs) os c r is reply)

  pub run_undone_at : (w v : World) (cs : List Asked) (i : ℕ) (c : Asked) (os more : List Outcome) (o : Outcome) → i < length cs → c ≡ get_or cs i c → IsRun fails w (take i cs) os v
      → MayBeUndone fails v c → o ≡ Unavailable → more ≡ os ++ o ∷ [] → IsRun fails w (take (i + 1) cs) more v
  run_undone_at w v cs i c os more o lt at is why o_is more_is = rw (one_taken cs i c lt at, more_is, o_is) (run_undone w v (take i cs) os c is why)

  -- ---- attempts

  attempts_more : (w v : World) (cs : List Asked) (os : List Outcome) (c : Asked) (o : Outcome) → IsRun fails w cs os v
      → attempts (cs ++ c ∷ []) (os ++ o ∷ []) ≡ attempts cs os ++ attempt (is_unavailable o) (λ u. (step u c.0 c.1).world)
  attempts_more w v [] [] c o is = refl
  attempts_more w v [] (q ∷ os) c o is = absurd is
  attempts_more w v (x ∷ cs) [] c o is = absurd is
  attempts_more w v (x ∷ cs) (Replied q ∷ os) c o is = ap (λ ts. record { given_up = false; change = λ u. (step u x.0 x.1).world } ∷ ts) (attempts_more (step w x.0 x.1).world v cs os c o is.1)
  attempts_more w v (x ∷ cs) (Unavailable ∷ os) c o is = ap (λ ts. record { given_up = true; change = λ u. (step u x.0 x.1).world } ∷ ts) (attempts_more w v cs os c o is.1)

  pub attempts_at : (w v : World) (cs : List Asked) (i : ℕ) (c : Asked) (os more : List Outcome) (o : Outcome) → i < length cs → c ≡ get_or cs i c → IsRun fails w (take i cs) os v
      → more ≡ os ++ o ∷ [] → attempts (take (i + 1) cs) more ≡ attempts (take i cs) os ++ attempt (is_unavailable o) (λ u. (step u c.0 c.1).world)
  attempts_at w v cs i c os more o lt at is more_is = rw (one_taken cs i c lt at, more_is) (attempts_more w v (take i cs) os c o is)

  -- ---- a run and one attempt more

  module _ {old now : View} (cs : List Asked) (i : ℕ) (c : Asked) (os more : List Outcome) (o : Outcome) (lt : i < length cs) (at : c ≡ get_or cs i c) (more_is : more ≡ os ++ o ∷ []) (far : Runs fails old now (take i cs) os) where
    abbrev so_far : World
    so_far = attempt_all old.world (attempts (take i cs) os)

    abbrev change : World → World
    change u = (step u c.0 c.1).world

    tried : (p : Outcome) → o ≡ p → attempts (take (i + 1) cs) more ≡ attempts (take i cs) os ++ attempt (is_unavailable p) change
    tried p is = attempts_at old.world so_far cs i c os more o lt at far.run more_is ∙ ap (λ x. attempts (take i cs) os ++ attempt (is_unavailable x) change) is

    ends : (p : Outcome) → o ≡ p → attempt_all old.world (attempts (take (i + 1) cs) more) ≡ attempt_all so_far (attempt (is_unavailable p) change)
    ends p is = ap (attempt_all old.world) (tried p is) ∙ attempt_all-append old.world (attempts (take i cs) os) (attempt (is_unavailable p) change)

    pub runs_replied : {new : View} (r : Reply) → o ≡ Replied r → now.doubt ≡ 0 → r ≡ (step now.world c.0 c.1).reply → MovesTo now new (attempt false change) → Runs fails old new (take (i + 1) cs) more
    runs_replied {new = new} r is sure reply made = record {
      moves = subst (MovesTo old new) (sym (tried (Replied r) is)) (moves_then _ _ far.moves made);
      run = subst (IsRun fails old.world (take (i + 1) cs) more) (sym (ends (Replied r) is))
          (run_replied_at old.world so_far cs i c os more o r lt at far.run (subst (λ x. r ≡ (step x c.0 c.1).reply) (far.moves.world sure) reply) is more_is);
    }

    pub runs_undone : {new : View} → o ≡ Unavailable → MayBeUndone fails so_far c → MovesTo now new (attempt true change) → Runs fails old new (take (i + 1) cs) more
    runs_undone {new = new} is why undone = record {
      moves = subst (MovesTo old new) (sym (tried Unavailable is)) (moves_then _ _ far.moves undone);
      run = subst (IsRun fails old.world (take (i + 1) cs) more) (sym (ends Unavailable is)) (run_undone_at old.world so_far cs i c os more o lt at far.run why is more_is);
    }
