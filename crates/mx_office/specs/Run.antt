-- A run of commands, some of which the book could not do.
use Rattle.std.specs.Prelude.{◌≡◌, Bool, List, [], ◌∷◌}
use Rattle.mx_book.specs.Stands.{Attempt, attempt_all}
use Rattle.mx_book.specs.Views.{View, MovesTo}
use Rattle.mx_book.specs.World.{World}
use Rattle.mx_book.specs.declared.contract.StoreFault.{StoreFault}
use Rattle.mx_book.specs.declared.values.Caller.{Caller}
use Rattle.mx_command.specs.declared.values.Refusal.{Refusal}
use Rattle.mx_command.specs.declared.values.Reply.{Reply}
use Rattle.mx_command.specs.declared.values.Reply.TheVariants.{Refused}
use Rattle.mx_office.specs.declared.values.Outcome.{Outcome}
use Rattle.mx_office.specs.declared.values.Outcome.TheVariants.{Reply as Replied, Unavailable}
use Rattle.mx_office.specs.Faults.{MayFail}
use Rattle.mx_command.specs.Commands.{Asked}
use Rattle.mx_office.specs.Step.{step}

-- there is a cause for which a command may be left undone, over a book whose reads may fail so
abbrev pub MayBeUndone : (StoreFault → Type 0) → World → Asked → Type 0
MayBeUndone fails w c = (e : StoreFault) × MayFail fails w c.0 c.1 e

-- these outcomes of these commands lead from the World w to the World end: one outcome a command, each the
-- reply of its step, or Unavailable, where it may be left undone and nothing was done
abbrev pub IsRun : (StoreFault → Type 0) → World → List Asked → List Outcome → World → Type 0
IsRun fails w [] [] end = w ≡ end
IsRun fails w (c ∷ cs) (Replied r ∷ os) end = (r ≡ (step w c.0 c.1).reply) × IsRun fails (step w c.0 c.1).world cs os end
IsRun fails w (c ∷ cs) (Unavailable ∷ os) end = MayBeUndone fails w c × IsRun fails w cs os end
IsRun fails w _ _ end = ⊥

-- whether a command wasn't answered
abbrev pub is_unavailable : Outcome → Bool
is_unavailable (Replied r) = Bool.false
is_unavailable Unavailable = Bool.true

-- commands as attempts: those that weren't answered are given up
abbrev pub attempts : List Asked → List Outcome → List Attempt
attempts (c ∷ cs) (o ∷ os) = record { given_up = is_unavailable o; change = λ w. (step w c.0 c.1).world } ∷ attempts cs os
attempts _ _ = []

-- What a run of these outcomes leaves: they are attempts, which lead from the World as the commands' steps do. What isn't
-- answered may be left undone.
pub record Runs (fails : StoreFault → Type 0) (old new : View) (cs : List Asked) (os : List Outcome) : Type 0 where
  pub moves : MovesTo old new (attempts cs os)
  pub run : IsRun fails old.world cs os (attempt_all old.world (attempts cs os))

-- an outcome by which nothing changes: the command was refused, or not answered
abbrev pub IsUndone : Outcome → Type 0
IsUndone (Replied r) = (refusal : Refusal) × (r ≡ Refused refusal)
IsUndone Unavailable = Unit {0}

-- ---- what was answered

-- the commands that were answered
abbrev pub answered : List Asked → List Outcome → List Asked
answered (c ∷ cs) (Replied r ∷ os) = c ∷ answered cs os
answered (c ∷ cs) (Unavailable ∷ os) = answered cs os
answered _ _ = []

-- the replies to them, each with its caller
abbrev pub replies : List Asked → List Outcome → List (Caller × Reply)
replies (c ∷ cs) (Replied r ∷ os) = (c.0, r) ∷ replies cs os
replies (c ∷ cs) (Unavailable ∷ os) = replies cs os
replies _ _ = []
