-- A command that reads a list, or makes edits and isn't refused, takes memory.
use Rattle.std.proofs.Common.{◌≡◌, Bool, true, false, List, [], refl, ◌∙◌, inl, inr}
use Rattle.std.specs.Prelude.{◌⊎◌, ◌&&◌, ◌||◌, not, IsTrue}
use Rattle.mx_book.specs.declared.edits.Edit.{Edit}
use Rattle.mx_book.specs.World.{World}
use Rattle.mx_book.specs.declared.contract.StoreFault.{StoreFault}
use Rattle.mx_book.specs.declared.contract.StoreFault.TheVariants.{Memory}
use Rattle.mx_book.specs.declared.values.Caller.{Caller}
use Rattle.mx_command.specs.declared.values.Command.{Command}
use Rattle.mx_command.specs.declared.values.Refusal.{Refusal}
use Rattle.mx_command.specs.declared.values.Reply.{Reply}
use Rattle.mx_command.specs.declared.values.Reply.TheVariants as reply
use Rattle.mx_office.specs.Faults.{lists, makes_edits, is_refused, takes_memory, FailsFor, MayFail, MayNotDecide}
use Rattle.mx_office.specs.Step.{step}

edits_take : (a b c : Bool) → (IsTrue b → ⊥) → (c ≡ false → ⊥) → IsTrue (a || (not b && c))
edits_take true b c refused idle = refl
edits_take false true c refused idle = absurd (refused refl)
edits_take false false true refused idle = refl
edits_take false false false refused idle = absurd (idle refl)

list_takes : (a b : Bool) → IsTrue a → IsTrue (a || b)
list_takes true b t = refl
list_takes false b t = cc

-- a refusal is one of the refusals
which : (r : Reply) → IsTrue (is_refused r) → (x : Refusal) × (r ≡ reply.Refused x)
which (reply.Refused x) is = (x, refl)
which r is = absurd (cc)

-- a decision that has edits, and isn't refused, is on a command that takes memory
pub writes : (w : World) (caller : Caller) (command : Command) (r : Reply) (es : List Edit) → r ≡ (step w caller command).reply
    → ((x : Refusal) → r ≡ reply.Refused x → ⊥) → (makes_edits w command ≡ false → es ≡ []) → (es ≡ [] → ⊥) → IsTrue (takes_memory w caller command)
writes w caller command r es is accepted idle some =
    edits_take (lists w caller command) (is_refused (step w caller command).reply) (makes_edits w command)
    (λ t. let x = which (step w caller command).reply t in accepted x.0 (is ∙ x.1)) (λ f. some (idle f))

-- why a call may fail that takes memory
pub memory_fails : (fails : StoreFault → Type 0) (takes : Bool) (e : StoreFault) → IsTrue takes → (e ≡ Memory) ⊎ fails e → FailsFor fails takes e
memory_fails fails takes e t (inl x) = inl (t, x)
memory_fails fails takes e t (inr x) = inr x

-- a command may fail where its decision may
pub decision_fails : (fails : StoreFault → Type 0) (w : World) (caller : Caller) (command : Command) (e : StoreFault) → FailsFor fails (lists w caller command) e → MayFail fails w caller command e
decision_fails fails w caller command e (inl x) = inl (list_takes (lists w caller command) (not (is_refused (step w caller command).reply) && makes_edits w command) x.0, x.1)
decision_fails fails w caller command e (inr x) = inr x

-- want of memory, or what a book's reads may fail by
pub decision_faults : (fails : StoreFault → Type 0) (command : Command) (e : StoreFault) → MayNotDecide fails command e → (e ≡ Memory) ⊎ fails e
decision_faults fails command e (inl x) = inl x.1
decision_faults fails command e (inr x) = inr x
