-- An alarm that rings.
use Rattle.std.proofs.Common.{◌∙◌, List, ℕ, inl, inr, sym, subst}
use Rattle.std.proofs.lemmas.Bool.{false≢true}
use Rattle.std.specs.Prelude.{Option}
use Rattle.mx_tasks.specs.Voices.{RingsOnce}
use Rattle.mx_tasks.specs.declared.serve.alarm.Alarm.{Alarm}

-- an alarm rings once in all
pub rings_then : {V : Type 0} (said : V → Option (List ℕ)) (a b c : Alarm V) → RingsOnce said a b → RingsOnce said b c → RingsOnce said a c
rings_then said a b c (inl same) next = subst (λ x. RingsOnce said x c) same next
rings_then said a b c (inr rang) (inl same) = subst (λ x. RingsOnce said a x) (sym same) (inr rang)
rings_then said a b c (inr rang) (inr again) = absurd (false≢true (sym again.0 ∙ rang.1))
