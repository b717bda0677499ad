-- What is said on standard error, and to a terminal in memory.
use Rattle.std.specs.Prelude.{◌≡◌, ◌⊎◌, ℕ, List, [], ◌∷◌, ◌++◌, map, Option, Some, option_map, String, string_bytes, Vec, true, false, codes}
use Rattle.std.specs.Fmt.{decimal}
use Rattle.std.specs.Io.KnownBytes.{Appends}
use Rattle.mx_tasks.specs.Faults.{fault_text}
use Rattle.mx_tasks.specs.declared.fault.TaskFault.{TaskFault}
use Rattle.mx_tasks.specs.declared.serve.alarm.Alarm.{Alarm}

-- when the store fails for the first time
abbrev pub alarm_line : List ℕ
alarm_line = codes "store: the disk is full or the file is damaged; requests are answered 503\n"

-- when it is shut
abbrev pub shut_line : List ℕ
shut_line = codes "store: a write or a sync of the file failed; no more requests are answered\n"

-- where the task ends with a fault
abbrev pub fault_line : TaskFault → List ℕ
fault_line fault = codes "fault: " ++ fault_text fault ++ codes "\n"

-- why the file of a path isn't used, or not to its end
abbrev pub cause_line : List ℕ → List ℕ → List ℕ
cause_line path words = path ++ codes ": " ++ words ++ codes "\n"

-- how many are done, over what was said so before
abbrev pub progress_text : ℕ → List ℕ → List ℕ
progress_text count what = codes "\r" ++ decimal count ++ codes " " ++ what

-- the texts that were said to a terminal in memory, as long as there was memory for them
abbrev pub heard : {A B : Type 0} → Option (Vec (String A) B) → Option (List (List ℕ))
heard texts = option_map (λ all. map string_bytes all.items) texts

-- an alarm didn't ring; or it rang for the first time, and said its line
abbrev pub RingsOnce : {V : Type 0} → (V → Option (List ℕ)) → Alarm V → Alarm V → Type 0
RingsOnce said old new = (new ≡ old) ⊎ ((old.has_rung ≡ false) × (new.has_rung ≡ true) × Appends (said old.voice) (said new.voice) alarm_line)

-- the same; and where this is so, it may be that the store was shut, and that was said behind it
abbrev pub RingsFor : {V : Type 0} → (V → Option (List ℕ)) → Alarm V → Alarm V → Type 0 → Type 0
RingsFor {V} said old new IsSo = RingsOnce said old new ⊎ ((mid : Alarm V) × RingsOnce said old mid × IsSo × Appends (said mid.voice) (said new.voice) shut_line)

-- one more text is heard, as long as all of that is known
abbrev pub HearsOne : Option (List (List ℕ)) → Option (List ℕ) → Option (List (List ℕ)) → Type 0
HearsOne (Some all) (Some text) (Some more) = more ≡ all ++ text ∷ []
HearsOne _ _ _ = Unit {0}
