use Rattle.std.proofs.Common.{ℕ, List, None, Some, Option, IfSome, append_assoc, codes}
use Rattle.std.specs.Fmt.{◌++?◌}
use Rattle.std.specs.Io.KnownBytes.{Appends}
use Rattle.mx_files.specs.Copying.{failed_line}
use Rattle.mx_files.proofs.copier.say_failed.Goals as goal

-- a line with words that are known is known
known-line : (words old new : Option (List ℕ)) (to : List ℕ) → IfSome (Some (codes "copy: ") ++? (Some to ++? (Some (codes ": ") ++? (words ++? Some (codes "; the next is tried when it is due\n"))))) (Appends old new)
    → IfSome words (λ w. Appends old new (failed_line to w))
known-line None old new to said = tt
known-line (Some w) old new to said = simp append_assoc said

pub returns : goal.returns
returns g c = known-line (g.D.Display.output c.args.words) _ _ c.args.to.now c.say.ensures
