-- What copies of books hold.
use Rattle.std.proofs.Common.{◌≡◌, ◌∙◌, Result, Ok, Err, refl, rules, sym}
use Rattle.std.specs.Prelude.{IfOk, IsOk}
use mathlib.Core.Logic.{∥∥₁_map}
use Rattle.sqlite_disk.specs.declared.Disk.{Ghosts}
use Rattle.sqlite.specs.Effect.{Database}
use Rattle.mx_book.specs.World.{World}
use Rattle.mx_audit.specs.Copies.{HasRaised}
use Rattle.mx_audit.proofs.CopyLemmas.{copy_spells_one}
use Rattle.mx_tables.specs.Schema.{schema_of}
use Rattle.mx_tables.specs.declared.migration.Migrated.{Migrated}
use Rattle.mx_tasks.specs.declared.fault.TaskFault.{TaskFault}
use Rattle.mx_files.specs.Durable.{Represents, RepresentsIn}
use Rattle.mx_files.specs.InFiles.{closed_answer, version_before}
use Rattle.mx_files.specs.declared.closing.Left.{Left}
use Rattle.mx_files.specs.declared.closing.Left.TheVariants.{Closed, Unclosed, Nothing}
use Rattle.mx_files.proofs.FileLemmas.{upgraded_so, version_so}

-- ---- answers

pub if_answered : {X E : Type 0} (r : Result X E) (P : X → Type 0) → ((x : X) → r ≡ Ok x → P x) → IfOk r P
if_answered (Ok x) P so = so x refl
if_answered (Err e) P so = tt

pub answered : {X E : Type 0} (r : Result X E) (P : X → Type 0) (x : X) → r ≡ Ok x → IfOk r P → P x
answered r P x is it = rw is at it

pub is_answered : {X E : Type 0} (r : Result X E) (x : X) → r ≡ Ok x → IsOk r
is_answered r x is = rw is (search rules)

never_both : {X E P : Type 0} (e : E) (x : X) → Err e ≡ Ok x → P
never_both e x is = absurd (cc)

-- what was answered behind a close was answered before it
pub before_close : {D X : Type 0} {g : Ghosts D} (left : Left D g) (answer told : Result X TaskFault) (x : X) → told ≡ closed_answer left answer → told ≡ Ok x → answer ≡ Ok x
before_close (Closed files) answer told x closed is = sym closed ∙ is
before_close (Unclosed store) (Ok y) told x closed is = never_both _ x (sym closed ∙ is)
before_close (Unclosed store) (Err e) told x closed is = sym closed ∙ is
before_close Nothing answer told x closed is = sym closed ∙ is

-- ---- a copy that was migrated

pub raised_from : (made : Migrated) (old new : Database) → HasRaised made old new → old.schema ≡ schema_of (version_before made)
raised_from made old new it = it.copied.from ∙ sym it.copied.to ∙ version_so made it.copy new it.migrated

pub raised_world : (made : Migrated) (old new : Database) (w : World) → HasRaised made old new → RepresentsIn (version_before made) old w → Represents new w
raised_world made old new w it stands = upgraded_so made it.copy new w it.migrated (∥∥₁_map stands (λ one. copy_spells_one (version_before made) it.version old it.copy w it.copied one))
