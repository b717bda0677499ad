-- Work that leaves the books so, and otherwise.
use Rattle.std.proofs.Common.{ℕ, List, None, Ok, Err, inl, inr}
use Rattle.std.specs.Prelude.{Result}
use Rattle.mx_book.specs.World.{World}
use Rattle.mx_book.specs.declared.contract.StoreFault.{StoreFault}
use Rattle.mx_desk.specs.Rounds.{Leads, Round}
use Rattle.mx_desk.specs.Serve.{Marked}
use Rattle.mx_report.specs.Import.{IsBroken, IsImported, StandsImported, Tally}
use Rattle.mx_report.specs.Roll.{Fields}
use Rattle.mx_tasks.specs.Works.{Imports, ImportsFile, IsSaid, Works}
use Rattle.mx_tasks.specs.declared.fault.TaskFault.{TaskFault}
use Rattle.mx_tasks.specs.declared.work.Done.{Done}
use Rattle.mx_tasks.specs.declared.work.Work.{Work}
use Rattle.mx_tasks.specs.declared.work.Work.TheVariants.{Serve, Import, Report}

-- rounds by which the books stand so, stand so otherwise
pub leads_so : (Holds : List Marked → World → Type 0) (M N : List Round → World → Type 0) → ((rs : List Round) (now : World) → M rs now → N rs now) → Leads Holds M → Leads Holds N
leads_so Holds M N f led = record { end = led.end; rounds = led.rounds; holds = led.holds; moves = f led.rounds led.end led.moves }

-- what stands after an import stands so otherwise
stands_so : {S T : World → Type 0} {w : World} {records : List Fields} → ((v : World) → S v → T v) → StandsImported S w records → StandsImported T w records
stands_so f x = record { stands = f _ x.stands; values = x.values; run = x.run; rows = x.rows }

imported_so : {S T : World → Type 0} {w : World} {bytes : List ℕ} {tally : Tally} → ((v : World) → S v → T v) → IsImported S w bytes tally → IsImported T w bytes tally
imported_so f x = record { records = x.records; roll = x.roll; stands = stands_so f x.stands; counts = x.counts }

broken_so : {S T : World → Type 0} {w : World} {bytes : List ℕ} {done : ℕ} → ((v : World) → S v → T v) → IsBroken S w bytes done → IsBroken T w bytes done
broken_so f x = record { records = x.records; first = x.first; rows_before = x.rows_before; stands = stands_so f x.stands }

imports_so : (S T : World → Type 0) (w : World) (bytes : List ℕ) → ((v : World) → S v → T v) → (result : Result Done TaskFault) → Imports S w bytes IsSaid result → Imports T w bytes IsSaid result
imports_so S T w bytes f (Ok x) it = (it.0, imported_so f it.1, it.2)
imports_so S T w bytes f (Err e) (inl broken) = inl (broken.0, broken_so f broken.1)
imports_so S T w bytes f (Err e) (inr whole) = inr (whole.0, whole.1, imported_so f whole.2)

file_so : (S T : World → Type 0) (w : World) → ((v : World) → S v → T v) → (result : Result Done TaskFault) → ImportsFile None S w IsSaid result → ImportsFile None T w IsSaid result
file_so S T w f result (inl none) = inl (f _ none.0, none.1)
file_so S T w f result (inr some) = inr (some.0, some.1, some.2, imports_so S T w some.0 f result some.3)

-- and so does work, where what is sure is so otherwise
pub works_so : (fails : StoreFault → Type 0) (Sure Certain : Type 0) (S T : World → Type 0) (M N : List Round → World → Type 0) → (Certain → Sure) → (Certain → (v : World) → S v → T v)
    → ((rs : List Round) (now : World) → M rs now → N rs now) → (w : World) (work : Work) (result : Result Done TaskFault) → Works fails Sure S M w work result → Works fails Certain T N w work result
works_so fails Sure Certain S T M N sure f g w (Serve port count) result so = leads_so _ M N g so
works_so fails Sure Certain S T M N sure f g w (Import roll) result so = λ certain. file_so S T w (f certain) result (so (sure certain))
works_so fails Sure Certain S T M N sure f g w (Report kind) result so = (so.0, λ certain. let it = so.1 (sure certain) in (f certain _ it.0, it.1))
