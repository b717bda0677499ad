use Rattle.std.proofs.Common.{inl, refl}
use Rattle.mx_files.proofs.FileLemmas.{copy_unopened, ended_so, performs_act, performs_as}
use Rattle.mx_files.proofs.perform.perform.Goals as goal

pub returns-in-InMemory : goal.returns-in-InMemory
returns-in-InMemory g c = performs_as _ _ _ _ _ _ _ c.in-InMemory.is c.plan_of.ensures c.perform_memory.ensures.performs

pub returns-in-Run : goal.returns-in-Run
returns-in-Run g c = performs_act _ _ _ _ c.run_in_file.result _ _ _ _ _ c.in-InFile.is c.in-Run.is c.plan_of.ensures c.ended.ensures c.run_in_file.ensures.shut
    (ended_so _ c.run_in_file.result _ c.ended.ensures c.run_in_file.ensures.runs (λ fault was. let it = c.run_in_file.ensures.unopened was in inl (rw (it.0, it.1) refl, λ honest. absurd honest)))

pub returns-in-Work : goal.returns-in-Work
returns-in-Work g c = performs_act _ _ _ _ c.work_in_file.result _ _ _ _ _ c.in-InFile.is c.in-Work.is c.plan_of.ensures c.ended-in-Work.ensures c.work_in_file.ensures.shut
    (ended_so _ c.work_in_file.result _ c.ended-in-Work.ensures (c.work_in_file.ensures.works _) (λ fault was. inl (rw (c.work_in_file.ensures.unopened was) refl, λ honest. absurd honest)))

pub returns-in-Check : goal.returns-in-Check
returns-in-Check g c = performs_act _ _ _ _ c.check_file.result _ _ _ _ _ c.in-InFile.is c.in-Check.is c.plan_of.ensures c.ended-in-Check.ensures c.check_file.ensures.shut
    (ended_so _ c.check_file.result _ c.ended-in-Check.ensures c.check_file.ensures.checks (λ fault was honest. absurd honest))

pub returns-in-Migrate : goal.returns-in-Migrate
returns-in-Migrate g c = performs_act _ _ _ _ c.migrate_file.result _ _ _ _ _ c.in-InFile.is c.in-Migrate.is c.plan_of.ensures c.ended-in-Migrate.ensures c.migrate_file.ensures.shut
    (ended_so _ c.migrate_file.result _ c.ended-in-Migrate.ensures c.migrate_file.ensures.migrates (λ fault was honest. absurd honest))

pub returns-in-Copy : goal.returns-in-Copy
returns-in-Copy g c = performs_act _ _ _ _ c.copy_file.result _ _ _ _ _ c.in-InFile.is c.in-Copy.is c.plan_of.ensures c.ended-in-Copy.ensures c.copy_file.ensures.shut
    (ended_so _ c.copy_file.result _ c.ended-in-Copy.ensures c.copy_file.ensures.copies (λ fault was. copy_unopened _ _ _ _ (rw (c.copy_file.ensures.unopened was) refl)))
