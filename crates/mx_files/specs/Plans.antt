-- What a task is to do.
use Rattle.std.specs.Prelude.{ℕ, List, Option, option_map}
use Rattle.mx_args.specs.declared.task.AskedCopies.{AskedCopies}
use Rattle.mx_args.specs.declared.task.AskedReport.{AskedReport}
use Rattle.mx_args.specs.declared.task.AskedReport.TheVariants as asked
use Rattle.mx_args.specs.declared.task.Task.{Task}
use Rattle.mx_args.specs.declared.task.Task.TheVariants as task
use Rattle.mx_tasks.specs.declared.report.ReportKind.{ReportKind}
use Rattle.mx_tasks.specs.declared.report.ReportKind.TheVariants as kind
use Rattle.mx_tasks.specs.declared.work.Work.{Work}
use Rattle.mx_tasks.specs.declared.work.Work.TheVariants as work
use Rattle.mx_files.specs.declared.plan.Act.TheVariants as act
use Rattle.mx_files.specs.declared.plan.Plan.{Plan}
use Rattle.mx_files.specs.declared.plan.PlannedCopies.{PlannedCopies}
use Rattle.mx_files.specs.declared.plan.Plan.TheVariants.{InMemory, InFile}

-- the report that is asked for where one of this kind is planned
abbrev pub asked_report : ReportKind → AskedReport
asked_report kind.Reconciliation = asked.Reconciliation
asked_report (kind.Statement purse) = asked.Statement purse
asked_report kind.Statements = asked.Statements

-- the copies that are asked for where these are planned
abbrev pub asked_copies : Option PlannedCopies → Option AskedCopies
asked_copies copies = option_map (λ c. record { to = c.to.now; every = c.every }) copies

-- the task that is this work over the books in a file, with these copies of them
abbrev pub worked_task : List ℕ → Option AskedCopies → Work → Task
worked_task path copies (work.Serve port count) = task.Serve path port count copies
worked_task path copies (work.Import roll) = task.Import path roll.now
worked_task path copies (work.Report kind) = task.Report path (asked_report kind)

-- the task that has this plan
abbrev pub planned_task : Plan → Task
planned_task (InMemory operator) = task.RunMemory operator
planned_task (InFile path act.Run) = task.RunFile path.now
planned_task (InFile path (act.Make operator)) = task.Init path.now operator
planned_task (InFile path (act.Work errand)) = worked_task path.now (asked_copies errand.copies) errand.work
planned_task (InFile path act.Check) = task.Check path.now
planned_task (InFile path (act.Copy to)) = task.Copy path.now to.now
planned_task (InFile path act.Migrate) = task.Migrate path.now
