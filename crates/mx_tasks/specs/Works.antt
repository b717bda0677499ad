-- What work over the books does, and what comes of it.
use Rattle.std.specs.Prelude.{◌≡◌, ◌≤◌, ◌⊎◌, ℕ, Bool, true, false, List, ◌++◌, Option, Some, None, Result, IfOk, IfErr, IfSome, IsErr, MatchResult, codes, length, String, string_bytes}
use Rattle.std.specs.Fmt.{decimal}
use Rattle.mx_book.specs.World.{World}
use Rattle.mx_book.specs.declared.contract.StoreFault.{StoreFault}
use Rattle.mx_desk.specs.Serve.{Marked}
use Rattle.mx_desk.specs.Rounds.{Leads, Round}
use Rattle.mx_report.specs.Import.{IsBroken, IsImported, Tally, tally_of}
use Rattle.mx_report.specs.declared.rolls.RollReport.{RollReport}
use Rattle.mx_tasks.specs.Connections.{ServesClients}
use Rattle.mx_tasks.specs.Faults.{IsReportFault}
use Rattle.mx_tasks.specs.Texts.{import_text, is_even_of, report_of}
use Rattle.mx_tasks.specs.declared.fault.TaskFault.{TaskFault}
use Rattle.mx_tasks.specs.declared.fault.TaskFault.TheVariants.{Memory, NoSuchPurse, Store}
use Rattle.mx_tasks.specs.declared.report.ReportKind.{ReportKind}
use Rattle.mx_tasks.specs.declared.work.Done.{Done}
use Rattle.mx_tasks.specs.declared.work.Work.{Work}
use Rattle.mx_tasks.specs.declared.work.Work.TheVariants.{Serve, Import, Report}

-- this is the text that is said, and there is no fault
abbrev pub IsSaid : List ℕ → Done → Type 0
IsSaid text d = (d.text.items ≡ text) × (d.fault ≡ None)

abbrev pub IsText : {A : Type 0} → List ℕ → String A → Type 0
IsText text line = string_bytes line ≡ text

-- that a port is listened on
abbrev pub listening_text : ℕ → List ℕ
listening_text port = codes "listening on 127.0.0.1:" ++ decimal port ++ codes "\n"

-- how many connections were served
abbrev pub served_text : ℕ → List ℕ
served_text n = codes "served " ++ decimal n ++ codes "\n"

-- clients: how many were served is said
abbrev pub WorksServe : (StoreFault → Type 0) → World → ℕ → Result Done TaskFault → List Marked → World → Type 0
WorksServe fails w count result ms now = ServesClients fails w count result ms now × IfOk result (IsSaid (served_text count))

-- the import of a roll: its summary is said; or it broke off; or it is done and there is no memory to sum it up
abbrev pub Imports : {X : Type 0} → (World → Type 0) → World → List ℕ → (List ℕ → X → Type 0) → Result X TaskFault → Type 0
Imports Stands w bytes Said result =
    MatchResult result (λ x. (summary : RollReport) × IsImported Stands w bytes (tally_of summary) × Said (import_text summary) x)
    (λ e. ((done : ℕ) × IsBroken Stands w bytes done) ⊎ ((e ≡ Memory) × (tally : Tally) × IsImported Stands w bytes tally))

-- the same of a roll that could be read, of 1,048,576 bytes at most: those that are at its path, where they are known
abbrev pub ImportsFile : {X : Type 0} → Option (List ℕ) → (World → Type 0) → World → (List ℕ → X → Type 0) → Result X TaskFault → Type 0
ImportsFile known Stands w Said result =
    (Stands w × IsErr result)
    ⊎ ((bytes : List ℕ) × (IfSome known (λ has. bytes ≡ has)) × (length bytes ≤ 1048576) × Imports Stands w bytes Said result)

-- Store where what is reported doesn't add up
abbrev pub fault_unless_even : Bool → Option TaskFault
fault_unless_even true = None
fault_unless_even false = Some Store

-- a report: its text, and whether it adds up
abbrev pub IsReport : World → ReportKind → Done → Type 0
IsReport w kind d = (report_of w kind ≡ Some d.text.items) × (d.fault ≡ fault_unless_even (is_even_of w kind))

abbrev pub WorksReport : World → ReportKind → Result Done TaskFault → Type 0
WorksReport w kind result = MatchResult result (IsReport w kind) (λ e. e ≡ NoSuchPurse → report_of w kind ≡ None)

-- work that began with the World w: what comes of it, and where the books stand. Of requests that is said also where the store
-- was shut on the way, and else where it is sure.
abbrev pub Works : (StoreFault → Type 0) → Type 0 → (World → Type 0) → (List Round → World → Type 0) → World → Work → Result Done TaskFault → Type 0
Works fails Sure Stands Moves w (Serve port count) result = Leads (WorksServe fails w count result) Moves
Works fails Sure Stands Moves w (Import roll) result = Sure → ImportsFile None Stands w IsSaid result
Works fails Sure Stands Moves w (Report kind) result = IfErr result (IsReportFault fails) × (Sure → Stands w × WorksReport w kind result)
