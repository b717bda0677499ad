-- The import of records, one more at a time.
use Rattle.std.proofs.Common.{◌≡◌, ◌≤◌, ◌<◌, ◌+◌, ◌-◌, ◌^◌, ℕ, Bool, true, false, List, [], ◌∷◌, ◌++◌, length, length-append, append_assoc, Option, Some, None, refl, sym, ◌∙◌, ap, subst, arith, inr}
use Rattle.std.proofs.lemmas.List.{append-nil}
use Rattle.std.specs.List.{AllByRecursion}
use Rattle.csv.specs.Reading.{ExplainsRead, RowStep, owned_rows_left}
use Rattle.csv.specs.declared.error.ErrorKind.{ErrorKind}
use Rattle.std.proofs.ByRecursion.{All-append as all_append}
use Rattle.mx_book.specs.declared.values.Caller.{Caller}
use Rattle.mx_book.specs.World.{World}
use Rattle.mx_command.specs.Commands.{IsAsked, Asked}
use Rattle.mx_office.specs.Reachable.{IsReachable, StandsBalanced}
use Rattle.mx_office.specs.Step.{one_step, step, steps}
use Rattle.mx_office.proofs.BalanceCommandLemmas.{reachable_balanced}
use Rattle.mx_office.proofs.ConservedLemmas.{reachable_conserved}
use Rattle.mx_office.proofs.LawLemmas.{course-append}
use Rattle.mx_office.proofs.ReachLemmas.{reachable_after}
use Rattle.mx_office.proofs.StepLemmas.{reachable_world}
use Rattle.mx_report.specs.declared.roll_rows.RollRow.{RollRow}
use Rattle.mx_report.specs.Roll.{Fields, roll_header, is_same, asker, row_of}
use Rattle.mx_report.specs.Import.{AreFirst, BeginsRoll, HasOddRecord, Import, IsBroken, IsRecordImported, IsRoll, StandsImported, Tally, after_record, after_records, import, no_rows, record_asks, record_imported, roll_asks, row_imported, rows_counted, spelled_asks, spelled_imported, tallied}
use Rattle.mx_report.specs.declared.rolls.RollFaultKind.TheVariants.{NotRoll}
use Rattle.mx_report.specs.Reading.{HasGiven, Records, record_fault}
use Rattle.mx_report.proofs.KeptLemmas.{all_standing}
use Rattle.mx_report.proofs.ReadingLemmas.{bytes_left, none_left, odd_next}

-- ---- one record more

pub after-more : (i : Import) (rs : List Fields) (r : Fields) → after_records i (rs ++ r ∷ []) ≡ after_record (after_records i rs) r
after-more i [] r = refl
after-more i (x ∷ rs) r = after-more (after_record i x) rs r

asks-more : (i : Import) (rs : List Fields) (r : Fields) → roll_asks i.world (rs ++ r ∷ []) ≡ roll_asks i.world rs ++ record_asks (after_records i rs).world r
asks-more i [] r = append-nil (record_asks i.world r)
asks-more i (x ∷ rs) r =
    ap (λ cs. record_asks i.world x ++ cs) (asks-more (after_record i x) rs r)
    ∙ sym (append_assoc (record_asks i.world x) (roll_asks (record_imported i.world x).world rs) (record_asks (after_records (after_record i x) rs).world r))

-- ---- an import is a run of commands

row_run : (w : World) (row : RollRow) (b : Bool) (o : Option Caller) → is_same w row ≡ b → asker w row ≡ o → (steps w (spelled_asks w (Some row))).end ≡ (row_imported w row).world
unfolding row_imported
row_run w row true o is who = rw is refl
row_run w row false None is who = rw (is, who) refl
row_run w row false (Some c) is who = rw (is, who) refl

spelled_run : (w : World) (o : Option RollRow) → (steps w (spelled_asks w o)).end ≡ (spelled_imported w o).world
spelled_run w None = refl
spelled_run w (Some row) = row_run w row _ _ refl refl

run_from : (i : Import) (rs : List Fields) → (steps i.world (roll_asks i.world rs)).end ≡ (after_records i rs).world
run_from i [] = refl
run_from i (r ∷ rs) =
    ap (λ c. c.end) (course-append one_step i.world (record_asks i.world r) (roll_asks (record_imported i.world r).world rs))
    ∙ ap (λ x. (steps x (roll_asks (record_imported i.world r).world rs)).end) (spelled_run i.world (row_of r))
    ∙ run_from (after_record i r) rs

pub import_run : (w : World) (rs : List Fields) → (steps w (roll_asks w rs)).end ≡ (import w rs).world
import_run w rs = run_from (record { world = w; tally = no_rows }) rs

-- ---- what stands

-- nothing was imported yet
pub stands_none : (Stands : World → Type 0) (w : World) → Stands w → StandsImported Stands w []
stands_none Stands w stands = record { stands = stands; values = tt; run = refl; rows = tt }

-- one record more was imported
pub stands_more : (Before Now : World → Type 0) (w : World) (rs : List Fields) (r : Fields) (before now : Tally) → StandsImported Before w rs → IsRecordImported Now (import w rs).world r before now → StandsImported Now w (rs ++ r ∷ [])
stands_more Before Now w rs r before now so_far one =
    let i : Import = record { world = w; tally = no_rows } in
    record {
      stands = subst Now (ap (λ (x : Import). x.world) (sym (after-more i rs r))) one.stands;
      values = subst (AllByRecursion IsAsked) (sym (asks-more i rs r)) (all_append IsAsked (roll_asks w rs) (record_asks (import w rs).world r) so_far.values one.values);
      run = import_run w (rs ++ r ∷ []);
      rows = all_standing i (rs ++ r ∷ []);
    }

-- and counted
pub counts_more : (Now : World → Type 0) (w : World) (rs : List Fields) (r : Fields) (before now : Tally) → (import w rs).tally ≡ before → IsRecordImported Now (import w rs).world r before now → (import w (rs ++ r ∷ [])).tally ≡ now
counts_more Now w rs r before now so_far one =
    ap (λ (x : Import). x.tally) (after-more (record { world = w; tally = no_rows }) rs r) ∙ ap (λ t. tallied t (record_imported (import w rs).world r).outcome) so_far ∙ sym one.counted

-- ---- reachable Worlds

reach : (w : World) (cs : List Asked) → AllByRecursion IsAsked cs → IsReachable w → IsReachable (steps w cs).end
reach w [] values r = r
reach w (c ∷ cs) values r = reach (step w c.0 c.1).world cs values.1 (reachable_after w c.0 c.1 values.0.0 values.0.1 r)

pub stands_balanced : (now w : World) (rs : List Fields) → StandsImported (λ v. now ≡ v) w rs → IsReachable w → StandsBalanced now
stands_balanced now w rs so_far from =
    let ends : IsReachable now = subst IsReachable (so_far.run ∙ sym so_far.stands) (reach w (roll_asks w rs) so_far.values from) in
    record { reachable = ends; world = reachable_world _ ends; balanced = reachable_balanced _ ends; conserved = reachable_conserved _ ends }

-- ---- how far an import has come

-- a reader has given the header and these records, and each was counted
pub record Going (text : List ℕ) (it : Records) (tally : Tally) (rs : List Fields) : Type 0 where
  pub given : HasGiven text (roll_header ∷ rs) (Some 4) it
  pub fours : AllByRecursion (λ (r : Fields). length r ≡ 4) rs
  pub counted : rows_counted tally ≡ length rs
  pub few : rows_counted tally + owned_rows_left it ≤ 2 ^ 64 - 1

-- what was imported of them, over the Worlds that stood before and those that stand now
pub record Come (Before Now : World → Type 0) (text : List ℕ) (it : Records) (tally : Tally) : Type 0 where
  pub records : List Fields
  pub going : Going text it tally records
  pub stands : (w : World) → Before w → StandsImported Now w records
  pub counts : (w : World) → Before w → (import w records).tally ≡ tally

-- the header and the records so far begin the text
pub begins : (text : List ℕ) (it : Records) (tally : Tally) (rs : List Fields) (going : Going text it tally rs) → BeginsRoll text rs it.rdr.state going.given.rest
begins text it tally rs going = record { reached = going.given.reached; fours = going.fours }

pub are_first : (text : List ℕ) (it : Records) (tally : Tally) (rs : List Fields) → Going text it tally rs → AreFirst text rs
are_first text it tally rs going = inr (it.rdr.state, going.given.rest, begins text it tally rs going)

-- one record more was given and counted
pub going_more : (text : List ℕ) (it now : Records) (before after : Tally) (rs : List Fields) (r : Fields) → Going text it before rs → HasGiven text (roll_header ∷ rs ++ r ∷ []) (Some (length r)) now → length r ≡ 4
    → rows_counted after ≡ rows_counted before + 1 → now.left < it.left → Going text now after (rs ++ r ∷ [])
going_more text it now before after rs r going given four counted nearer = record {
  given = subst (λ n. HasGiven text (roll_header ∷ rs ++ r ∷ []) (Some n) now) four given;
  fours = all_append (λ (x : Fields). length x ≡ 4) rs (r ∷ []) going.fours (four, tt);
  counted = counted ∙ ap (λ n. n + 1) going.counted ∙ sym (length-append rs (r ∷ []));
  few = let few = going.few in omega arith;
}

-- the next record has another number of fields
pub odd_record : (text : List ℕ) (it now : Records) (tally : Tally) (rs : List Fields) (kind : ErrorKind) (rows : ℕ) → Going text it tally rs → ExplainsRead bytes_left it.rdr now.rdr false kind → record_fault kind ≡ NotRoll → rows ≡ rows_counted tally → HasOddRecord text rows
odd_record text it now tally rs kind rows going why is count =
    let next = odd_next text (roll_header ∷ rs) it now going.given kind why is in
    record { records = rs; state = it.rdr.state; rest = going.given.rest; odd = next.0; begins = begins text it tally rs going; next = next.1; fields = next.2; rows_before = sym going.counted ∙ sym count }

-- no record is left, and so the text is the roll of those that were given
pub whole_roll : (text : List ℕ) (it now : Records) (tally : Tally) (rs : List Fields) → Going text it tally rs → RowStep bytes_left it.rdr now.rdr now.left None → IsRoll text rs
whole_roll text it now tally rs going read =
    record { state = it.rdr.state; rest = going.given.rest; begins = begins text it tally rs going; ends = none_left text (roll_header ∷ rs) (Some 4) it now going.given read }

-- what was imported before a fault
pub broken : (Before Now : World → Type 0) (text : List ℕ) (it : Records) (tally : Tally) (rows : ℕ) (w : World) → Come Before Now text it tally → rows ≡ rows_counted tally → Before w → IsBroken Now w text rows
broken Before Now text it tally rows w come count from =
    record { records = come.records; first = are_first text it tally come.records come.going; rows_before = sym come.going.counted ∙ sym count; stands = come.stands w from }
