-- Rows stay as they stand: those that are same are so after each command, and those that were added are same.
use Rattle.std.proofs.Common.{◌≡◌, ◌≤◌, ◌+◌, Bool, true, false, cond, List, [], ◌∷◌, length, length-append, Option, Some, None, refl, ◌∙◌, ap, arith, option_map, ◌&&◌}
use Rattle.std.specs.FinMap as fmap
use Rattle.std.specs.List.{AllByRecursion}
use Rattle.mx_pay.specs.Tokens.{is_token}
use Rattle.std.proofs.ByRecursion.{All-append as all_append}
use Rattle.mx_book.specs.declared.values.Caller.{Caller}
use Rattle.mx_book.specs.declared.values.Caller.TheVariants as caller
use Rattle.mx_book.specs.Reads.{who_of}
use Rattle.mx_book.specs.World.{World, Row, Name, Token, is_of, new_row}
use Rattle.mx_book.proofs.NameLemmas.{get-inserted, name_itself}
use Rattle.mx_command.specs.declared.values.Refusal.{Refusal}
use Rattle.mx_command.specs.declared.values.Reply.{Reply}
use Rattle.mx_command.specs.declared.values.Reply.TheVariants as reply
use Rattle.mx_office.specs.Step.{step, new_member_refusal, new_holder_refusal, new_purse_refusal}
use Rattle.mx_office.proofs.OwnLemmas.{absent, none_refused}
use Rattle.mx_report.specs.declared.roll_rows.RollRow.{RollRow}
use Rattle.mx_report.specs.declared.roll_rows.RollRow.TheVariants.{Member, Holder, Purse}
use Rattle.mx_report.specs.declared.rolls.RowOutcome.{RowOutcome}
use Rattle.mx_report.specs.declared.rolls.RowOutcome.TheVariants.{Added, Same, Refused}
use Rattle.mx_report.specs.Roll.{Fields, is_clerk, is_holder, is_holders, is_same, asker, command_of, row_of}
use Rattle.mx_report.specs.Import.{Import, IsSame, after_record, after_records, asked, no_rows, outcome_of, record_imported, row_imported, row_standing, rows_counted, rows_standing, spelled_imported, tallied, Tally}
use Rattle.mx_office.proofs.StayLemmas.{Stays, holder_at, stays_itself, stays_on, step_stays}

-- ---- a row that is same stays so

clerk_case : (m : Name) (o n : Option Caller) → ((c : Caller) → o ≡ Some c → n ≡ Some c) → is_clerk m o ≡ true → is_clerk m n ≡ true
clerk_case m None n stays is = cc
clerk_case m (Some c) n stays is = rw (stays c refl) is

caller_case : (h : Name) (o n : Option Caller) → ((c : Caller) → o ≡ Some c → n ≡ Some c) → is_holder h o ≡ true → is_holder h n ≡ true
caller_case h None n stays is = cc
caller_case h (Some c) n stays is = rw (stays c refl) is

of_case : (m : Name) (o n : Option Name) → ((x : Name) → o ≡ Some x → n ≡ Some x) → is_of m o ≡ true → is_of m n ≡ true
of_case m None n stays is = cc
of_case m (Some x) n stays is = rw (stays x refl) is

holders_case : (h : Name) (o n : Option Name) → ((x : Name) → o ≡ Some x → n ≡ Some x) → is_holders h o ≡ true → is_holders h n ≡ true
holders_case h None n stays is = cc
holders_case h (Some x) n stays is = rw (stays x refl) is

both : (a b c d : Bool) → (a ≡ true → c ≡ true) → (b ≡ true → d ≡ true) → (a && b) ≡ true → (c && d) ≡ true
both true true c d f g is = rw (f refl, g refl) refl
both true false c d f g is = cc
both false b c d f g is = cc

pub same_stays : (w v : World) (row : RollRow) → Stays w v → is_same w row ≡ true → is_same v row ≡ true
unfolding is_same
same_stays w v (Member m t) stays is = clerk_case m (who_of w t) (who_of v t) (stays.tokens t) is
same_stays w v (Holder h m t) stays is =
    both _ _ _ _ (of_case m (fmap.get w.holders h) (fmap.get v.holders h) (stays.holders h)) (caller_case h (who_of w t) (who_of v t) (stays.tokens t)) is
same_stays w v (Purse p h) stays is = holders_case h (holder_at w p) (holder_at v p) (stays.purses p) is

-- ---- a row that was added is same

-- whose a new token is
mine : (w : World) (t : Token) (c : Caller) (b : Bool) → is_token t w.operator ≡ b → cond b (Some caller.Operator) (fmap.get w.tokens t) ≡ None → cond b (Some caller.Operator) (fmap.get (fmap.insert w.tokens t c) t) ≡ Some c
mine w t c true is nobody = cc
mine w t c false is nobody = get-inserted w.tokens t c

member_added : (w : World) (m : Name) (t : Token) (o : Option Refusal) → new_member_refusal w m t ≡ o → outcome_of (step w caller.Operator (command_of (Member m t))).reply ≡ Added → is_same (step w caller.Operator (command_of (Member m t))).world (Member m t) ≡ true
unfolding step command_of is_same
member_added w m t (Some r) is added = let told = rw is at added in cc
member_added w m t None is added =
    let free = none_refused _ _ _ (none_refused _ _ _ is).1 in
    rw is (ap (is_clerk m) (mine w t (caller.Clerk m) _ refl (absent _ free.0)) ∙ name_itself m)

holder_added : (w : World) (h m : Name) (t : Token) (o : Option Refusal) → new_holder_refusal w m h t ≡ o → outcome_of (step w (caller.Clerk m) (command_of (Holder h m t))).reply ≡ Added → is_same (step w (caller.Clerk m) (command_of (Holder h m t))).world (Holder h m t) ≡ true
unfolding step command_of is_same
holder_added w h m t (Some r) is added = let told = rw is at added in cc
holder_added w h m t None is added =
    let found = none_refused _ _ _ (none_refused _ _ _ is).1 in
    let free = none_refused _ _ _ found.1 in
    rw is (both true true _ _ (λ e. ap (is_of m) (get-inserted w.holders h m) ∙ name_itself m) (λ e. ap (is_holder h) (mine w t (caller.Holder h) _ refl (absent _ free.0)) ∙ name_itself h) refl)

purse_added : (w : World) (p h m : Name) (o : Option Refusal) → new_purse_refusal w m p h ≡ o → outcome_of (step w (caller.Clerk m) (command_of (Purse p h))).reply ≡ Added → is_same (step w (caller.Clerk m) (command_of (Purse p h))).world (Purse p h) ≡ true
unfolding step command_of is_same
purse_added w p h m (Some r) is added = let told = rw is at added in cc
purse_added w p h m None is added = rw is (ap (λ o. is_holders h (option_map (λ (r : Row). r.holder) o)) (get-inserted w.rows p (new_row h p)) ∙ name_itself h)

purse_case : (w : World) (p h : Name) (o : Option Name) → (asked w (Purse p h) (option_map (λ m. caller.Clerk m) o)).outcome ≡ Added → is_same (asked w (Purse p h) (option_map (λ m. caller.Clerk m) o)).world (Purse p h) ≡ true
purse_case w p h None added = cc
purse_case w p h (Some m) added = purse_added w p h m _ refl added

asked_same : (w : World) (row : RollRow) → (asked w row (asker w row)).outcome ≡ Added → is_same (asked w row (asker w row)).world row ≡ true
unfolding asker
asked_same w (Member m t) added = member_added w m t _ refl added
asked_same w (Holder h m t) added = holder_added w h m t _ refl added
asked_same w (Purse p h) added = purse_case w p h (fmap.get w.holders h) added

imported_case : (w : World) (row : RollRow) (b : Bool) → is_same w row ≡ b → (row_imported w row).outcome ≡ Added → is_same (row_imported w row).world row ≡ true
unfolding row_imported
imported_case w row true is added = let told = rw is at added in cc
imported_case w row false is added = rw is (asked_same w row (rw is at added))

pub added_same : (w : World) (row : RollRow) → (row_imported w row).outcome ≡ Added → is_same (row_imported w row).world row ≡ true
added_same w row added = imported_case w row _ refl added

-- ---- the rows of an import

asked_stays : (w : World) (row : RollRow) (o : Option Caller) → Stays w (asked w row o).world
asked_stays w row None = stays_itself w
asked_stays w row (Some c) = step_stays w c (command_of row)

row_stays_case : (w : World) (row : RollRow) (b : Bool) → is_same w row ≡ b → Stays w (row_imported w row).world
unfolding row_imported
row_stays_case w row true is = rw is (stays_itself w)
row_stays_case w row false is = rw is (asked_stays w row (asker w row))

spelled_stays : (w : World) (o : Option RollRow) → Stays w (spelled_imported w o).world
spelled_stays w None = stays_itself w
spelled_stays w (Some row) = row_stays_case w row _ refl

pub import_stays : (i : Import) (rs : List Fields) → Stays i.world (after_records i rs).world
import_stays i [] = stays_itself i.world
import_stays i (r ∷ rs) = stays_on i.world (record_imported i.world r).world (after_records (after_record i r) rs).world (spelled_stays i.world (row_of r)) (import_stays (after_record i r) rs)

-- a row that was found the same is same afterwards: a command that is asked for comes to something else
reply_case : (r : Reply) (x : Bool) → outcome_of r ≡ Same → x ≡ true
reply_case (reply.Refused r) x found = cc
reply_case r x found = cc

asked_case : (w : World) (row : RollRow) (o : Option Caller) (x : Bool) → (asked w row o).outcome ≡ Same → x ≡ true
asked_case w row None x found = cc
asked_case w row (Some c) x found = reply_case (step w c (command_of row)).reply x found

found_case : (w : World) (row : RollRow) (b : Bool) → is_same w row ≡ b → (row_imported w row).outcome ≡ Same → is_same (row_imported w row).world row ≡ true
unfolding row_imported
found_case w row true is found = rw is is
found_case w row false is found = asked_case w row (asker w row) _ (rw is at found)

-- a row that wasn't refused is same in each World in which what stood then stands
standing_case : (w v : World) (row : RollRow) (x : RowOutcome) → (row_imported w row).outcome ≡ x → Stays (row_imported w row).world v → AllByRecursion (IsSame v) (row_standing (Some row) x)
standing_case w v row Added is stays = (same_stays _ v row stays (added_same w row is), tt)
standing_case w v row Same is stays = (same_stays _ v row stays (found_case w row _ refl is), tt)
standing_case w v row (Refused why) is stays = tt

one_standing : (w v : World) (o : Option RollRow) → Stays (spelled_imported w o).world v → AllByRecursion (IsSame v) (row_standing o (spelled_imported w o).outcome)
one_standing w v None stays = tt
one_standing w v (Some row) stays = standing_case w v row _ refl stays

pub all_standing : (i : Import) (rs : List Fields) → AllByRecursion (IsSame (after_records i rs).world) (rows_standing i.world rs)
all_standing i [] = tt
all_standing i (r ∷ rs) =
    all_append (IsSame (after_records (after_record i r) rs).world) _ (rows_standing (record_imported i.world r).world rs)
    (one_standing i.world _ (row_of r) (import_stays (after_record i r) rs)) (all_standing (after_record i r) rs)

-- ---- an import that comes again

-- a row that is same is counted as such
same_again : (v : World) (row : RollRow) → is_same v row ≡ true → (row_imported v row).outcome ≡ Same
unfolding row_imported
same_again v row is = rw is refl

-- what came of a row wasn't that it was refused
abbrev IsStanding : RowOutcome → Type 0
IsStanding (Refused why) = ⊥
IsStanding outcome = Unit {0}

again_case : (w v : World) (row : RollRow) (x : RowOutcome) → (row_imported w row).outcome ≡ x → IsStanding x → Stays (row_imported w row).world v → (row_imported v row).outcome ≡ Same
again_case w v row Added is stands stays = same_again v row (same_stays _ v row stays (added_same w row is))
again_case w v row Same is stands stays = same_again v row (same_stays _ v row stays (found_case w row _ refl is))
again_case w v row (Refused why) is stands stays = absurd stands

one_again : (w v : World) (o : Option RollRow) → IsStanding (spelled_imported w o).outcome → Stays (spelled_imported w o).world v → (spelled_imported v o).outcome ≡ Same
one_again w v None stands stays = absurd stands
one_again w v (Some row) stands stays = again_case w v row _ refl stands stays

-- the tallies of one row more, where it is the same the second time unless it was refused the first time
tally_case : (s t : Tally) (x y : RowOutcome) → (IsStanding x → y ≡ Same) → (tallied s x).added + (tallied s x).same + t.same ≤ (tallied t y).same + (s.added + s.same)
tally_case s t Added y same = rw (same tt) (omega arith)
tally_case s t Same y same = rw (same tt) (omega arith)
tally_case s t (Refused why) Added same = omega arith
tally_case s t (Refused why) Same same = omega arith
tally_case s t (Refused why) (Refused other) same = omega arith

-- the second import finds each row the same that the first one added or found the same
pub tallies_again : (i j : Import) (rs : List Fields) → Stays (after_records i rs).world j.world
    → (after_records i rs).tally.added + (after_records i rs).tally.same + j.tally.same ≤ (after_records j rs).tally.same + (i.tally.added + i.tally.same)
tallies_again i j [] stays = omega arith
tallies_again i j (r ∷ rs) stays =
    let first : Import = after_record i r in
    let second : Import = after_record j r in
    let then_stays : Stays first.world j.world = stays_on first.world (after_records first rs).world j.world (import_stays first rs) stays in
    let one = tally_case i.tally j.tally _ _ (λ stands. one_again i.world j.world (row_of r) stands then_stays) in
    let rest = tallies_again first second rs (stays_on (after_records first rs).world j.world second.world stays (spelled_stays j.world (row_of r))) in
    omega arith

-- each row is counted
count_case : (t : Tally) (x : RowOutcome) → rows_counted (tallied t x) ≡ rows_counted t + 1
count_case t Added = omega arith
count_case t Same = omega arith
count_case t (Refused why) = let more = length-append t.refused ((record { number = rows_counted t + 1; reason = why }) ∷ []) in omega arith

pub all_counted : (i : Import) (rs : List Fields) → rows_counted (after_records i rs).tally ≡ rows_counted i.tally + length rs
all_counted i [] = omega arith
all_counted i (r ∷ rs) = let one = count_case i.tally (record_imported i.world r).outcome in let rest = all_counted (after_record i r) rs in omega arith

-- where the first import refused nothing, the second adds nothing
pub adds_nothing : (i j : Import) (rs : List Fields) → i.tally ≡ no_rows → j.tally ≡ no_rows → Stays (after_records i rs).world j.world → (after_records i rs).tally.refused ≡ [] → (after_records j rs).tally.added ≡ 0
adds_nothing i j rs none nothing stays whole =
    let first = all_counted i rs in
    let second = all_counted j rs in
    let again = tallies_again i j rs stays in
    let refused : length (after_records i rs).tally.refused ≡ 0 = ap length whole in
    omega (arith, ap (λ (t : Tally). t.added + t.same) none, ap rows_counted none, ap rows_counted nothing, ap (λ (t : Tally). t.same) nothing)
