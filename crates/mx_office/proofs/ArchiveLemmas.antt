-- Reading a log, archives and clears: each decision is the step's.
use Rattle.std.proofs.Common.{◌≡◌, ℕ, zero, suc, Bool, true, false, cond, not, List, [], ◌∷◌, ◌++◌, Option, Some, None, IsSome, refl, sym, ◌∙◌, ap, subst, arith, take, add-one, nat_eq, ◌+◌, is_some, is_none, option_map}
use Rattle.std.specs.Prelude.{nat_lt, ◌&&◌, slice_get}
use Rattle.std.specs.List.{list_all, list_any}
use Rattle.std.proofs.lemmas.List.{take_all}
use Rattle.std.specs.Cmp.{first_so, second_so}
use Rattle.std.proofs.lemmas.Bool.Decides.{nat_tests}
use Rattle.std.specs.FinMap as fmap
use Rattle.mx_pay.specs.Names.{is_name}
use Rattle.mx_pay.specs.Details.{Details, is_details}
use Rattle.mx_pay.proofs.CodeLemmas.{len_logged}
use Rattle.mx_pay.specs.Log.{Entries, IsLogValue, entry_at, has_logged, log_len, logged}
use Rattle.mx_pay.proofs.SameLemmas.{one_of, details_itself}
use Rattle.mx_purse.specs.State.{State}
use Rattle.mx_purse.specs.Operations.{aborted, pending, read_entry}
use Rattle.mx_purse.specs.declared.message.Message.TheVariants.{Clear}
use Rattle.mx_purse.proofs.OperationLemmas.{aborted_is}
use Rattle.mx_book.specs.declared.edits.Edit.{Edit}
use Rattle.mx_book.specs.declared.edits.Edit.TheVariants.{SetPurse, AddTray, ArchiveTray}
use Rattle.mx_book.specs.declared.values.Line.{Line}
use Rattle.mx_book.specs.World.{World, Name, set_row, with_archived}
use Rattle.mx_book.specs.Conditions.{IsWorld, IsEntry, MayClear}
use Rattle.mx_book.specs.Reads.{has_purse, own_purse, is_archived, tray_of}
use Rattle.mx_book.specs.Edits.{AllSuit, Suits, edited, all_edited}
use Rattle.mx_book.proofs.NameLemmas.{get-inserted}
use Rattle.mx_book.proofs.PurseLemmas.{with_lines, line_edits, edits_append, suits_append, purse_leads, purse_suits, purse_stays, put_stays}
use Rattle.mx_book.proofs.ResultLemmas.{archive_suits, archived_stays, empty_tray, result_stays, tray_has}
use Rattle.mx_office.specs.declared.values.Decided.{Decided}
use Rattle.mx_command.specs.declared.values.Refusal.TheVariants.{NoSuchPurse, NotArchived}
use Rattle.mx_command.specs.declared.values.Reply.TheVariants as reply
use Rattle.mx_office.specs.Step.{Deed, tell, unless, in_place, on_own, abort_line, listed, with_aborted, read_log, archive, archive_refusal, may_clear, clear, clear_refusal, is_kept}
use Rattle.mx_office.specs.Decides.{Decides, placed, put_edits, not_kept, read_edits}
use Rattle.mx_office.proofs.DecideLemmas.{edits_decide, told_decides, edit_decides, refused_decides}
use Rattle.mx_office.proofs.AccountLemmas.{IsOwn, IsNext, Follows, in_tray, is_own, own_there, is_next, puts}
use Rattle.mx_office.proofs.CommandLemmas.{abort_follows, whole}
use Rattle.mx_office.proofs.OwnLemmas.{first, next, none_left}

-- ---- a purse that is there

none_is : {X : Type 0} (o : Option X) (b : Bool) → is_some o ≡ b → is_none o ≡ not b
none_is None b is = ap not is
none_is (Some x) b is = ap not is

there : {X : Type 0} (o : Option X) → is_some o ≡ true → IsSome o
there None f = cc
there (Some x) f = refl

-- ---- archives

module _ (w : World) (p : Name) (d : Decided) (is : IsWorld w) where
  pub archive_refused : has_purse w p ≡ false → d.reply ≡ reply.Refused NoSuchPurse → d.edits ≡ [] → Decides w (archive w p) d
  archive_refused none = refused_decides w (archive_refusal w p) _ NoSuchPurse d is (first _ _ _ (none_is _ _ none))

  may_archive : has_purse w p ≡ true → archive_refusal w p ≡ None
  may_archive found = next _ _ _ _ (none_is _ _ found) none_left

  pub nothing_archived : has_purse w p ≡ true → log_len (tray_of w p) ≡ 0 → d.reply ≡ reply.Archived 0 → d.edits ≡ [] → Decides w (archive w p) d
  nothing_archived found none = told_decides w (archive w p) (reply.Archived 0) d is
      (ap (λ o. unless w o (tell (with_archived w p) (reply.Archived (log_len (tray_of w p))))) (may_archive found) ∙ (λ i. tell (empty_tray w p none i) (reply.Archived (none i))))

  pub archive_decides : (n : ℕ) → has_purse w p ≡ true → n ≡ log_len (tray_of w p) → d.reply ≡ reply.Archived n → d.edits ≡ ArchiveTray p ∷ [] → Decides w (archive w p) d
  archive_decides n found n_is reply_is edits_is =
      edit_decides w (archive w p) (ArchiveTray p) (reply.Archived (log_len (tray_of w p))) d
      (ap (λ o. unless w o (tell (with_archived w p) (reply.Archived (log_len (tray_of w p))))) (may_archive found))
      (archive_suits w p is (there _ found)) (archived_stays w p is) (reply_is ∙ ap reply.Archived n_is) edits_is

-- ---- clears

-- a set that may be cleared is archived in full, and some
pub clear_means : (w : World) (p : Name) (set : Entries) → may_clear w p set ≡ true → MayClear w p set
unfolding may_clear
clear_means w p set may =
    let some = first_so (nat_lt 0 (log_len set)) _ may in
    let all = second_so (nat_lt 0 (log_len set)) _ may in
    record { some = grind (arith, nat_tests, some); archived = λ d has. one_of (is_archived w p) d (logged set) all (sym (fmap.contains_key-keys set d) ∙ has) }

-- the details of a set are asked one after the other
module _ (f : Details → Bool) where
  one_more : (ds : List Details) (i : ℕ) (d : Details) → slice_get ds i ≡ Some d → list_all f (take i ds) ≡ true → f d ≡ true → list_all f (take (suc i) ds) ≡ true
  one_more [] i d at all passes = cc
  one_more (e ∷ es) zero d at all passes = grind arith
  one_more (e ∷ es) (suc i) d at all passes = grind (arith, one_more es i d)

  one_fails : (ds : List Details) (i : ℕ) (d : Details) → slice_get ds i ≡ Some d → f d ≡ false → list_all f ds ≡ false
  one_fails [] i d at fails = cc
  one_fails (e ∷ es) zero d at fails = grind arith
  one_fails (e ∷ es) (suc i) d at fails = grind (arith, one_fails es i d)

-- one of them isn't archived
pub one_lacks : (w : World) (p : Name) (set : Entries) (i : ℕ) (d : Details) → entry_at set i ≡ Some d → false ≡ is_archived w p d → false ≡ may_clear w p set
unfolding may_clear
one_lacks w p set i d at lacks = sym (second_fails (nat_lt 0 (log_len set)) _ (one_fails (is_archived w p) (logged set) i d at (sym lacks)))
  where
    second_fails : (a b : Bool) → b ≡ false → a && b ≡ false
    second_fails true b e = e
    second_fails false b e = refl

-- those before a place are archived, and what is at the place is
pub archived_more : (w : World) (p : Name) (set : Entries) (i : ℕ) (d : Details) → entry_at set i ≡ Some d → list_all (is_archived w p) (take i (logged set)) ≡ true → true ≡ is_archived w p d → list_all (is_archived w p) (take (i + 1) (logged set)) ≡ true
archived_more w p set i d at all archived = rw add-one (one_more (is_archived w p) (logged set) i d at all (sym archived))

-- all of them are archived
pub all_archived : (w : World) (p : Name) (set : Entries) (n : ℕ) → n ≡ log_len set → list_all (is_archived w p) (take n (logged set)) ≡ true → not (nat_eq n 0) ≡ may_clear w p set
unfolding may_clear
all_archived w p set n n_is all =
    let whole : list_all (is_archived w p) (logged set) ≡ true = sym (ap (list_all (is_archived w p)) (take_all n (logged set) (omega (arith, len_logged set, n_is)))) ∙ all in
    some n n_is ∙ ap (λ b. nat_lt 0 (log_len set) && b) (sym whole)
  where
    some : (k : ℕ) → k ≡ log_len set → not (nat_eq k 0) ≡ (nat_lt 0 (log_len set) && true)
    some k is = grind (arith, nat_tests, is)

module _ (w : World) (p : Name) (set : Entries) (d : Decided) (is : IsWorld w) where
  pub no_clear : has_purse w p ≡ false → d.reply ≡ reply.Refused NoSuchPurse → d.edits ≡ [] → Decides w (clear w p set) d
  no_clear none = refused_decides w (clear_refusal w p set) _ NoSuchPurse d is (first _ _ _ (none_is _ _ none))

  pub not_archived : has_purse w p ≡ true → may_clear w p set ≡ false → d.reply ≡ reply.Refused NotArchived → d.edits ≡ [] → Decides w (clear w p set) d
  not_archived found lacks = refused_decides w (clear_refusal w p set) _ NotArchived d is (next _ _ _ _ (none_is _ _ found) (first _ _ _ (ap not lacks)))

  pub clear_decides : IsLogValue set → has_purse w p ≡ true → may_clear w p set ≡ true → d.reply ≡ reply.Sent → d.edits ≡ put_edits (placed w (Some (p, Clear set))) → Decides w (clear w p set) d
  clear_decides valid found may =
      let x : Deed World = record { state = w; reply = reply.Sent; sent = Some (p, Clear set); result = None } in
      let edits = puts w (Some (p, Clear set)) in
      let free : clear_refusal w p set ≡ None = next _ _ _ _ (none_is _ _ found) (next _ _ _ _ (ap not may) none_left) in
      edits_decide w (clear w p set) x (put_edits (placed w (Some (p, Clear set)))) d (ap (λ o. unless w o x) free)
      edits.suits edits.leads (put_stays w p (Clear set) valid (clear_means w p set may) is)

-- ---- reading a log

-- a result that lies in the tray, one that is archived, and one that isn't kept yet
laid_is : (w : World) (p : Name) (log : Entries) (x : Details) (b : Bool) → log ≡ tray_of w p → b ≡ has_logged log x → fmap.contains_key w.tray (p, x) ≡ b
laid_is w p log x b log_is has = sym (has ∙ ap (λ l. has_logged l x) log_is ∙ tray_has w p x)

pub laid_kept : (w : World) (p : Name) (log : Entries) (x : Details) → log ≡ tray_of w p → true ≡ has_logged log x → None ≡ not_kept w p (Some x)
laid_kept w p log x log_is has = rw (laid_is w p log x true log_is has) refl

pub archived_kept : (w : World) (p : Name) (log : Entries) (x : Details) → log ≡ tray_of w p → false ≡ has_logged log x → true ≡ is_archived w p x → None ≡ not_kept w p (Some x)
archived_kept w p log x log_is has archived = rw (laid_is w p log x false log_is has, sym archived) refl

pub new_result : (w : World) (p : Name) (log : Entries) (x : Details) → log ≡ tray_of w p → false ≡ has_logged log x → false ≡ is_archived w p x → Some x ≡ not_kept w p (Some x)
new_result w p log x log_is has archived = rw (laid_is w p log x false log_is has, sym archived) refl

-- what stands at a place of a list is among it
at_place : (d : Details) (i : ℕ) (ds : List Details) → slice_get ds i ≡ Some d → list_any (is_details d) ds ≡ true
at_place d i [] at = cc
at_place d zero (e ∷ ds) at = grind (arith, details_itself d)
at_place d (suc i) (e ∷ ds) at = grind (arith, at_place d i ds)

entry_logged : (log : Entries) (i : ℕ) (d : Details) → entry_at log i ≡ Some d → has_logged log d ≡ true
entry_logged log i d at = fmap.contains_key-keys log d ∙ at_place d i (logged log) at

module _ (w : World) (h p : Name) (q : State) (place : ℕ) (d : Decided) (is : IsWorld w) (e : own_purse w h p ≡ Some q) where
  abbrev is_owner : IsOwn w h p q
  is_owner = is_own w h p q e

  abbrev purse_at_rest : State
  purse_at_rest = aborted q

  abbrev abort_lines : List Line
  abort_lines = listed (abort_line purse_at_rest (pending q.status))

  abbrev with_read : World
  with_read = set_row w p (with_lines is_owner.row purse_at_rest abort_lines)

  abbrev firsts : List Edit
  firsts = SetPurse purse_at_rest ∷ line_edits p abort_lines

  -- what is read is sent in the purse's name
  abbrev sent : Option Details → Option (Name × Details)
  sent = option_map (λ x. (p, x))

  abbrev read_deed : Option Details → Deed World
  read_deed entry = record { state = with_read; reply = reply.Read entry; sent = None; result = sent entry }

  abbrev follows : Follows (in_tray w p) q purse_at_rest abort_lines
  follows = abort_follows (in_tray w p) q purse_at_rest (whole w h p q is is_owner) refl refl refl (aborted_is q (whole w h p q is is_owner))

  abbrev after : IsNext w p is_owner.row purse_at_rest abort_lines
  after = is_next w p (λ x. is_name h x.holder) q is_owner purse_at_rest abort_lines is follows

  lead : all_edited w firsts ≡ with_read
  lead = purse_leads w p is_owner.row purse_at_rest abort_lines is_owner.at after.named

  suits : AllSuit w firsts
  suits = purse_suits w p is_owner.row purse_at_rest abort_lines is_owner.at after.named after.numbered

  with_read_is : IsWorld with_read
  with_read_is = purse_stays w p is_owner.row purse_at_rest abort_lines is_owner.at after.named follows.whole after.numbered after.counted follows.valid after.logged is

  read_is : on_own w h p (read_log place) ≡ read_deed (read_entry q place)
  unfolding read_log
  read_is =
      own_there w h p q is_owner (read_log place)
      ∙ (λ i. let x : State = is_owner.purse i in in_place (λ b. set_row w p (record is_owner.row { holding = b })) (record { state = with_aborted (record is_owner.row.holding { purse = x }) (aborted x); reply = reply.Read (read_entry x place); sent = None; result = option_map (λ y. (x.name, y)) (read_entry x place) }))
      ∙ ap (λ n. record { state = with_read; reply = reply.Read (read_entry q place); sent = None; result = option_map (λ y. (n, y)) (read_entry q place) }) after.named

  entry_is : (x : Details) → read_entry q place ≡ Some x → IsEntry with_read p x
  entry_is x at = (with_lines is_owner.row purse_at_rest abort_lines, get-inserted w.rows p (with_lines is_owner.row purse_at_rest abort_lines), entry_logged purse_at_rest.log place x at)

  -- a result that is kept, or not
  kept_case : (x : Details) (b : Bool) → read_entry q place ≡ Some x → is_kept w (p, x) ≡ b → d.reply ≡ reply.Read (Some x) → d.edits ≡ read_edits purse_at_rest (abort_line purse_at_rest (pending q.status)) (cond b None (Some x)) → Decides w (on_own w h p (read_log place)) d
  kept_case x true at kept reply_is edits_is =
      edits_decide w (on_own w h p (read_log place)) (read_deed (Some x)) firsts d (read_is ∙ ap read_deed at)
      suits (lead ∙ sym (ap (λ b. cond b with_read (edited with_read (AddTray p x))) kept)) (rw kept with_read_is) reply_is (edits_is ∙ after.edits)
  kept_case x false at kept reply_is edits_is =
      let suit : Suits with_read (AddTray p x) = (ap is_some (get-inserted w.rows p (with_lines is_owner.row purse_at_rest abort_lines)), grind (arith, kept), grind (arith, kept)) in
      edits_decide w (on_own w h p (read_log place)) (read_deed (Some x)) (firsts ++ AddTray p x ∷ []) d (read_is ∙ ap read_deed at)
      (suits_append w firsts (AddTray p x ∷ []) suits (subst (λ v. AllSuit v (AddTray p x ∷ [])) (sym lead) (suit, tt)))
      (edits_append w firsts (AddTray p x ∷ []) ∙ ap (λ v. edited v (AddTray p x)) lead ∙ sym (ap (λ b. cond b with_read (edited with_read (AddTray p x))) kept))
      (rw kept (result_stays with_read p x suit (entry_is x at) with_read_is)) reply_is (edits_is ∙ (λ i. after.edits i ++ AddTray (after.named i) x ∷ []))

  pub read_decides : (entry : Option Details) → entry ≡ read_entry q place → d.reply ≡ reply.Read entry → d.edits ≡ read_edits purse_at_rest (abort_line purse_at_rest (pending q.status)) (not_kept w p entry) → Decides w (on_own w h p (read_log place)) d
  read_decides None at reply_is edits_is =
      edits_decide w (on_own w h p (read_log place)) (read_deed None) firsts d (read_is ∙ ap read_deed (sym at)) suits lead with_read_is reply_is (edits_is ∙ after.edits)
  read_decides (Some x) at reply_is edits_is = kept_case x (is_kept w (p, x)) (sym at) refl reply_is edits_is
