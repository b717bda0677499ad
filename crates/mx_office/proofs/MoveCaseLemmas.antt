-- Which move each command is: nothing changes, or it is one of ten moves, whose guards tell what stands before it.
use Rattle.std.proofs.Common.{◌≡◌, ℕ, ◌+◌, ◌-◌, ◌≤◌, Bool, true, false, not, cond, ◌&&◌, List, refl, sym, ◌∙◌, ap, subst, Option, Some, None, IsSome, option_map, arith}
use Rattle.std.specs.Prelude.{nat_lt, nat_le, length}
use Rattle.std.proofs.lemmas.Bool.Decides.{nat_tests}
use Rattle.std.specs.FinMap as fmap
use Rattle.mx_pay.specs.Limits.{most_number}
use Rattle.mx_pay.specs.Details.{Details}
use Rattle.mx_pay.specs.Log.{Entries, log_len}
use Rattle.mx_pay.specs.Names.{is_name}
use Rattle.mx_purse.specs.declared.message.Message.TheVariants as message
use Rattle.mx_purse.specs.Operations.{load_refusal, credit_refusal}
use Rattle.mx_book.specs.declared.values.Caller.{Caller}
use Rattle.mx_book.specs.declared.values.Caller.TheVariants.{Operator, Clerk, Holder}
use Rattle.mx_book.specs.declared.values.MemberRow.{MemberRow}
use Rattle.mx_book.specs.declared.values.Totals.{Totals}
use Rattle.mx_book.specs.Conditions.{all_granted}
use Rattle.mx_book.specs.Limits.{most_purses}
use Rattle.mx_book.specs.Reads.{from_row, who_of, purses_of, uncollected_of, tray_of, is_archived, is_settled}
use Rattle.mx_book.specs.World.{World, Row, Holding, Name, Token, is_of_member, all_collected, with_archived, set_row, new_row, change_holding}
use Rattle.mx_book.proofs.PurseLemmas.{change_there}
use Rattle.mx_command.specs.declared.values.Command.{Command}
use Rattle.mx_command.specs.declared.values.Command.TheVariants.{NewMember, Grant, Archive, Clear, NewHolder, NewPurse, Load, Collect, Reconcile, Settle}
use Rattle.mx_command.specs.declared.values.Refusal.{Refusal}
use Rattle.mx_command.specs.declared.values.Refusal.TheVariants.{NoSuchPurse, NotLost, AlreadySettled}
use Rattle.mx_command.specs.declared.values.Reply.{Reply}
use Rattle.mx_command.specs.declared.values.Reply.TheVariants as reply
use Rattle.mx_office.specs.Step.{Deed, Asks, tell, unless, unless_told, idle, in_place, asks, own_holding, on_world, new_member_refusal, new_holder_refusal, new_purse_refusal, float_of, change_member, grant_refusal, loaded_row, new_load_refusal, idle_load_at, idle_load, loaded_world, load_purse, collect_refusal, archive_refusal, may_clear, clear_refusal, settle_refusal, settled_row, with_settled, refusal_of_credit, base}
use Rattle.mx_office.proofs.CaseLemmas.{by_refusal, by_found, new_reference}
use Rattle.mx_office.proofs.OwnLemmas.{absent, present, none_refused, of_there, change_to, is_owned}

-- a World with this row of the member
abbrev pub with_member : World → Name → MemberRow → World
with_member w m row = record w { members = fmap.insert w.members m row }

-- ---- a load

-- what a load that isn't idle is of
pub record IsLoad (w : World) (m p : Name) (amount : ℕ) (reference : Name) : Type 0 where
  pub row : Row
  pub at : fmap.get w.rows p ≡ Some row
  pub member : MemberRow
  pub there : fmap.get w.members m ≡ Some member
  pub owned : is_of_member w m row ≡ true
  pub fresh : fmap.get row.loads reference ≡ None
  pub enough : amount ≤ member.float
  pub free : load_refusal row.holding.purse amount ≡ None

unmapped : {A B : Type 0} (f : A → B) (o : Option A) → option_map f o ≡ None → o ≡ None
unmapped f None e = refl
unmapped f (Some x) e = cc

enough_case : (amount float : ℕ) (before : Option ℕ) (x : Refusal) (o : Option Refusal) (r : Reply) (b : Bool) → nat_lt float amount ≡ b → idle before amount r (cond b (Some x) o) ≡ None → amount ≤ float
enough_case amount float None x o r true t e = cc
enough_case amount float (Some n) x o r true t e = cc
enough_case amount float before x o r false t e = grind arith

free_case : {R : Type 0} (before : Option ℕ) (amount : ℕ) (b : Bool) (x : Refusal) (name : R → Refusal) (o : Option R) (r : Reply) → idle before amount r (cond b (Some x) (option_map name o)) ≡ None → o ≡ None
free_case before amount b x name None r e = refl
free_case None amount false x name (Some y) r e = cc
free_case None amount true x name (Some y) r e = cc
free_case (Some n) amount b x name (Some y) r e = cc

module _ (w : World) (m p : Name) (amount : ℕ) (reference : Name) where
  owned_case : (r : Row) (member : MemberRow) (b : Bool) (x : Reply) → fmap.get w.rows p ≡ Some r → fmap.get w.members m ≡ Some member → is_of_member w m r ≡ b
      → cond b (idle (fmap.get r.loads reference) amount reply.Loaded (new_load_refusal member r amount)) (Some x) ≡ None → IsLoad w m p amount reference
  owned_case r member false x at there t e = cc
  owned_case r member true x at there t e = record {
    row = r;
    at = at;
    member = member;
    there = there;
    owned = t;
    fresh = new_reference _ _ _ _ e;
    enough = enough_case amount member.float _ _ _ _ (nat_lt member.float amount) refl e;
    free = free_case _ amount (nat_lt member.float amount) _ _ _ _ e;
  }

  load_case : (o : Option Row) (u : Option MemberRow) → fmap.get w.rows p ≡ o → fmap.get w.members m ≡ u → idle_load_at w m amount reference o u ≡ None → IsLoad w m p amount reference
  load_case None None at there e = cc
  load_case None (Some member) at there e = cc
  load_case (Some r) None at there e = cc
  load_case (Some r) (Some member) at there e = owned_case r member (is_of_member w m r) _ at there refl e

  pub is_load : idle_load w m p amount reference ≡ None → IsLoad w m p amount reference
  unfolding idle_load
  is_load e = load_case (fmap.get w.rows p) (fmap.get w.members m) refl refl e

  -- and what it does
  pub load_is : (l : IsLoad w m p amount reference)
      → load_purse w m p amount reference ≡ tell (with_member (set_row w p (loaded_row amount reference l.row)) m (record l.member { float = l.member.float - amount })) reply.Loaded
  unfolding idle_load
  load_is l =
      let large : nat_lt l.member.float amount ≡ false = grind (arith, nat_tests, l.enough) in
      let none : idle_load w m p amount reference ≡ None = rw (l.at, l.there, l.owned, l.fresh, large, l.free) refl in
      let fall : MemberRow → MemberRow = λ x. record x { float = x.float - amount } in
      ap (λ o. unless_told w o (tell (loaded_world w m p amount reference) reply.Loaded)) none
      ∙ ap (λ v. tell v reply.Loaded) (ap (λ x. change_member x m fall) (change_there w p (loaded_row amount reference) l.row l.at) ∙ change_to (set_row w p (loaded_row amount reference l.row)) m fall l.member l.there)

-- ---- a settlement

-- what a settlement that isn't refused is of
pub record IsSettlement (w : World) (d : Details) : Type 0 where
  pub row : Row
  pub at : fmap.get w.rows d.from ≡ Some row
  pub fresh : is_settled w d ≡ false
  pub from : is_archived w d.from d ≡ true
  pub to : is_archived w d.to d ≡ true
  pub free : credit_refusal row.holding.purse d.value ≡ None

module _ (w : World) (d : Details) where
  settlement_row : (settled from to : Bool) (o : Option Row) → is_settled w d ≡ settled → is_archived w d.from d ≡ from → is_archived w d.to d ≡ to → fmap.get w.rows d.from ≡ o
      → cond settled (Some AlreadySettled) (cond (from && to) (from_row (Some NotLost) (λ r. option_map refusal_of_credit (credit_refusal r.holding.purse d.value)) o) (Some NotLost)) ≡ None → IsSettlement w d
  settlement_row true from to o s f t at e = cc
  settlement_row false false to o s f t at e = cc
  settlement_row false true false o s f t at e = cc
  settlement_row false true true None s f t at e = cc
  settlement_row false true true (Some r) s f t at e = record { row = r; at = at; fresh = s; from = f; to = t; free = unmapped _ _ e }

  pub is_settlement : settle_refusal w d ≡ None → IsSettlement w d
  unfolding settle_refusal
  is_settlement e = settlement_row (is_settled w d) (is_archived w d.from d) (is_archived w d.to d) (fmap.get w.rows d.from) refl refl refl refl e

-- ---- the moves

-- what is told where nothing changes: a refusal, the names of purses, the sums, or a load that is idle
pub data IsTold (w : World) : Caller → Command → Reply → Type 0 where
  Refuses : (caller : Caller) (c : Command) (r : Refusal) → IsTold w caller c (reply.Refused r)
  Names : (caller : Caller) (c : Command) (names : List Name) → IsTold w caller c (reply.Purses names)
  Sums : (caller : Caller) (c : Command) (sums : Totals) → IsTold w caller c (reply.Reconciled sums)
  Idles : (m p : Name) (amount : ℕ) (reference : Name) (x : Reply) → idle_load w m p amount reference ≡ Some x → IsTold w (Clerk m) (Load p amount reference) x

-- what holds of each move holds of each command; each move is taken with what its guards tell
pub record Moves (w : World) (P : Caller → Command → Deed World → Type 0) : Type 0 where
  pub told : (caller : Caller) (c : Command) (x : Reply) → IsTold w caller c x → P caller c (tell w x)
  pub member : (m : Name) (t : Token) → fmap.get w.members m ≡ None → who_of w t ≡ None
      → P Operator (NewMember m t) (tell (record w { members = fmap.insert w.members m (record { granted = 0; float = 0 }); tokens = fmap.insert w.tokens t (Clerk m) }) reply.Added)
  pub grant : (m : Name) (amount : ℕ) (row : MemberRow) → fmap.get w.members m ≡ Some row → nat_lt most_number (all_granted w + amount) ≡ false → nat_lt most_number (float_of w m + amount) ≡ false
      → P Operator (Grant m amount) (tell (with_member w m (record { granted = row.granted + amount; float = row.float + amount })) reply.Granted)
  pub holder : (m h : Name) (t : Token) (row : MemberRow) → fmap.get w.members m ≡ Some row → fmap.get w.holders h ≡ None → who_of w t ≡ None
      → P (Clerk m) (NewHolder h t) (tell (record w { holders = fmap.insert w.holders h m; tokens = fmap.insert w.tokens t (Holder h) }) reply.Added)
  pub purse : (m p h : Name) → IsSome (fmap.get w.holders h) → fmap.get w.rows p ≡ None → nat_le most_purses (length (purses_of w h)) ≡ false → P (Clerk m) (NewPurse p h) (tell (set_row w p (new_row h p)) reply.Added)
  pub load : (m p : Name) (amount : ℕ) (reference : Name) (l : IsLoad w m p amount reference)
      → P (Clerk m) (Load p amount reference) (tell (with_member (set_row w p (loaded_row amount reference l.row)) m (record l.member { float = l.member.float - amount })) reply.Loaded)
  pub collect : (m : Name) (row : MemberRow) → fmap.get w.members m ≡ Some row → nat_lt most_number (float_of w m + uncollected_of w m) ≡ false
      → P (Clerk m) Collect (tell (with_member (all_collected w m) m (record row { float = row.float + uncollected_of w m })) (reply.Collected (uncollected_of w m)))
  pub archive : (p : Name) → P Operator (Archive p) (tell (with_archived w p) (reply.Archived (log_len (tray_of w p))))
  pub clear : (p : Name) (set : Entries) → not (may_clear w p set) ≡ false → P Operator (Clear p set) (record { state = w; reply = reply.Sent; sent = Some (p, message.Clear set); result = None })
  pub settle : (d : Details) (s : IsSettlement w d) → P Operator (Settle d) (tell (with_settled (set_row w d.from (settled_row d s.row)) d) reply.Settled)
  pub own : (h : Name) (c : Command) (p : Name) (f : Holding → Deed Holding) (r : Row) → asks c ≡ Asks.OnPurse p f → fmap.get w.rows p ≡ Some r → is_name h r.holder ≡ true
      → P (Holder h) c (in_place (λ b. set_row w p (record r { holding = b })) (f r.holding))

module _ (w : World) (P : Caller → Command → Deed World → Type 0) (moves : Moves w P) where
  unless_done : (caller : Caller) (c : Command) (o : Option Refusal) (d : Deed World) → (o ≡ None → P caller c d) → P caller c (unless w o d)
  unless_done caller c o d done = by_refusal (P caller c) w o d (λ r. moves.told caller c _ (Refuses caller c r)) done

  by_asks : (h : Name) (c : Command) (x : Asks) → asks c ≡ x → P (Holder h) c (on_world w h x)
  by_asks h c Asks.Names e = moves.told (Holder h) c _ (Names (Holder h) c _)
  by_asks h c Asks.NotAHolders e = moves.told (Holder h) c _ (Refuses (Holder h) c _)
  by_asks h c (Asks.OnPurse p f) e = by_found (P (Holder h) c) w NoSuchPurse (own_holding w h p) (λ a. in_place (λ b. change_holding w p (λ _. b)) (f a)) (moves.told (Holder h) c _ (Refuses (Holder h) c _)) (λ a own.
      let r = is_owned w h p a own in
      subst (λ v. P (Holder h) c (in_place (λ b. v) (f a))) (sym (change_there w p (λ x. record x { holding = (f a).state }) r.row r.at))
      (subst (λ x. P (Holder h) c (in_place (λ b. set_row w p (record r.row { holding = b })) (f x))) r.holding (moves.own h c p f r.row e r.at r.owned)))

  pub by_moves : (caller : Caller) (c : Command) → P caller c (base w caller c)
  by_moves Operator (NewMember m t) = unless_done _ _ (new_member_refusal w m t) _ (λ e.
      let free = none_refused _ _ _ e in
      moves.member m t (absent _ free.0) (absent _ (none_refused _ _ _ free.1).0))
  by_moves Operator (Grant m amount) = unless_done _ _ (grant_refusal w m amount) _ (λ e.
      let there = none_refused _ _ _ e in
      let small = none_refused _ _ _ there.1 in
      let row = present (fmap.get w.members m) there.0 in
      let rise : MemberRow → MemberRow = λ x. record { granted = x.granted + amount; float = x.float + amount } in
      subst (λ v. P Operator (Grant m amount) (tell v reply.Granted)) (sym (change_to w m rise row.0 row.1)) (moves.grant m amount row.0 row.1 small.0 (none_refused _ _ _ small.1).0))
  by_moves Operator (Archive p) = unless_done _ _ (archive_refusal w p) _ (λ e. moves.archive p)
  by_moves Operator (Clear p set) = unless_done _ _ (clear_refusal w p set) _ (λ e. moves.clear p set (none_refused _ _ _ (none_refused _ _ _ e).1).0)
  by_moves Operator Reconcile = moves.told Operator Reconcile _ (Sums Operator Reconcile _)
  by_moves Operator (Settle d) = unless_done _ _ (settle_refusal w d) _ (λ e.
      let s = is_settlement w d e in
      subst (λ v. P Operator (Settle d) (tell (with_settled v d) reply.Settled)) (sym (change_there w d.from (settled_row d) s.row s.at)) (moves.settle d s))
  by_moves (Clerk m) (NewHolder h t) = unless_done _ _ (new_holder_refusal w m h t) _ (λ e.
      let there = none_refused _ _ _ e in
      let free = none_refused _ _ _ there.1 in
      let row = present (fmap.get w.members m) there.0 in
      moves.holder m h t row.0 row.1 (absent _ free.0) (absent _ (none_refused _ _ _ free.1).0))
  by_moves (Clerk m) (NewPurse p h) = unless_done _ _ (new_purse_refusal w m p h) _ (λ e.
      let holder = none_refused _ _ _ e in
      let free = none_refused _ _ _ holder.1 in
      moves.purse m p h (of_there m _ holder.0) (absent _ free.0) (none_refused _ _ _ free.1).0)
  by_moves (Clerk m) (Load p amount reference) = by_idle (idle_load w m p amount reference) refl
    where
      by_idle : (o : Option Reply) → idle_load w m p amount reference ≡ o → P (Clerk m) (Load p amount reference) (load_purse w m p amount reference)
      by_idle (Some x) e =
          subst (λ o. P (Clerk m) (Load p amount reference) (unless_told w o (tell (loaded_world w m p amount reference) reply.Loaded))) (sym e) (moves.told (Clerk m) (Load p amount reference) x (Idles m p amount reference x e))
      by_idle None e = let l = is_load w m p amount reference e in subst (P (Clerk m) (Load p amount reference)) (sym (load_is w m p amount reference l)) (moves.load m p amount reference l)
  by_moves (Clerk m) Collect = unless_done _ _ (collect_refusal w m) _ (λ e.
      let there = none_refused _ _ _ e in
      let row = present (fmap.get w.members m) there.0 in
      let rise : MemberRow → MemberRow = λ x. record x { float = x.float + uncollected_of w m } in
      subst (λ v. P (Clerk m) Collect (tell v (reply.Collected (uncollected_of w m)))) (sym (change_to (all_collected w m) m rise row.0 row.1)) (moves.collect m row.0 row.1 (none_refused _ _ _ there.1).0))
  by_moves (Holder h) c = by_asks h c (asks c) refl
  by_moves Operator c = moves.told Operator c _ (Refuses Operator c _)
  by_moves (Clerk m) c = moves.told (Clerk m) c _ (Refuses (Clerk m) c _)
