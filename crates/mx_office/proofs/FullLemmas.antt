-- No command is refused because a purse or a float is full.
use Rattle.std.proofs.Common.{◌≡◌, ℕ, ◌+◌, ◌≤◌, Bool, true, false, cond, ◌&&◌, List, [], ◌∷◌, refl, ◌∙◌, ap, Option, Some, None, option_map, arith, is_none}
use Rattle.std.specs.Prelude.{nat_lt, nat_le, ◌==◌}
use Rattle.std.proofs.lemmas.Bool.Decides.{nat_tests}
use Rattle.std.specs.FinMap as fmap
use Rattle.mx_pay.specs.Limits.{most_number}
use Rattle.mx_pay.specs.Details.{Details}
use Rattle.mx_purse.specs.declared.refusals.StartRefusal.{StartRefusal}
use Rattle.mx_purse.specs.declared.refusals.StartRefusal.TheVariants as start
use Rattle.mx_purse.specs.declared.refusals.LoadRefusal.TheVariants as load_as
use Rattle.mx_purse.specs.declared.refusals.RedeemRefusal.{RedeemRefusal}
use Rattle.mx_purse.specs.declared.refusals.RedeemRefusal.TheVariants as redeem_as
use Rattle.mx_purse.specs.declared.refusals.CreditRefusal.TheVariants as credit_as
use Rattle.mx_purse.specs.Operations.{start_from_refusal, start_to_refusal, load_refusal, redeem_refusal, credit_refusal}
use Rattle.mx_book.specs.declared.values.Caller.{Caller}
use Rattle.mx_book.specs.declared.values.Caller.TheVariants.{Operator, Clerk, Holder}
use Rattle.mx_book.specs.declared.values.MemberRow.{MemberRow}
use Rattle.mx_book.specs.Conditions.{IsWorld, all_granted}
use Rattle.mx_book.specs.Reads.{from_row, uncollected_of, is_archived, is_settled}
use Rattle.mx_book.specs.World.{World, Row, Holding, Name, is_of_member, change_holding}
use Rattle.mx_command.specs.declared.values.Command.{Command}
use Rattle.mx_command.specs.declared.values.Command.TheVariants.{NewMember, Grant, Archive, Clear, NewHolder, NewPurse, Load, Collect, Reconcile, Settle, Show, StartFrom, StartTo, Handle, Discard, Abort, ReadLog, Redeem, Inbox, Statement}
use Rattle.mx_command.specs.declared.values.Refusal.{Refusal}
use Rattle.mx_command.specs.declared.values.Refusal.TheVariants as refusal
use Rattle.mx_command.specs.declared.values.Reply.{Reply}
use Rattle.mx_command.specs.declared.values.Reply.TheVariants as reply
use Rattle.mx_office.specs.Balance.{IsBalanced}
use Rattle.mx_office.specs.Conservation.{IsNeverFull}
use Rattle.mx_office.specs.Reachable.{IsReachable}
use Rattle.mx_office.specs.Step.{Deed, Asks, unless, unless_told, on_found, idle, first_refusal, refusal_of_start, refusal_of_load, refusal_of_redeem, refusal_of_credit, settle_refusal, in_place, own_holding, on_world, asks, float_of, show, start_from, start_to, handle, discard, abort, read_log, redeem, inbox, statement, new_load_refusal, idle_load_at, idle_load, new_member_refusal, new_holder_refusal, new_purse_refusal, grant_refusal, collect_refusal, archive_refusal, clear_refusal, base, step}
use Rattle.mx_office.proofs.BalanceCommandLemmas.{reachable_balanced}
use Rattle.mx_office.proofs.CapLemmas.{flow_fits, load_fits, grant_fits, collect_fits}
use Rattle.mx_office.proofs.MoneyLemmas.{float_there}
use Rattle.mx_office.proofs.OwnLemmas.{present}
use Rattle.mx_office.proofs.SeenLemmas.{clash}
use Rattle.mx_office.proofs.SeenWorldLemmas.{archived_flows}
use Rattle.mx_office.proofs.SaneLemmas.{Sane}
use Rattle.mx_office.proofs.SaneCommandLemmas.{reachable_sane}
use Rattle.mx_office.proofs.StepLemmas.{reachable_world}

-- ---- refusals that say that something is full

abbrev tells_full : Refusal → Bool
tells_full refusal.OverCap = true
tells_full refusal.FloatFull = true
tells_full r = false

abbrev is_full : Reply → Bool
is_full (reply.Refused r) = tells_full r
is_full r = false

abbrev none_full : Option Refusal → Bool
none_full None = false
none_full (Some r) = tells_full r

abbrev reply_full : Option Reply → Bool
reply_full None = false
reply_full (Some r) = is_full r

is_never : (r : Reply) → is_full r ≡ false → IsNeverFull r
is_never r f = (λ e. clash _ (ap is_full e ∙ refl) f, λ e. clash _ (ap is_full e ∙ refl) f)

-- each test that holds, where those before it don't, is of another refusal
abbrev EachOther : List (Bool × Refusal) → Type 0
EachOther [] = Unit {0}
EachOther (x ∷ xs) = (x.0 ≡ true → tells_full x.1 ≡ false) × (x.0 ≡ false → EachOther xs)

first_case : (b : Bool) (r : Refusal) (o : Option Refusal) → (b ≡ true → tells_full r ≡ false) → (b ≡ false → none_full o ≡ false) → none_full (cond b (Some r) o) ≡ false
first_case true r o h rest = h refl
first_case false r o h rest = rest refl

first_other : (xs : List (Bool × Refusal)) → EachOther xs → none_full (first_refusal xs) ≡ false
unfolding first_refusal
first_other [] h = refl
first_other (x ∷ xs) h = first_case x.0 x.1 (first_refusal xs) h.0 (λ f. first_other xs (h.1 f))

unless_other : {S : Type 0} (s : S) (o : Option Refusal) (d : Deed S) → none_full o ≡ false → is_full d.reply ≡ false → is_full (unless s o d).reply ≡ false
unless_other s None d h rest = rest
unless_other s (Some r) d h rest = h

told_other : {S : Type 0} (s : S) (o : Option Reply) (d : Deed S) → reply_full o ≡ false → is_full d.reply ≡ false → is_full (unless_told s o d).reply ≡ false
told_other s None d h rest = rest
told_other s (Some r) d h rest = h

-- ---- the rules on a purse

start_other : (o : Option StartRefusal) → none_full (option_map refusal_of_start o) ≡ false
start_other None = refl
start_other (Some start.SamePurse) = refl
start_other (Some start.NotEnough) = refl
start_other (Some start.LogFull) = refl
start_other (Some start.Worn) = refl

redeem_other : (o : Option RedeemRefusal) → none_full (option_map refusal_of_redeem o) ≡ false
redeem_other None = refl
redeem_other (Some redeem_as.NotEnough) = refl
redeem_other (Some redeem_as.Worn) = refl

again_other : (b : Bool) (r : Reply) → is_full r ≡ false → is_full (cond b r (reply.Refused refusal.RefReused)) ≡ false
again_other true r h = h
again_other false r h = refl

map_other : (o : Option Refusal) → none_full o ≡ false → reply_full (option_map reply.Refused o) ≡ false
map_other None h = refl
map_other (Some r) h = h

idle_other : (before : Option ℕ) (amount : ℕ) (r : Reply) (o : Option Refusal) → is_full r ≡ false → none_full o ≡ false → reply_full (idle before amount r o) ≡ false
idle_other None amount r o again h = map_other o h
idle_other (Some n) amount r o again h = again_other (n == amount) r again

found_other : {S X : Type 0} (s : S) (r : Refusal) (o : Option X) (f : X → Deed S) → tells_full r ≡ false → ((x : X) → o ≡ Some x → is_full (f x).reply ≡ false) → is_full (on_found s r o f).reply ≡ false
found_other s r None f h each = h
found_other s r (Some x) f h each = each x refl

-- what a rule that is asked of a purse replies
abbrev EachReplies : Asks → Type 0
EachReplies (Asks.OnPurse p f) = (a : Holding) → is_full (f a).reply ≡ false
EachReplies x = Unit {0}

each_replies : (c : Command) → EachReplies (asks c)
unfolding show start_from start_to handle discard abort read_log redeem inbox statement
each_replies (Show p) = λ a. refl
each_replies (StartFrom p peer value seq) = λ a. unless_other a _ _ (start_other (start_from_refusal a.purse peer value)) refl
each_replies (StartTo p peer value seq) = λ a. unless_other a _ _ (start_other (start_to_refusal a.purse peer)) refl
each_replies (Handle p number) = λ a. found_other a _ (fmap.get a.inbox number) _ refl (λ m e. refl)
each_replies (Discard p number) = λ a. found_other a _ (fmap.get a.inbox number) _ refl (λ m e. refl)
each_replies (Abort p) = λ a. refl
each_replies (ReadLog p place) = λ a. refl
each_replies (Redeem p amount reference) = λ a. told_other a _ _ (idle_other (fmap.get a.redemptions reference) amount reply.Redeemed _ refl (redeem_other (redeem_refusal a.purse amount))) refl
each_replies (Inbox p) = λ a. refl
each_replies (Statement p after) = λ a. refl
each_replies c = tt

asks_replies : (w : World) (h : Name) (x : Asks) → EachReplies x → is_full (on_world w h x).reply ≡ false
asks_replies w h Asks.Names each = refl
asks_replies w h (Asks.OnPurse p f) each = found_other w _ (own_holding w h p) (λ a. in_place (λ b. change_holding w p (λ _. b)) (f a)) refl (λ a e. each a)
asks_replies w h Asks.NotAHolders each = refl

-- ---- money

not_below : (n m : ℕ) → nat_lt n m ≡ false → m ≤ n
not_below n m h = grind (arith, nat_tests)

not_above : (n m : ℕ) → m ≤ n → nat_lt n m ≡ false
not_above n m h = grind (arith, nat_tests)

module _ (w : World) (s : Sane w) (is : IsWorld w) (balanced : IsBalanced w) where
  -- the float has room for a grant that all grants allow, and for what is collected
  grant_room : (m : Name) (amount : ℕ) → is_none (fmap.get w.members m) ≡ false → nat_lt most_number (all_granted w + amount) ≡ false → nat_lt most_number (float_of w m + amount) ≡ false
  grant_room m amount here small =
      let row = present (fmap.get w.members m) here in
      let fits : row.0.float + amount ≤ most_number = grant_fits w s is balanced m row.0 amount row.1 (not_below _ _ small) in
      not_above _ _ (omega (arith, fits, float_there w m row.0 row.1))

  collect_room : (m : Name) → is_none (fmap.get w.members m) ≡ false → nat_lt most_number (float_of w m + uncollected_of w m) ≡ false
  collect_room m here =
      let row = present (fmap.get w.members m) here in
      let fits : row.0.float + uncollected_of w m ≤ most_number = collect_fits w s is balanced m row.0 row.1 in
      not_above _ _ (omega (arith, fits, float_there w m row.0 row.1))

  grant_other : (m : Name) (amount : ℕ) → none_full (grant_refusal w m amount) ≡ false
  grant_other m amount = first_other _ (λ _. refl, λ here. (λ _. refl, λ small. (λ full. clash _ full (grant_room m amount here small), λ _. tt)))

  collect_other : (m : Name) → none_full (collect_refusal w m) ≡ false
  collect_other m = first_other _ (λ _. refl, λ here. (λ full. clash _ full (collect_room m here), λ _. tt))

  -- the guards of a load, where the balance stays within the cap
  guard_case : (worn over : Bool) → over ≡ false → none_full (option_map refusal_of_load (cond worn (Some load_as.Worn) (cond over (Some load_as.OverCap) None))) ≡ false
  guard_case true over f = refl
  guard_case false true f = clash true refl f
  guard_case false false f = refl

  new_load_other : (r : Row) (member : MemberRow) (amount : ℕ) → (amount ≤ member.float → r.holding.purse.balance + amount ≤ most_number) → (b : Bool) → nat_lt member.float amount ≡ b
      → none_full (cond b (Some refusal.FloatTooSmall) (option_map refusal_of_load (load_refusal r.holding.purse amount))) ≡ false
  new_load_other r member amount fits true t = refl
  new_load_other r member amount fits false t = guard_case (nat_le most_number r.holding.purse.lines) _ (not_above _ _ (fits (not_below _ _ t)))

  of_case : (b : Bool) (o : Option Reply) → reply_full o ≡ false → reply_full (cond b o (Some (reply.Refused refusal.NoSuchPurse))) ≡ false
  of_case true o h = h
  of_case false o h = refl

  load_at : (m p : Name) (amount : ℕ) (reference : Name) (o : Option Row) (x : Option MemberRow) → fmap.get w.rows p ≡ o → fmap.get w.members m ≡ x → reply_full (idle_load_at w m amount reference o x) ≡ false
  load_at m p amount reference None None at there = refl
  load_at m p amount reference None (Some member) at there = refl
  load_at m p amount reference (Some r) None at there = refl
  load_at m p amount reference (Some r) (Some member) at there =
      of_case (is_of_member w m r) _
      (idle_other (fmap.get r.loads reference) amount reply.Loaded (new_load_refusal member r amount) refl
      (new_load_other r member amount (λ enough. load_fits w s is balanced p m r member amount at there enough) (nat_lt member.float amount) refl))

  load_other : (m p : Name) (amount : ℕ) (reference : Name) → reply_full (idle_load w m p amount reference) ≡ false
  unfolding idle_load
  load_other m p amount reference = load_at m p amount reference (fmap.get w.rows p) (fmap.get w.members m) refl refl

  -- the guards of a credit, and so of a settlement
  credit_case : (worn over : Bool) → over ≡ false → none_full (option_map refusal_of_credit (cond worn (Some credit_as.Worn) (cond over (Some credit_as.OverCap) None))) ≡ false
  credit_case true over f = refl
  credit_case false true f = clash true refl f
  credit_case false false f = refl

  settle_at : (d : Details) (settled from to : Bool) (o : Option Row) → is_settled w d ≡ settled → is_archived w d.from d ≡ from → is_archived w d.to d ≡ to → fmap.get w.rows d.from ≡ o
      → none_full (cond settled (Some refusal.AlreadySettled) (cond (from && to) (from_row (Some refusal.NotLost) (λ r. option_map refusal_of_credit (credit_refusal r.holding.purse d.value)) o) (Some refusal.NotLost))) ≡ false
  settle_at d true from to o s f t at = refl
  settle_at d false false to o s f t at = refl
  settle_at d false true false o s f t at = refl
  settle_at d false true true None s f t at = refl
  settle_at d false true true (Some r) fresh f t at =
      credit_case (nat_le most_number r.holding.purse.lines) _ (not_above _ _ (flow_fits w s is balanced d d.from r at (archived_flows w d f t fresh)))

  settle_other : (d : Details) → none_full (settle_refusal w d) ≡ false
  unfolding settle_refusal
  settle_other d = settle_at d (is_settled w d) (is_archived w d.from d) (is_archived w d.to d) (fmap.get w.rows d.from) refl refl refl refl

  -- ---- each command

  base_other : (caller : Caller) (c : Command) → is_full (base w caller c).reply ≡ false
  base_other Operator (NewMember m t) = unless_other w (new_member_refusal w m t) _ (first_other _ (λ _. refl, λ _. (λ _. refl, λ _. tt))) refl
  base_other Operator (Grant m amount) = unless_other w (grant_refusal w m amount) _ (grant_other m amount) refl
  base_other Operator (Archive p) = unless_other w (archive_refusal w p) _ (first_other _ (λ _. refl, λ _. tt)) refl
  base_other Operator (Clear p set) = unless_other w (clear_refusal w p set) _ (first_other _ (λ _. refl, λ _. (λ _. refl, λ _. tt))) refl
  base_other Operator Reconcile = refl
  base_other Operator (Settle d) = unless_other w (settle_refusal w d) _ (settle_other d) refl
  base_other (Clerk m) (NewHolder h t) = unless_other w (new_holder_refusal w m h t) _ (first_other _ (λ _. refl, λ _. (λ _. refl, λ _. (λ _. refl, λ _. tt)))) refl
  base_other (Clerk m) (NewPurse p h) = unless_other w (new_purse_refusal w m p h) _ (first_other _ (λ _. refl, λ _. (λ _. refl, λ _. (λ _. refl, λ _. tt)))) refl
  base_other (Clerk m) (Load p amount reference) = told_other w (idle_load w m p amount reference) _ (load_other m p amount reference) refl
  base_other (Clerk m) Collect = unless_other w (collect_refusal w m) _ (collect_other m) refl
  base_other (Holder h) c = asks_replies w h (asks c) (each_replies c)
  base_other Operator c = refl
  base_other (Clerk m) c = refl

  step_other : (caller : Caller) (c : Command) → is_full (step w caller c).reply ≡ false
  unfolding step
  step_other caller c = base_other caller c

pub never_full : (w : World) (caller : Caller) (c : Command) → IsReachable w → IsNeverFull (step w caller c).reply
never_full w caller c r = is_never _ (step_other w (reachable_sane w r) (reachable_world w r) (reachable_balanced w r) caller c)
