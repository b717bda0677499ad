-- Grants, loads, collects and settlements: each decision is the step's.
use Rattle.std.proofs.Common.{◌≡◌, ℕ, ◌+◌, ◌-◌, ◌^◌, ◌≤◌, Bool, true, false, cond, List, [], ◌∷◌, ◌++◌, Option, Some, None, Ok, Err, refl, sym, ◌∙◌, ap, subst, arith, is_none, option_map, option_and_then, IsSome, IsTrue}
use Rattle.std.specs.Prelude.{nat_lt, ◌==◌, ◌<◌, min, unwrap_or}
use Rattle.std.proofs.lemmas.Bool.Decides.{nat_tests}
use Rattle.std.specs.FinMap as fmap
use Rattle.std.specs.Cmp.{first_so, second_so}
use Rattle.mx_pay.specs.Names.{is_name_text}
use Rattle.mx_pay.specs.Details.{Details, IsDetails}
use Rattle.mx_purse.specs.State.{State, IsPurse}
use Rattle.mx_purse.specs.declared.refusals.LoadRefusal.{LoadRefusal}
use Rattle.mx_purse.specs.declared.refusals.CreditRefusal.{CreditRefusal}
use Rattle.mx_purse.specs.Operations.{or_refused, unless_refused, load_refusal, loaded, credit_refusal, credited}
use Rattle.mx_purse.proofs.OperationLemmas.{loaded_is}
use Rattle.mx_book.specs.declared.edits.Edit.{Edit}
use Rattle.mx_book.specs.declared.edits.Edit.TheVariants.{SetMember, SetPurse, AddLoad, Collect, AddSettled}
use Rattle.mx_book.specs.declared.values.Account.{Account}
use Rattle.mx_book.specs.declared.values.Line.{Line}
use Rattle.mx_book.specs.declared.values.LineKind.TheVariants as kind
use Rattle.mx_book.specs.declared.values.MemberRow.{MemberRow}
use Rattle.mx_book.specs.World.{World, Row, Name, is_of_member, all_collected, set_row, change_row}
use Rattle.mx_pay.specs.Limits.{most_amount, most_number}
use Rattle.mx_book.specs.Conditions.{IsWorld, all_granted}
use Rattle.mx_book.specs.Reads.{from_row, account_of, account_with, load_of, uncollected_of, is_archived, is_settled}
use Rattle.mx_book.specs.Edits.{AllSuit, edited, all_edited}
use Rattle.mx_book.proofs.FoundLemmas.{inside, some_of}
use Rattle.mx_book.proofs.ResultLemmas.{also_settled_stays}
use Rattle.mx_book.proofs.PurseLemmas.{with_lines, line_edits, change_there, edits_append, suits_append, purse_leads, purse_suits, purse_stays}
use Rattle.mx_book.proofs.MoneyLemmas.{with_load, set_member_stays, granted_after, loads_stay, load_leads, load_suits, collect_stays}
use Rattle.mx_office.specs.declared.values.Decided.{Decided}
use Rattle.mx_command.specs.declared.values.Reply.{Reply}
use Rattle.mx_command.specs.declared.values.Reply.TheVariants as reply
use Rattle.mx_command.specs.declared.values.Refusal.TheVariants as refusal
use Rattle.mx_office.specs.Step.{tell, unless, unless_told, idle, money_line, refusal_of_load, float_of, change_member, grant, grant_refusal, collect, collect_refusal, loaded_holding, loaded_row, new_load_refusal, idle_load_at, idle_load, loaded_world, load_purse, payment_line, refusal_of_credit, settled_holding, settled_row, is_archived_for_both, settle_refusal, with_settled, settle}
use Rattle.mx_office.specs.Decides.{Decides, member_purse, load_edits, settlement_edits}
use Rattle.mx_office.proofs.DecideLemmas.{edits_decide, told_decides, edit_decides, refused_decides}
use Rattle.mx_office.proofs.OwnLemmas.{first, next, none_left, change_to}
use Rattle.mx_office.proofs.AccountLemmas.{IsFound, IsNext, is_found, is_next}
use Rattle.mx_office.proofs.MoveCaseLemmas.{IsLoad, load_is, with_member, IsSettlement}
use Rattle.mx_office.proofs.CommandLemmas.{nothing, is_refused, not_refused}

-- ---- a member's row

pub float_there : (w : World) (m : Name) (row : MemberRow) → fmap.get w.members m ≡ Some row → float_of w m ≡ row.float
float_there w m row at = ap (λ o. unwrap_or (option_map (λ (x : MemberRow). x.float) o) 0) at

pub granted_stays : (w : World) (m : Name) (amount : ℕ) (row : MemberRow) → fmap.get w.members m ≡ Some row → all_granted w + amount ≤ most_number → row.float + amount ≤ most_number → IsWorld w
    → IsWorld (with_member w m (record { granted = row.granted + amount; float = row.float + amount }))
granted_stays w m amount row at most room is =
    let sums = granted_after w m (row.granted + amount) (row.float + amount) row at in
    set_member_stays w m (row.granted + amount) (row.float + amount) (some_of _ row at) room (omega (arith, sums, most)) is

pub collected_stays : (w : World) (m : Name) (row : MemberRow) → fmap.get w.members m ≡ Some row → row.float + uncollected_of w m ≤ most_number → IsWorld w
    → IsWorld (with_member (all_collected w m) m (record row { float = row.float + uncollected_of w m }))
collected_stays w m row at room is =
    let sums = granted_after (all_collected w m) m row.granted (row.float + uncollected_of w m) row at in
    let most = is.members.granted in
    set_member_stays (all_collected w m) m row.granted (row.float + uncollected_of w m) (some_of _ row at) room (omega (arith, sums, most)) (collect_stays w m is)

-- ---- a grant, by the sum that a number can hold

module _ (w : World) (m : Name) (amount : ℕ) (row : MemberRow) (all sum : ℕ) (at : fmap.get w.members m ≡ Some row) (all_is : all ≡ all_granted w) (sum_is : sum ≡ min (all + amount) (2 ^ 128 - 1)) where
  pub large_grant : most_number < sum → grant_refusal w m amount ≡ Some refusal.GrantTooLarge
  large_grant lt = next _ _ _ _ (ap is_none at) (first _ _ _ (grind (arith, nat_tests, all_is, sum_is, lt)))

  not_large : sum ≤ most_number → nat_lt most_number (all_granted w + amount) ≡ false
  not_large le = grind (arith, nat_tests, all_is, sum_is, le)

  -- the test of the float
  float_test : (b : Bool) → nat_lt most_number (row.float + amount) ≡ b → nat_lt most_number (float_of w m + amount) ≡ b
  float_test b is = ap (λ f. nat_lt most_number (f + amount)) (float_there w m row at) ∙ is

  pub full_grant : sum ≤ most_number → most_number < row.float + amount → grant_refusal w m amount ≡ Some refusal.FloatFull
  full_grant le lt = next _ _ _ _ (ap is_none at) (next _ _ _ _ (not_large le) (first _ _ _ (float_test true (grind (arith, nat_tests, lt)))))

  pub grant_decides : (granted : ℕ) (d : Decided) → IsWorld w → sum ≤ most_number → row.float + amount ≤ most_number → granted ≡ min (row.granted + amount) (2 ^ 64 - 1)
      → d.reply ≡ reply.Granted → d.edits ≡ SetMember m granted (row.float + amount) ∷ [] → Decides w (grant w m amount) d
  grant_decides granted d is le room granted_is reply_is edits_is =
      let rise : MemberRow → MemberRow = λ x. record { granted = x.granted + amount; float = x.float + amount } in
      let free : grant_refusal w m amount ≡ None = next _ _ _ _ (ap is_none at) (next _ _ _ _ (not_large le) (next _ _ _ _ (float_test false (grind (arith, nat_tests, room))) none_left)) in
      let others = granted_after w m 0 row.float row at in
      let most : all_granted w + amount ≤ most_number = omega (arith, all_is, sum_is, le) in
      let all_of_it : granted ≡ row.granted + amount = omega (arith, granted_is, others, most) in
      edit_decides w (grant w m amount) (SetMember m (row.granted + amount) (row.float + amount)) reply.Granted d
      (ap (λ o. unless w o (tell (change_member w m rise) reply.Granted)) free ∙ ap (λ x. tell x reply.Granted) (change_to w m rise row at))
      (some_of _ row at) (granted_stays w m amount row at most room is)
      reply_is (edits_is ∙ ap (λ n. SetMember m n (row.float + amount) ∷ []) all_of_it)

-- ---- a collect, by the sum that a number can hold

module _ (w : World) (m : Name) (row : MemberRow) (u sum : ℕ) (at : fmap.get w.members m ≡ Some row) (u_is : u ≡ uncollected_of w m) (sum_is : sum ≡ min (u + row.float) (2 ^ 128 - 1)) where
  uncollected_test : (b : Bool) → nat_lt most_number (row.float + uncollected_of w m) ≡ b → nat_lt most_number (float_of w m + uncollected_of w m) ≡ b
  uncollected_test b is = ap (λ f. nat_lt most_number (f + uncollected_of w m)) (float_there w m row at) ∙ is

  pub full_collect : most_number < sum → collect_refusal w m ≡ Some refusal.FloatFull
  full_collect lt = next _ _ _ _ (ap is_none at) (first _ _ _ (uncollected_test true (grind (arith, nat_tests, u_is, sum_is, lt))))

  pub collect_decides : (d : Decided) → IsWorld w → sum ≤ most_number → d.reply ≡ reply.Collected u → d.edits ≡ Collect m ∷ SetMember m row.granted sum ∷ [] → Decides w (collect w m) d
  collect_decides d is le reply_is edits_is =
      let v : World = all_collected w m in
      let float : ℕ = row.float + uncollected_of w m in
      let rise : MemberRow → MemberRow = λ x. record x { float = x.float + uncollected_of w m } in
      let free : collect_refusal w m ≡ None = next _ _ _ _ (ap is_none at) (next _ _ _ _ (uncollected_test false (grind (arith, nat_tests, u_is, sum_is, le))) none_left) in
      let there : IsSome (fmap.get w.members m) = some_of _ row at in
      let same : sum ≡ row.float + uncollected_of w m = omega (arith, u_is, sum_is, le) in
      edits_decide w (collect w m) (tell (edited v (SetMember m row.granted float)) (reply.Collected (uncollected_of w m))) (Collect m ∷ SetMember m row.granted float ∷ []) d
      (ap (λ o. unless w o (tell (change_member v m rise) (reply.Collected (uncollected_of w m)))) free ∙ ap (λ x. tell x (reply.Collected (uncollected_of w m))) (change_to v m rise row at))
      (there, (there, tt)) refl (collected_stays w m row at (omega (arith, same, le)) is)
      (reply_is ∙ ap reply.Collected u_is) (edits_is ∙ ap (λ n. Collect m ∷ SetMember m row.granted n ∷ []) same)

-- ---- a load

-- a load that isn't idle
module _ (w : World) (m p : Name) (amount : ℕ) (reference : Name) (l : IsLoad w m p amount reference) (is : IsWorld w) (text : IsTrue (is_name_text reference)) (small : amount ≤ most_amount) where
  abbrev now : State
  now = loaded l.row.holding.purse amount

  abbrev ls : List Line
  ls = money_line now kind.Loaded amount reference ∷ []

  -- the World with the row after it
  abbrev with_loaded : World
  with_loaded = set_row w p (with_load (with_lines l.row now ls) reference amount)

  abbrev last : Edit
  last = SetMember m l.member.granted (l.member.float - amount)

  loaded_whole : IsPurse now
  loaded_whole = loaded_is l.row.holding.purse amount (is.purses.each p l.row l.at).purse l.free

  next_row : IsNext w p l.row now ls
  next_row = is_next w p (is_of_member w m) l.row.holding.purse (record { row = l.row; at = l.at; passes = l.owned; purse = refl }) now ls is
      (record { name = refl; whole = loaded_whole; numbered = (refl, tt); counted = omega arith; valid = (record { amount = small; balance = loaded_whole.balance; note = text }, tt); logged = λ x kept there. there })

  row_is : loaded_row amount reference l.row ≡ with_load (with_lines l.row now ls) reference amount
  unfolding loaded_holding
  row_is = rw l.free refl

  stays : IsWorld (edited with_loaded last)
  stays =
      let sums = granted_after with_loaded m l.member.granted (l.member.float - amount) l.member l.there in
      let most = is.members.granted in
      let float_most : l.member.float ≤ most_number = is.members.floats m l.member l.there in
      set_member_stays with_loaded m l.member.granted (l.member.float - amount) (some_of _ l.member l.there) (omega (arith, float_most)) (omega (arith, sums, most))
      (loads_stay w p l.row now ls reference amount l.at next_row.named loaded_whole next_row.numbered next_row.counted (record { amount = small; balance = loaded_whole.balance; note = text }, tt) next_row.logged text small is)

  pub load_stays : IsWorld (with_member (set_row w p (loaded_row amount reference l.row)) m (record l.member { float = l.member.float - amount }))
  load_stays = rw row_is stays

  load_decides : (d : Decided) → d.reply ≡ reply.Loaded → d.edits ≡ load_edits now amount reference m l.member → Decides w (load_purse w m p amount reference) d
  load_decides d reply_is edits_is =
      let firsts : List Edit = (SetPurse now ∷ line_edits p ls) ++ AddLoad p reference amount ∷ [] in
      let lead : all_edited w firsts ≡ with_loaded = load_leads w p l.row now ls reference amount l.at next_row.named in
      edits_decide w (load_purse w m p amount reference) (tell (edited with_loaded last) reply.Loaded) (firsts ++ last ∷ []) d
      (load_is w m p amount reference l ∙ ap (λ x. tell (with_member (set_row w p x) m (record l.member { float = l.member.float - amount })) reply.Loaded) row_is)
      (suits_append w firsts (last ∷ []) (load_suits w p l.row now ls reference amount l.at next_row.named next_row.numbered l.fresh) (subst (λ z. AllSuit z (last ∷ [])) (sym lead) (some_of _ l.member l.there, tt)))
      (edits_append w firsts (last ∷ []) ∙ ap (λ z. edited z last) lead)
      stays reply_is (edits_is ∙ (λ i. next_row.edits i ++ AddLoad (next_row.named i) reference amount ∷ last ∷ []))

-- a load that is idle is told why
pub load_told : (w : World) (m p : Name) (amount : ℕ) (reference : Name) (x : Reply) (d : Decided) → IsWorld w → idle_load w m p amount reference ≡ Some x → d.reply ≡ x → d.edits ≡ [] → Decides w (load_purse w m p amount reference) d
load_told w m p amount reference x d is e = told_decides w (load_purse w m p amount reference) x d is (ap (λ o. unless_told w o (tell (loaded_world w m p amount reference) reply.Loaded)) e)

foreign_row : (w : World) (m : Name) (amount : ℕ) (reference : Name) (r : Row) (b : Bool) → is_of_member w m r ≡ b → cond b (Some r.holding.purse) None ≡ None → (o : Option MemberRow) → idle_load_at w m amount reference (Some r) o ≡ Some (reply.Refused refusal.NoSuchPurse)
foreign_row w m amount reference r true t e o = absurd (cc)
foreign_row w m amount reference r false t e None = refl
foreign_row w m amount reference r false t e (Some member) = rw t refl

foreign_case : (w : World) (m : Name) (amount : ℕ) (reference : Name) (o : Option Row) (member : Option MemberRow) → from_row None (λ r. cond (is_of_member w m r) (Some r.holding.purse) None) o ≡ None → idle_load_at w m amount reference o member ≡ Some (reply.Refused refusal.NoSuchPurse)
foreign_case w m amount reference None member e = refl
foreign_case w m amount reference (Some r) member e = foreign_row w m amount reference r (is_of_member w m r) refl e member

-- a purse that isn't of the member
pub foreign_load : (w : World) (m p : Name) (amount : ℕ) (reference : Name) → member_purse w m p ≡ None → idle_load w m p amount reference ≡ Some (reply.Refused refusal.NoSuchPurse)
unfolding idle_load
foreign_load w m p amount reference e = foreign_case w m amount reference (fmap.get w.rows p) (fmap.get w.members m) e

-- a purse of the member
module _ (w : World) (m p : Name) (amount : ℕ) (reference : Name) (q : State) (e : member_purse w m p ≡ Some q) where
  abbrev own : IsFound w p (is_of_member w m) q
  own = is_found w p (is_of_member w m) q e

  -- a member that isn't there
  pub memberless_load : fmap.get w.members m ≡ None → idle_load w m p amount reference ≡ Some (reply.Refused refusal.NoSuchPurse)
  unfolding idle_load
  memberless_load none = rw (own.at, none) refl

  module _ (member : MemberRow) (here : fmap.get w.members m ≡ Some member) where
    -- what a load of it comes to
    idle_is : (o : Option ℕ) → load_of w p reference ≡ o → idle_load w m p amount reference ≡ idle o amount reply.Loaded (new_load_refusal member own.row amount)
    unfolding idle_load
    idle_is o is =
        let loads : fmap.get own.row.loads reference ≡ o = sym (ap (from_row None (λ (x : Row). fmap.get x.loads reference)) own.at) ∙ is in
        rw (own.at, here, own.passes, loads) refl

    -- a reference that a load has
    pub load_repeated : (before : ℕ) → load_of w p reference ≡ Some before → idle_load w m p amount reference ≡ Some (cond (before == amount) reply.Loaded (reply.Refused refusal.RefReused))
    load_repeated before had = idle_is (Some before) had

    pub load_small_float : load_of w p reference ≡ None → member.float < amount → idle_load w m p amount reference ≡ Some (reply.Refused refusal.FloatTooSmall)
    load_small_float new lt = let small : nat_lt member.float amount ≡ true = grind (arith, nat_tests, lt) in idle_is None new ∙ rw small refl

    pub load_refuses : (r : LoadRefusal) → load_of w p reference ≡ None → amount ≤ member.float → or_refused (load_refusal q amount) nothing ≡ Err r → idle_load w m p amount reference ≡ Some (reply.Refused (refusal_of_load r))
    load_refuses r new enough refused = let large : nat_lt member.float amount ≡ false = grind (arith, nat_tests, enough) in idle_is None new ∙ rw (large, own.purse, is_refused (load_refusal q amount) _ r refused) refl

    pub load_made : (after : State) (d : Decided) → IsWorld w → load_of w p reference ≡ None → amount ≤ member.float → IsTrue (is_name_text reference) → amount ≤ most_amount
        → or_refused (load_refusal q amount) nothing ≡ Ok nothing → after ≡ unless_refused (load_refusal q amount) q (loaded q amount)
        → d.reply ≡ reply.Loaded → d.edits ≡ load_edits after amount reference m member → Decides w (load_purse w m p amount reference) d
    load_made after d is new enough text small accepted after_is reply_is edits_is =
        let free : load_refusal q amount ≡ None = not_refused _ _ nothing accepted in
        let l : IsLoad w m p amount reference = record {
          row = own.row;
          at = own.at;
          member = member;
          there = here;
          owned = own.passes;
          fresh = sym (ap (from_row None (λ (x : Row). fmap.get x.loads reference)) own.at) ∙ new;
          enough = enough;
          free = ap (λ x. load_refusal x amount) own.purse ∙ free;
        } in
        let now_is : after ≡ loaded own.row.holding.purse amount = after_is ∙ ap (λ o. unless_refused o q (loaded q amount)) free ∙ ap (λ x. loaded x amount) (sym own.purse) in
        load_decides w m p amount reference l is text small d reply_is (edits_is ∙ ap (λ x. load_edits x amount reference m member) now_is)

-- ---- a settlement

-- what a credit allows a load allows
as_load : (p : State) (amount : ℕ) → credit_refusal p amount ≡ None → load_refusal p amount ≡ None
as_load p amount free = grind arith

-- a settlement that isn't refused
module _ (w : World) (d : Details) (s : IsSettlement w d) (is : IsWorld w) (details : IsDetails d) where
  abbrev credited_now : State
  credited_now = credited s.row.holding.purse d.value

  abbrev settled_lines : List Line
  settled_lines = payment_line credited_now kind.Settled d ∷ []

  abbrev with_credit : World
  with_credit = set_row w d.from (with_lines s.row credited_now settled_lines)

  credited_whole : IsPurse credited_now
  credited_whole = loaded_is s.row.holding.purse d.value (is.purses.each d.from s.row s.at).purse (as_load s.row.holding.purse d.value s.free)

  settled_next : IsNext w d.from s.row credited_now settled_lines
  settled_next = is_next w d.from (λ r. true) s.row.holding.purse (record { row = s.row; at = s.at; passes = refl; purse = refl }) credited_now settled_lines is
      (record { name = refl; whole = credited_whole; numbered = (refl, tt); counted = omega arith; valid = (record { amount = details.value; balance = credited_whole.balance; note = details }, tt); logged = λ x kept there. there })

  settled_row_is : settled_row d s.row ≡ with_lines s.row credited_now settled_lines
  unfolding settled_holding
  settled_row_is = rw s.free refl

  credit_stays : IsWorld (with_settled with_credit d)
  credit_stays = also_settled_stays with_credit d details
      (purse_stays w d.from s.row credited_now settled_lines s.at settled_next.named credited_whole settled_next.numbered settled_next.counted (record { amount = details.value; balance = credited_whole.balance; note = details }, tt) settled_next.logged is)

  pub settlement_stays : IsWorld (with_settled (set_row w d.from (settled_row d s.row)) d)
  settlement_stays = rw settled_row_is credit_stays

  settle_is : settle w d ≡ tell (with_settled (set_row w d.from (settled_row d s.row)) d) reply.Settled
  unfolding settle_refusal
  settle_is =
      let none : settle_refusal w d ≡ None = rw (s.fresh, s.from, s.to, s.at, s.free) refl in
      ap (λ o. unless w o (tell (with_settled (change_row w d.from (settled_row d)) d) reply.Settled)) none
      ∙ ap (λ v. tell (with_settled v d) reply.Settled) (change_there w d.from (settled_row d) s.row s.at)

  settle_decides : (x : Decided) → x.reply ≡ reply.Settled → x.edits ≡ settlement_edits credited_now d → Decides w (settle w d) x
  settle_decides x reply_is edits_is =
      let firsts : List Edit = SetPurse credited_now ∷ line_edits d.from settled_lines in
      let lead : all_edited w firsts ≡ with_credit = purse_leads w d.from s.row credited_now settled_lines s.at settled_next.named in
      edits_decide w (settle w d) (tell (with_settled with_credit d) reply.Settled) (firsts ++ AddSettled d ∷ []) x
      (settle_is ∙ ap (λ r. tell (with_settled (set_row w d.from r) d) reply.Settled) settled_row_is)
      (suits_append w firsts (AddSettled d ∷ []) (purse_suits w d.from s.row credited_now settled_lines s.at settled_next.named settled_next.numbered) (subst (λ v. AllSuit v (AddSettled d ∷ [])) (sym lead) (s.fresh, tt)))
      (edits_append w firsts (AddSettled d ∷ []) ∙ ap (λ v. edited v (AddSettled d)) lead)
      credit_stays reply_is (edits_is ∙ ap (λ es. es ++ AddSettled d ∷ []) settled_next.edits)

-- the row of a purse whose account is given
module _ (w : World) (p : Name) (account : Account) where
  account_case : (r : Row) (o : Option Name) → fmap.get w.rows p ≡ Some r → option_map (account_with r) o ≡ Some account → IsFound w p (λ x. true) account.purse
  account_case r None at e = absurd (cc)
  account_case r (Some m) at e = record { row = r; at = at; passes = refl; purse = ap (λ (x : Account). x.purse) (inside _ account e) }

  account_row : (o : Option Row) → fmap.get w.rows p ≡ o → option_and_then (λ r. option_map (account_with r) (fmap.get w.holders r.holder)) o ≡ Some account → IsFound w p (λ x. true) account.purse
  account_row None at e = absurd (cc)
  account_row (Some r) at e = account_case r (fmap.get w.holders r.holder) at e

-- a purse that has no account isn't there, since its holder would be
no_account : (w : World) (p : Name) (o : Option Row) → IsWorld w → fmap.get w.rows p ≡ o → option_and_then (λ r. option_map (account_with r) (fmap.get w.holders r.holder)) o ≡ None → o ≡ None
no_account w p None is at none = refl
no_account w p (Some r) is at none = absurd (unheld (fmap.get w.holders r.holder) (is.purses.each p r at).holder none)
  where
    unheld : (h : Option Name) → IsSome h → option_map (account_with r) h ≡ None → ⊥
    unheld None there e = absurd (cc)
    unheld (Some m) there e = absurd (cc)

module _ (w : World) (d : Details) (x : Decided) (is : IsWorld w) where
  pub settles_no_purse : is_settled w d ≡ false → is_archived_for_both w d ≡ true → account_of w d.from ≡ None → x.reply ≡ reply.Refused refusal.NotLost → x.edits ≡ [] → Decides w (settle w d) x
  unfolding settle_refusal
  settles_no_purse fresh archived none =
      refused_decides w (settle_refusal w d) _ refusal.NotLost x is (rw (fresh, archived, no_account w d.from (fmap.get w.rows d.from) is refl none) refl)

  pub settled_already : is_settled w d ≡ true → x.reply ≡ reply.Refused refusal.AlreadySettled → x.edits ≡ [] → Decides w (settle w d) x
  unfolding settle_refusal
  settled_already settled = refused_decides w (settle_refusal w d) _ refusal.AlreadySettled x is (rw settled refl)

  pub settles_nothing : is_settled w d ≡ false → is_archived_for_both w d ≡ false → x.reply ≡ reply.Refused refusal.NotLost → x.edits ≡ [] → Decides w (settle w d) x
  unfolding settle_refusal
  settles_nothing fresh lacks = refused_decides w (settle_refusal w d) _ refusal.NotLost x is (rw (fresh, lacks) refl)

  module _ (account : Account) (fresh : is_settled w d ≡ false) (archived : is_archived_for_both w d ≡ true) (given : account_of w d.from ≡ Some account) where
    abbrev payer : IsFound w d.from (λ r. true) account.purse
    payer = account_row w d.from account (fmap.get w.rows d.from) refl given

    pub settle_refuses : (r : CreditRefusal) → or_refused (credit_refusal account.purse d.value) nothing ≡ Err r → x.reply ≡ reply.Refused (refusal_of_credit r) → x.edits ≡ [] → Decides w (settle w d) x
    unfolding settle_refusal
    settle_refuses r refused = refused_decides w (settle_refusal w d) _ (refusal_of_credit r) x is (rw (fresh, archived, payer.at, payer.purse, is_refused (credit_refusal account.purse d.value) _ r refused) refl)

    pub settle_made : (after : State) → IsDetails d → or_refused (credit_refusal account.purse d.value) nothing ≡ Ok nothing → after ≡ unless_refused (credit_refusal account.purse d.value) account.purse (credited account.purse d.value)
        → x.reply ≡ reply.Settled → x.edits ≡ settlement_edits after d → Decides w (settle w d) x
    settle_made after details accepted after_is reply_is edits_is =
        let free : credit_refusal account.purse d.value ≡ None = not_refused _ _ nothing accepted in
        let s : IsSettlement w d = record {
          row = payer.row;
          at = payer.at;
          fresh = fresh;
          from = first_so (is_archived w d.from d) _ archived;
          to = second_so (is_archived w d.from d) _ archived;
          free = ap (λ q. credit_refusal q d.value) payer.purse ∙ free;
        } in
        let now_is : after ≡ credited payer.row.holding.purse d.value = after_is ∙ ap (λ o. unless_refused o account.purse (credited account.purse d.value)) free ∙ ap (λ q. credited q d.value) (sym payer.purse) in
        settle_decides w d s is details x reply_is (edits_is ∙ ap (λ q. settlement_edits q d) now_is)
