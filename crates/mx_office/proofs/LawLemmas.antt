-- The law of isolation: each command's change of the World, cut to one holder, is what the holder's view alone gives.
use Rattle.std.proofs.Common.{◌≡◌, Bool, true, false, cond, List, [], ◌∷◌, ◌++◌, append_assoc, refl, sym, ◌∙◌, ap, Option, Some, None, ◌&&◌, option_and_then, ℕ}
use Rattle.std.proofs.lemmas.List.{append-nil}
use Rattle.std.specs.Option.{option_map_or}
use Rattle.std.specs.Prelude.{map, filter, is_none, is_some}
use Rattle.std.specs.FinMap as fmap
use Rattle.mx_pay.specs.Names.{name_cmp, is_name}
use Rattle.mx_pay.specs.Details.{Details}
use Rattle.mx_purse.specs.declared.message.Message.{Message}
use Rattle.mx_book.specs.declared.values.Caller.{Caller}
use Rattle.mx_book.specs.declared.values.Caller.TheVariants.{Operator, Clerk, Holder}
use Rattle.mx_book.specs.declared.values.MemberRow.{MemberRow}
use Rattle.mx_book.specs.Maps.{picked, with_picked}
use Rattle.mx_book.specs.World.{World, Row, Holding, Name, all_collected, set_row, change_row, changed_row, change_holding, has_room, delivered, with_message, new_row}
use Rattle.mx_book.specs.Reads.{purses_of}
use Rattle.mx_book.proofs.MapLemmas.{get-pick, entries-pick, pick-insert, pick-skip}
use Rattle.mx_book.proofs.NameLemmas.{names_total, names_exact, same_name}
use Rattle.mx_command.specs.declared.values.Command.{Command}
use Rattle.mx_command.specs.declared.values.Command.TheVariants.{NewMember, Grant, Archive, Clear, NewHolder, NewPurse, Load, Collect, Reconcile, Settle}
use Rattle.mx_book.specs.declared.contract.StoreFault.{StoreFault}
use Rattle.mx_office.specs.declared.values.Outcome.{Outcome}
use Rattle.mx_office.specs.declared.values.Outcome.TheVariants.{Reply as Replied, Unavailable}
use Rattle.mx_command.specs.declared.values.Refusal.{Refusal}
use Rattle.mx_command.specs.declared.values.Refusal.TheVariants.{NoSuchPurse}
use Rattle.mx_command.specs.declared.values.Reply.{Reply}
use Rattle.mx_command.specs.declared.values.Reply.TheVariants as reply
use Rattle.mx_command.specs.Commands.{Asked}
use Rattle.mx_office.specs.Step.{Deed, Asks, Course, ends, tell, unless, unless_told, on_found, in_place, asks, holding_for, own_holding, on_world, loaded_holding, loaded_row, loaded_world, idle_load, change_member, new_purse_refusal, settled_holding, settled_row, with_settled, settle_refusal, base, put_sent, with_result, step, steps, course}
use Rattle.mx_office.proofs.CaseLemmas.{by_told, by_tray, collected_same}
use Rattle.mx_office.proofs.OwnLemmas.{absent, none_refused, own_at, is_owned}
use Rattle.mx_office.specs.Run.{IsRun, answered, replies}
use Rattle.mx_office.specs.Isolation.{Event, Holdings, only_if, for_holder, issued_event, put_event, view_of, view, on_holdings, with_changed, after_event, local, cut, told_to}

-- ---- what is cut out

get-cut : (w : World) (h p : Name) → fmap.get (cut w h) p ≡ own_holding w h p
get-cut w h p = get-pick names_total (holding_for h) w.rows p

-- a row of the holder is written, or another's where none was the holder's
cut-own : (w : World) (h p : Name) (r : Row) → is_name h r.holder ≡ true → cut (set_row w p r) h ≡ fmap.insert (cut w h) p r.holding
cut-own w h p r t = pick-insert names_total (holding_for h) names_exact w.rows p r r.holding (ap (λ b. cond b (Some r.holding) None) t)

cut-other : (w : World) (h p : Name) (r : Row) → own_holding w h p ≡ None → is_name h r.holder ≡ false → cut (set_row w p r) h ≡ cut w h
cut-other w h p r none f = pick-skip names_total (holding_for h) names_exact w.rows p r (ap (λ b. cond b (Some r.holding) None) f) none

-- a write of what is there
chosen_same : {X : Type 0} (b : Bool) (x : X) (o : Option X) → (b ≡ true → o ≡ Some x) → cond b (Some x) o ≡ o
chosen_same true x o h = sym (h refl)
chosen_same false x o h = refl

insert-same : {X : Type 0} (m : fmap.FinMap name_cmp X) (p : Name) (x : X) → fmap.get m p ≡ Some x → fmap.insert m p x ≡ m
insert-same m p x at = fmap.same_map names_total names_exact _ _ (λ q.
    fmap.get-insert names_total m p x q ∙ chosen_same _ x (fmap.get m q) (λ t. ap (fmap.get m) (same_name q p t) ∙ at))

-- ---- a holding that is changed

changed_at : (w : World) (h p : Name) (g : Holding → Holding) (o : Option Holding) → own_holding w h p ≡ o → with_changed (cut w h) p g ≡ option_map_or (λ a. fmap.insert (cut w h) p (g a)) o (cut w h)
changed_at w h p g o at = ap (λ x. option_map_or (λ a. fmap.insert (cut w h) p (g a)) x (cut w h)) (get-cut w h p ∙ at)

-- a change to the same
changed-same : (w : World) (h p : Name) (g : Holding → Holding) (o : Option Holding) → own_holding w h p ≡ o → ((a : Holding) → o ≡ Some a → g a ≡ a) → with_changed (cut w h) p g ≡ cut w h
changed-same w h p g None at same = changed_at w h p g None at
changed-same w h p g (Some a) at same = changed_at w h p g (Some a) at ∙ ap (fmap.insert (cut w h) p) (same a refl) ∙ insert-same (cut w h) p a (get-cut w h p ∙ at)

module _ (w : World) (h p : Name) (f : Row → Row) (g : Holding → Holding) (holder : (r : Row) → (f r).holder ≡ r.holder) (holding : (r : Row) → (f r).holding ≡ g r.holding) where
  row_case : (r : Row) → fmap.get w.rows p ≡ Some r → (b : Bool) → is_name h r.holder ≡ b → cut (set_row w p (f r)) h ≡ with_changed (cut w h) p g
  row_case r at true t = cut-own w h p (f r) (ap (is_name h) (holder r) ∙ t) ∙ ap (fmap.insert (cut w h) p) (holding r) ∙ sym (changed_at w h p g _ (own_at w h p r true at t))
  row_case r at false t = let none = own_at w h p r false at t in cut-other w h p (f r) none (ap (is_name h) (holder r) ∙ t) ∙ sym (changed_at w h p g None none)

  change_case : (o : Option Row) → fmap.get w.rows p ≡ o → cut (changed_row w p f o) h ≡ with_changed (cut w h) p g
  change_case None at = sym (changed_at w h p g None (ap (option_and_then (holding_for h)) at))
  change_case (Some r) at = row_case r at (is_name h r.holder) refl

  -- whoever's it is
  cut-change : cut (change_row w p f) h ≡ with_changed (cut w h) p g
  cut-change = change_case (fmap.get w.rows p) refl

cut-holding : (w : World) (h p : Name) (g : Holding → Holding) → cut (change_holding w p g) h ≡ with_changed (cut w h) p g
cut-holding w h p g = cut-change w h p (λ r. record r { holding = g r.holding }) g (λ r. refl) (λ r. refl)

-- ---- events that have no reply

abbrev silent : Holdings → Course Holdings Reply
silent m = ends m []

-- a change that is seen where it changes something
event_law : (w : World) (h p : Name) (g : Holding → Holding) (e : Event) (b : Bool) → after_event (cut w h) e ≡ silent (with_changed (cut w h) p g) → (b ≡ false → (a : Holding) → own_holding w h p ≡ Some a → g a ≡ a)
    → local (cut w h) (only_if b e) ≡ silent (with_changed (cut w h) p g)
event_law w h p g e true is same = ap (λ (c : Course Holdings Reply). ends c.end (c.replies ++ [])) is
event_law w h p g e false is same = ap silent (sym (changed-same w h p g _ refl (same refl)))

put_law : (w : World) (h : Name) (sent : Option (Name × Message)) → local (cut w h) (put_event w h sent) ≡ silent (cut (put_sent w sent) h)
put_law w h None = refl
put_law w h (Some m) =
    event_law w h m.0 (λ a. with_message a m.1) (Event.Put m.0 m.1) _ refl (λ f a at. ap (λ b. cond b (delivered a m.1) a) (sym (ap (λ o. option_map_or has_room o false) at) ∙ f))
    ∙ ap silent (sym (cut-holding w h m.0 (λ a. with_message a m.1)))

-- ---- a command of a holder

-- the names of a holder's purses are the keys of what is cut out
name_case : (k : Name) (r : Row) (b : Bool) (es : List (Name × Holding)) (fs : List (Name × Row)) → map (λ (e : Name × Row). e.0) fs ≡ map (λ (e : Name × Holding). e.0) es
    → map (λ (e : Name × Row). e.0) (cond b ((k, r) ∷ fs) fs) ≡ map (λ (e : Name × Holding). e.0) (with_picked k (cond b (Some r.holding) None) es)
name_case k r true es fs is = ap (λ ks. k ∷ ks) is
name_case k r false es fs is = is

names_picked : (h : Name) (es : List (Name × Row))
    → map (λ (e : Name × Row). e.0) (filter (λ (e : Name × Row). is_name h e.1.holder) es) ≡ map (λ (e : Name × Holding). e.0) (picked (holding_for h) es)
names_picked h [] = refl
names_picked h (e ∷ es) =
    name_case e.0 e.1 (is_name h e.1.holder) (picked (holding_for h) es) (filter (λ (x : Name × Row). is_name h x.1.holder) es) (names_picked h es)

names-cut : (w : World) (h : Name) → fmap.keys (cut w h) ≡ purses_of w h
names-cut w h = sym (names_picked h (fmap.entries w.rows) ∙ ap (map (λ (e : Name × Holding). e.0)) (sym (entries-pick names_total (holding_for h) w.rows)))

-- a deed, of which a holder sees what is cut out
abbrev cut_deed : Name → Deed World → Deed Holdings
cut_deed h d = record { state = cut d.state h; reply = d.reply; sent = d.sent; result = d.result }

rule_case : (w : World) (h p : Name) (f : Holding → Deed Holding) (o : Option Holding) → own_holding w h p ≡ o
    → on_found (cut w h) NoSuchPurse o (λ a. in_place (fmap.insert (cut w h) p) (f a)) ≡ cut_deed h (on_found w NoSuchPurse o (λ a. in_place (λ b. change_holding w p (λ _. b)) (f a)))
rule_case w h p f None at = refl
rule_case w h p f (Some a) at = ap (λ m. in_place (λ b. m) (f a)) (sym (cut-holding w h p (λ _. (f a).state) ∙ changed_at w h p (λ _. (f a).state) (Some a) at))

-- what the holder asks comes to the same in the World and in the holdings
asks_law : (w : World) (h : Name) (x : Asks) → on_holdings (cut w h) x ≡ cut_deed h (on_world w h x)
asks_law w h Asks.Names = ap (λ ks. tell (cut w h) (reply.Purses ks)) (names-cut w h)
asks_law w h (Asks.OnPurse p f) = ap (λ o. on_found (cut w h) NoSuchPurse o (λ a. in_place (fmap.insert (cut w h) p) (f a))) (get-cut w h p) ∙ rule_case w h p f (own_holding w h p) refl
asks_law w h Asks.NotAHolders = refl

other_case : (w : World) (h g p : Name) (f : Holding → Deed Holding) (o : Option Holding) → own_holding w g p ≡ o → is_name h g ≡ false
    → cut (on_found w NoSuchPurse o (λ a. in_place (λ b. change_holding w p (λ _. b)) (f a))).state h ≡ cut w h
other_case w h g p f None at apart = refl
other_case w h g p f (Some a) at apart =
    let r = is_owned w g p a at in
    cut-holding w h p (λ _. (f a).state)
    ∙ changed_at w h p (λ _. (f a).state) None (own_at w h p r.row false r.at (ap (is_name h) (sym (same_name g r.row.holder r.owned)) ∙ apart))

other_law : (w : World) (h g : Name) (x : Asks) → is_name h g ≡ false → cut (on_world w g x).state h ≡ cut w h
other_law w h g Asks.Names apart = refl
other_law w h g (Asks.OnPurse p f) apart = other_case w h g p f (own_holding w g p) refl apart
other_law w h g Asks.NotAHolders apart = refl

-- a deed of a caller, of which the holder sees what is cut out and what is replied to the holder
abbrev cut_course : Name → Caller → Deed World → Course Holdings Reply
cut_course h caller d = ends (cut d.state h) (for_holder h caller d.reply)

holder_law : (w : World) (h g : Name) (c : Command) (b : Bool) → is_name h g ≡ b
    → local (cut w h) (only_if b (Event.Own c) ++ []) ≡ (let d = on_world w g (asks c) in ends (cut d.state h) (only_if b d.reply))
holder_law w h g c true t =
    ap (λ (d : Deed Holdings). ends d.state (d.reply ∷ [])) (asks_law w h (asks c))
    ∙ ap (λ n. let d = on_world w n (asks c) in ends (cut d.state h) (d.reply ∷ [])) (same_name h g t)
holder_law w h g c false t = ap silent (sym (other_law w h g (asks c) t))

-- ---- a new purse

issued_case : (w : World) (h p g : Name) → fmap.get w.rows p ≡ None → (b : Bool) → is_name h g ≡ b → local (cut w h) (only_if b (Event.Issued p)) ≡ silent (cut (set_row w p (new_row g p)) h)
issued_case w h p g at true t = ap silent (sym (cut-own w h p (new_row g p) t))
issued_case w h p g at false t = ap silent (sym (cut-other w h p (new_row g p) (ap (option_and_then (holding_for h)) at) t))

issued_law : (w : World) (h m p g : Name) (o : Option Refusal) → new_purse_refusal w m p g ≡ o
    → local (cut w h) (only_if (is_none o && is_name h g) (Event.Issued p)) ≡ silent (cut (unless w o (tell (set_row w p (new_row g p)) reply.Added)).state h)
issued_law w h m p g (Some r) e = refl
issued_law w h m p g None e = issued_case w h p g (absent _ (none_refused _ _ _ (none_refused _ _ _ e).1).0) (is_name h g) refl

-- ---- grants, loads, settlements and collects

member_case : (w : World) (h m : Name) (f : MemberRow → MemberRow) (o : Option MemberRow) → cut (option_map_or (λ row. let v : World = record w { members = fmap.insert w.members m (f row) } in v) o w) h ≡ cut w h
member_case w h m f None = refl
member_case w h m f (Some row) = refl

cut-member : (w : World) (h m : Name) (f : MemberRow → MemberRow) → cut (change_member w m f) h ≡ cut w h
cut-member w h m f = member_case w h m f (fmap.get w.members m)

-- a load is an event where it adds a row
load_law : (w : World) (h m p : Name) (amount : ℕ) (reference : Name) (x : Option Reply)
    → local (cut w h) (only_if (is_none x && is_some (own_holding w h p)) (Event.Loaded p reference amount))
    ≡ silent (cut (unless_told w x (tell (loaded_world w m p amount reference) reply.Loaded)).state h)
load_law w h m p amount reference (Some r) = refl
load_law w h m p amount reference None =
    event_law w h p (λ a. loaded_holding a amount reference) (Event.Loaded p reference amount) _ refl (λ none a at. let there = ap is_some at in cc)
    ∙ ap silent (sym (cut-member (change_row w p (loaded_row amount reference)) h m _
    ∙ cut-change w h p (loaded_row amount reference) (λ a. loaded_holding a amount reference) (λ r. refl) (λ r. refl)))

-- a settlement is an event where it isn't refused
settled_law : (w : World) (h : Name) (d : Details) (o : Option Refusal)
    → local (cut w h) (only_if (is_none o && is_some (own_holding w h d.from)) (Event.Settled d.from d))
    ≡ silent (cut (unless w o (tell (with_settled (change_row w d.from (settled_row d)) d) reply.Settled)).state h)
settled_law w h d (Some r) = refl
settled_law w h d None =
    event_law w h d.from (λ a. settled_holding a d) (Event.Settled d.from d) _ refl (λ none a at. let there = ap is_some at in cc)
    ∙ ap silent (sym (cut-change w h d.from (settled_row d) (λ a. settled_holding a d) (λ r. refl) (λ r. refl)))

-- collected redemptions are none of what is cut out
cut-collected : (w : World) (h m : Name) → cut (all_collected w m) h ≡ cut w h
cut-collected w h m = fmap.same_map names_total names_exact _ _ (λ q. get-cut (all_collected w m) h q ∙ collected_same (option_and_then (holding_for h)) w m q (λ r. refl) ∙ sym (get-cut w h q))

-- results of read log are none of it
cut-result : (w : World) (h : Name) (result : Option (Name × Details)) → cut (with_result w result) h ≡ cut w h
cut-result w h result = by_tray (λ v. cut v h ≡ cut w h) w result refl (λ x e kept. refl)

-- ---- each command

-- a command leaves what is cut out for h
quiet : (w : World) (h : Name) (o : Option Reply) (d : Deed World) → cut d.state h ≡ cut w h → silent (cut w h) ≡ silent (cut (unless_told w o d).state h)
quiet w h o d same = by_told (λ x. silent (cut w h) ≡ silent (cut x.state h)) w o d (λ x e. refl) (λ e. ap silent (sym same))

-- before a message that it sends is put
base_law : (w : World) (h : Name) (caller : Caller) (c : Command) → local (cut w h) (for_holder h caller (Event.Own c) ++ issued_event w h caller c) ≡ cut_course h caller (base w caller c)
base_law w h Operator (NewMember m t) = quiet w h _ _ refl
base_law w h Operator (Grant m amount) = quiet w h _ _ (cut-member w h m _)
base_law w h Operator (Archive p) = quiet w h _ _ refl
base_law w h Operator (Clear p set) = quiet w h _ _ refl
base_law w h Operator Reconcile = refl
base_law w h Operator (Settle d) = settled_law w h d (settle_refusal w d)
base_law w h (Clerk m) (NewHolder g t) = quiet w h _ _ refl
base_law w h (Clerk m) (NewPurse p g) = issued_law w h m p g (new_purse_refusal w m p g) refl
base_law w h (Clerk m) (Load p amount reference) = load_law w h m p amount reference (idle_load w m p amount reference)
base_law w h (Clerk m) Collect = quiet w h _ _ (cut-member (all_collected w m) h m _ ∙ cut-collected w h m)
base_law w h (Holder g) c = holder_law w h g c (is_name h g) refl
base_law w h Operator c = refl
base_law w h (Clerk m) c = refl

-- a course, and then one over more
abbrev pub and_then : {S X R : Type 0} → (S → X → Course S R) → Course S R → List X → Course S R
and_then f c xs = ends (course f c.end xs).end (c.replies ++ (course f c.end xs).replies)

pub course-append : {S X R : Type 0} (f : S → X → Course S R) (s : S) (xs ys : List X) → course f s (xs ++ ys) ≡ and_then f (course f s xs) ys
course-append f s [] ys = refl
course-append {S = S} {R = R} f s (x ∷ xs) ys =
    let rest = course f (f s x).end xs in
    ap (λ (c : Course S R). ends c.end ((f s x).replies ++ c.replies)) (course-append f (f s x).end xs ys)
    ∙ ap (ends (course f rest.end ys).end) (sym (append_assoc (f s x).replies rest.replies (course f rest.end ys).replies))

-- what one command leaves of the holdings, and its reply to the holder, are what the view of it gives
pub one_law : (w : World) (h : Name) (caller : Caller) (c : Command)
    → local (cut w h) (view_of w h caller c) ≡ (let a = step w caller c in ends (cut a.world h) (for_holder h caller a.reply))
unfolding step view_of
one_law w h caller c =
    let d = base w caller c in
    let late = put_event d.state h d.sent in
    course-append after_event (cut w h) (for_holder h caller (Event.Own c) ++ issued_event w h caller c) late
    ∙ ap (λ x. and_then after_event x late) (base_law w h caller c)
    ∙ ap (λ (x : Course Holdings Reply). ends x.end (for_holder h caller d.reply ++ x.replies)) (put_law d.state h d.sent)
    ∙ (λ i. ends (sym (cut-result (put_sent d.state d.sent) h d.result) i) (append-nil (for_holder h caller d.reply) i))

-- and so they are of a World that is the step's, and of a reply that is
pub accounts_after : (w v : World) (h : Name) (caller : Caller) (c : Command) → v ≡ (step w caller c).world → cut v h ≡ (local (cut w h) (view_of w h caller c)).end
accounts_after w v h caller c is = ap (λ x. cut x h) is ∙ sym (ap (λ x. x.end) (one_law w h caller c))

pub told_after : (w : World) (h : Name) (caller : Caller) (c : Command) (r : Reply) → r ≡ (step w caller c).reply → for_holder h caller r ≡ (local (cut w h) (view_of w h caller c)).replies
told_after w h caller c r is = ap (for_holder h caller) is ∙ sym (ap (λ x. x.replies) (one_law w h caller c))

-- ---- runs

pub run_law : (w : World) (h : Name) (cs : List Asked)
    → local (cut w h) (view h w cs) ≡ (let all = steps w cs in ends (cut all.end h) (told_to h all.replies))
run_law w h [] = refl
run_law w h (c ∷ cs) =
    course-append after_event (cut w h) (view_of w h c.0 c.1) (view h (step w c.0 c.1).world cs)
    ∙ ap (λ x. and_then after_event x (view h (step w c.0 c.1).world cs)) (one_law w h c.0 c.1)
    ∙ ap (λ (x : Course Holdings Reply). ends x.end (for_holder h c.0 (step w c.0 c.1).reply ++ x.replies)) (run_law (step w c.0 c.1).world h cs)

-- a run that may have left some commands undone comes to the steps of those that it answered
pub run_steps : (fails : StoreFault → Type 0) (w end : World) (cs : List Asked) (os : List Outcome) → IsRun fails w cs os end → ends end (replies cs os) ≡ steps w (answered cs os)
run_steps fails w end [] [] is = ap (λ x. ends x []) (sym is)
run_steps fails w end [] (o ∷ os) is = absurd is
run_steps fails w end (c ∷ cs) [] is = absurd is
run_steps fails w end (c ∷ cs) (Replied r ∷ os) is =
    let rest = run_steps fails (step w c.0 c.1).world end cs os is.1 in
    λ i. ends (rest i).end ((c.0, is.0 i) ∷ (rest i).replies)
run_steps fails w end (c ∷ cs) (Unavailable ∷ os) is = run_steps fails w end cs os is.1

-- and so it leaves, and tells, each holder what the holder's view of these gives
pub run_accounts : (fails : StoreFault → Type 0) (w end v : World) (h : Name) (cs : List Asked) (os : List Outcome) → IsRun fails w cs os end → v ≡ end → cut v h ≡ (local (cut w h) (view h w (answered cs os))).end
run_accounts fails w end v h cs os is same = ap (λ x. cut x h) same ∙ ap (λ (c : Course World (Caller × Reply)). cut c.end h) (run_steps fails w end cs os is) ∙ sym (ap (λ x. x.end) (run_law w h (answered cs os)))

pub run_told : (fails : StoreFault → Type 0) (w end : World) (h : Name) (cs : List Asked) (os : List Outcome) → IsRun fails w cs os end → told_to h (replies cs os) ≡ (local (cut w h) (view h w (answered cs os))).replies
run_told fails w end h cs os is = ap (λ (c : Course World (Caller × Reply)). told_to h c.replies) (run_steps fails w end cs os is) ∙ sym (ap (λ x. x.replies) (run_law w h (answered cs os)))
