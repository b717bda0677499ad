-- What a holder sees is of the holder's own purses.
use Rattle.std.proofs.Common.{◌≡◌, Bool, true, false, ◌++◌, refl, ◌∙◌, ap, Option, Some, None, option_map, is_some, is_none, IsSome, ◌&&◌}
use Rattle.std.specs.List.{AllByRecursion}
use Rattle.std.specs.Option.{option_map_or}
use Rattle.std.specs.FinMap as fmap
use Rattle.mx_pay.specs.Names.{is_name}
use Rattle.mx_purse.specs.declared.message.Message.{Message}
use Rattle.mx_book.specs.declared.values.Caller.{Caller}
use Rattle.mx_book.specs.declared.values.Caller.TheVariants.{Operator, Clerk, Holder}
use Rattle.mx_book.specs.World.{World, Row, Name, has_room, set_row, new_row}
use Rattle.mx_book.proofs.NameLemmas.{get-inserted}
use Rattle.std.proofs.ByRecursion.{All-append as all_append}
use Rattle.mx_command.specs.declared.values.Command.{Command}
use Rattle.mx_command.specs.declared.values.Command.TheVariants.{NewPurse, Load, Settle}
use Rattle.mx_command.specs.declared.values.Refusal.{Refusal}
use Rattle.mx_command.specs.declared.values.Reply.TheVariants as reply
use Rattle.mx_office.specs.Isolation.{Event, IsOf, only_if, for_holder, issued_event, put_event, view_of}
use Rattle.mx_office.specs.Step.{tell, unless, own_holding, idle_load, new_purse_refusal, settle_refusal, base, step}
use Rattle.mx_office.proofs.OwnLemmas.{present, own_at, is_owned}
use Rattle.mx_office.proofs.SeenLemmas.{both_parts}
use Rattle.mx_office.proofs.StayLemmas.{Stays, after_stays, step_stays}

-- ---- the holder's own stays so

own_row : (v : World) (h p g : Name) (o : Option Row) → fmap.get v.rows p ≡ o → option_map (λ (r : Row). r.holder) o ≡ Some g → is_name h g ≡ true → IsSome (own_holding v h p)
own_row v h p g None at is own = cc
own_row v h p g (Some r) at is own =
    let same : r.holder ≡ g = cc in
    ap is_some (own_at v h p r true at (ap (is_name h) same ∙ own))

own_stays : (w v : World) (h p : Name) → Stays w v → IsSome (own_holding w h p) → IsSome (own_holding v h p)
own_stays w v h p stays there =
    let a = present (own_holding w h p) (let t = there in cc) in
    let r = is_owned w h p a.0 a.1 in
    own_row v h p r.row.holder (fmap.get v.rows p) refl (stays.purses p r.row.holder (ap (option_map (λ (x : Row). x.holder)) r.at)) r.owned

-- ---- the parts of a view

all_only : {X : Type 0} (P : X → Type 0) (b : Bool) (x : X) → (b ≡ true → P x) → AllByRecursion P (only_if b x)
all_only P true x h = (h refl, tt)
all_only P false x h = tt

asked_of : (v : World) (h : Name) (caller : Caller) (c : Command) → AllByRecursion (IsOf v h) (for_holder h caller (Event.Own c))
asked_of v h (Holder g) c = all_only (IsOf v h) (is_name h g) (Event.Own c) (λ _. tt)
asked_of v h Operator c = tt
asked_of v h (Clerk m) c = tt

-- a purse that is issued is its holder's
issued_own : (w v : World) (m p g h : Name) (o : Option Refusal) → Stays (unless w o (tell (set_row w p (new_row g p)) reply.Added)).state v → (is_none o && is_name h g) ≡ true → IsSome (own_holding v h p)
issued_own w v m p g h (Some r) stays t = cc
issued_own w v m p g h None stays t = own_row v h p g (fmap.get v.rows p) refl (stays.purses p g (ap (option_map (λ (x : Row). x.holder)) (get-inserted w.rows p (new_row g p)))) t

module _ (w : World) (caller : Caller) (c : Command) (h : Name) where
  abbrev after : World
  after = (step w caller c).world

  stays_own : (p : Name) (b : Bool) → (b && is_some (own_holding w h p)) ≡ true → IsSome (own_holding after h p)
  stays_own p b t = own_stays w after h p (step_stays w caller c) (both_parts b _ t).1

put_own : (w v : World) (h : Name) (o : Option (Name × Message)) → Stays w v → AllByRecursion (IsOf v h) (put_event w h o)
put_own w v h None stays = tt
put_own w v h (Some m) stays = all_only (IsOf v h) (option_map_or has_room (own_holding w h m.0) false) (Event.Put m.0 m.1) (λ t. own_stays w v h m.0 stays (place (own_holding w h m.0) t))
  where
    place : (o : Option Rattle.mx_book.specs.World.Holding) → option_map_or has_room o false ≡ true → IsSome o
    place None t = cc
    place (Some a) t = refl

issued_of : (w : World) (caller : Caller) (c : Command) (h : Name) → AllByRecursion (IsOf (step w caller c).world h) (issued_event w h caller c)
issued_of w (Clerk m) (Load p amount reference) h = all_only (IsOf (after w (Clerk m) (Load p amount reference) h) h) _ (Event.Loaded p reference amount) (stays_own w (Clerk m) (Load p amount reference) h p (is_none (idle_load w m p amount reference)))
issued_of w (Clerk m) (NewPurse p g) h = all_only (IsOf (after w (Clerk m) (NewPurse p g) h) h) _ (Event.Issued p) (issued_own w _ m p g h (new_purse_refusal w m p g) (after_stays w (Clerk m) (NewPurse p g)))
issued_of w Operator (Settle d) h = all_only (IsOf (after w Operator (Settle d) h) h) _ (Event.Settled d.from d) (stays_own w Operator (Settle d) h d.from (is_none (settle_refusal w d)))
issued_of w caller c h = tt

-- ---- a view

pub view_own : (w : World) (caller : Caller) (c : Command) (h : Name) → AllByRecursion (IsOf (step w caller c).world h) (view_of w h caller c)
unfolding view_of
view_own w caller c h =
    all_append (IsOf (step w caller c).world h) (for_holder h caller (Event.Own c) ++ issued_event w h caller c) (put_event (base w caller c).state h (base w caller c).sent)
    (all_append (IsOf (step w caller c).world h) (for_holder h caller (Event.Own c)) (issued_event w h caller c) (asked_of (step w caller c).world h caller c) (issued_of w caller c h))
    (put_own (base w caller c).state (step w caller c).world h (base w caller c).sent (after_stays w caller c))
