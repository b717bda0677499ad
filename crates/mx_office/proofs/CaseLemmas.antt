-- The cases of what is done: what tells and what does, a message that is put, a result that lies in the tray, and rows whose redemptions are collected.
use Rattle.std.proofs.Common.{◌≡◌, ℕ, Bool, true, false, cond, List, [], ◌∷◌, refl, sym, ◌∙◌, subst, Option, Some, None, option_map}
use Rattle.std.specs.FinMap as fmap
use Rattle.mx_pay.specs.Names.{name_cmp}
use Rattle.std.specs.List.{AllByRecursion}
use Rattle.mx_pay.specs.Details.{Details}
use Rattle.mx_pay.specs.Tokens.{IsToken}
use Rattle.mx_purse.specs.declared.message.Message.{Message}
use Rattle.mx_book.specs.World.{World, Row, Holding, Name, Token, opening, set_row, has_room, delivered, with_message, is_of_member, with_collected, all_collected}
use Rattle.mx_book.proofs.NameLemmas.{names_exact}
use Rattle.mx_book.proofs.PurseLemmas.{put_leads, put_vanishes, put_nowhere, change_there}
use Rattle.mx_book.proofs.UnderLemmas.{get-remake}
use Rattle.mx_command.specs.declared.values.Refusal.{Refusal}
use Rattle.mx_command.specs.declared.values.Reply.{Reply}
use Rattle.mx_command.specs.Commands.{Asked, IsAsked}
use Rattle.mx_office.specs.Step.{Deed, tell, refuse, unless, unless_told, on_found, idle, put_sent, is_kept, with_result, world_after, step, steps}
use Rattle.mx_office.specs.Reachable.{IsReachable}

-- what holds of either holds of what a test chooses
pub by_cond : {A : Type 0} (P : A → Type 0) (b : Bool) (x y : A) → (b ≡ true → P x) → (b ≡ false → P y) → P (cond b x y)
by_cond P true x y met failed = met refl
by_cond P false x y met failed = failed refl

-- ---- a deed

-- what holds of what is told, and of what is done, holds of what is done unless something is told
pub by_told : {S : Type 0} (P : Deed S → Type 0) (s : S) (o : Option Reply) (d : Deed S) → ((x : Reply) → o ≡ Some x → P (tell s x)) → (o ≡ None → P d) → P (unless_told s o d)
by_told P s None d told done = done refl
by_told P s (Some x) d told done = told x refl

-- and so of a refusal
pub by_refusal : {S : Type 0} (P : Deed S → Type 0) (s : S) (o : Option Refusal) (d : Deed S) → ((r : Refusal) → P (refuse s r)) → (o ≡ None → P d) → P (unless s o d)
by_refusal P s None d refused done = done refl
by_refusal P s (Some r) d refused done = refused r

-- of a purse's own refusal, as the office names it
pub by_named : {S R : Type 0} (P : Deed S → Type 0) (name : R → Refusal) (s : S) (o : Option R) (d : Deed S) → ((r : R) → P (refuse s (name r))) → (o ≡ None → P d) → P (unless s (option_map name o) d)
by_named P name s None d refused done = done refl
by_named P name s (Some r) d refused done = refused r

-- and of what is done with what is found
pub by_found : {S X : Type 0} (P : Deed S → Type 0) (s : S) (r : Refusal) (o : Option X) (f : X → Deed S) → P (refuse s r) → ((x : X) → o ≡ Some x → P (f x)) → P (on_found s r o f)
by_found P s r None f refused done = refused
by_found P s r (Some x) f refused done = done x refl

-- what changes something has a reference that is new
pub new_reference : (o : Option ℕ) (amount : ℕ) (r : Reply) (refusal : Option Refusal) → idle o amount r refusal ≡ None → o ≡ None
new_reference None amount r refusal e = refl
new_reference (Some before) amount r refusal e = cc

-- ---- what is sent

-- a message that comes into an inbox, or finds no place
pub by_room : (P : Holding → Type 0) (a : Holding) (m : Message) → P a → P (delivered a m) → P (with_message a m)
by_room P a m old new = by_cond P (has_room a) _ _ (λ _. new) (λ _. old)

-- what holds of a World, and of it with the message in the inbox of the row that is there, holds where the message is put
pub by_put : (P : World → Type 0) (w : World) (sent : Option (Name × Message)) → P w
    → ((m : Name × Message) (r : Row) → sent ≡ Some m → fmap.get w.rows m.0 ≡ Some r → P (set_row w m.0 (record r { holding = delivered r.holding m.1 }))) → P (put_sent w sent)
by_put P w None old new = old
by_put P w (Some m) old new = by_row (fmap.get w.rows m.0) refl
  where
    by_row : (o : Option Row) → fmap.get w.rows m.0 ≡ o → P (put_sent w (Some m))
    by_row None at = subst P (sym (put_nowhere w m.0 m.1 at)) old
    by_row (Some r) at = by_test (has_room r.holding) refl
      where
        by_test : (b : Bool) → has_room r.holding ≡ b → P (put_sent w (Some m))
        by_test true room = subst P (sym (change_there w m.0 (λ x. record x { holding = delivered x.holding m.1 }) r at) ∙ put_leads w m.0 m.1 r at room) (new m r refl at)
        by_test false room = subst P (sym (put_vanishes w m.0 m.1 r at room)) old

-- what holds of a World, and of it with the result in the tray, holds where the result is sent
pub by_tray : (P : World → Type 0) (w : World) (o : Option (Name × Details)) → P w → ((x : Name × Details) → o ≡ Some x → is_kept w x ≡ false → P (record w { tray = fmap.insert w.tray x tt })) → P (with_result w o)
by_tray P w None old new = old
by_tray P w (Some x) old new = by_cond P (is_kept w x) _ _ (λ _. old) (λ kept. new x refl kept)

-- so what a deed leaves, and what both keep, is what stands after it
pub by_after : (P : World → Type 0) (d : Deed World) → P d.state
    → ((m : Name × Message) (r : Row) → d.sent ≡ Some m → fmap.get d.state.rows m.0 ≡ Some r → P (set_row d.state m.0 (record r { holding = delivered r.holding m.1 })))
    → ((v : World) (x : Name × Details) → P v → d.result ≡ Some x → is_kept v x ≡ false → P (record v { tray = fmap.insert v.tray x tt }))
    → P (world_after d)
by_after P d left put lies = let now = by_put P d.state d.sent left put in by_tray P (put_sent d.state d.sent) d.result now (λ x. lies (put_sent d.state d.sent) x now)

-- ---- rows whose redemptions are collected

-- what relates each row to itself, and to it with its redemptions collected, relates the rows of a name before and after
pub by_collected : (Rel : Option Row → Option Row → Type 0) (w : World) (m q : Name) → Rel None None
    → ((r : Row) → fmap.get w.rows q ≡ Some r → Rel (Some r) (Some r) × Rel (Some r) (Some (with_collected r))) → Rel (fmap.get w.rows q) (fmap.get (all_collected w m).rows q)
by_collected Rel w m q none some = subst (Rel (fmap.get w.rows q)) (sym (get-remake name_cmp (λ p r. cond (is_of_member w m r) (with_collected r) r) names_exact w.rows q)) (by_row (fmap.get w.rows q) refl)
  where
    by_row : (o : Option Row) → fmap.get w.rows q ≡ o → Rel o (option_map (λ r. cond (is_of_member w m r) (with_collected r) r) o)
    by_row None at = none
    by_row (Some r) at = by_cond (λ y. Rel (Some r) (Some y)) (is_of_member w m r) _ _ (λ _. (some r at).1) (λ _. (some r at).0)

-- what doesn't look at what is collected is the same
pub collected_same : {X : Type 0} (f : Option Row → X) (w : World) (m q : Name) → ((r : Row) → f (Some (with_collected r)) ≡ f (Some r)) → f (fmap.get (all_collected w m).rows q) ≡ f (fmap.get w.rows q)
collected_same f w m q same = by_collected (λ a b. f b ≡ f a) w m q refl (λ r at. (refl, same r))

-- ---- Worlds that commands lead to

pub by_steps : (P : World → Type 0) → ((w : World) (c : Asked) → IsAsked c → P w → P (step w c.0 c.1).world) → (w : World) (cs : List Asked) → AllByRecursion IsAsked cs → P w → P (steps w cs).end
by_steps P keeps w [] values h = h
by_steps P keeps w (c ∷ cs) values h = by_steps P keeps (step w c.0 c.1).world cs values.1 (keeps w c values.0 h)

-- what holds of an opening, and what each command that is a value keeps
pub by_reachable : (P : World → Type 0) → ((t : Token) → IsToken t → P (opening t)) → ((w : World) (c : Asked) → IsAsked c → P w → P (step w c.0 c.1).world) → (w : World) → IsReachable w → P w
by_reachable P opens keeps w r = subst P r.leads (by_steps P keeps (opening r.operator) r.commands r.values (opens r.operator r.bytes))
