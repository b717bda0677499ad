-- What each rule on a purse keeps, and that a refused command leaves the World.
use Rattle.std.proofs.Common.{◌≡◌, subst, ℕ, Bool, true, false, refl, ap, None, option_map, ◌∙◌}
use Rattle.std.specs.FinMap as fmap
use Rattle.mx_purse.specs.Operations.{start_from_refusal, start_to_refusal, redeem_refusal}
use Rattle.mx_book.specs.World.{Holding, Name, World, set_row}
use Rattle.mx_command.specs.declared.values.Command.{Command}
use Rattle.mx_command.specs.declared.values.Command.TheVariants.{Show, StartFrom, StartTo, Handle, Discard, Abort, ReadLog, Redeem, Inbox, Statement}
use Rattle.mx_command.specs.declared.values.Refusal.{Refusal}
use Rattle.mx_command.specs.declared.values.Reply.{Reply}
use Rattle.mx_command.specs.declared.values.Reply.TheVariants as reply
use Rattle.mx_command.specs.declared.values.Refusal.TheVariants.{NoSuchMessage}
use Rattle.mx_office.specs.Conservation.{is_redemption}
use Rattle.mx_office.proofs.CaseLemmas.{by_told, by_named, by_found, new_reference}
use Rattle.mx_office.specs.Step.{Deed, Asks, tell, idle, refusal_of_start, refusal_of_redeem, asks, show, start_from, start_to, handle, discard, abort, read_log, redeem, inbox, statement, base, put_sent, with_result, step}
use Rattle.mx_book.specs.declared.values.Caller.{Caller}
use Rattle.mx_book.proofs.PurseLemmas.{set_same}
use Rattle.mx_office.proofs.MoveCaseLemmas.{by_moves}

-- where it is refused, nothing changes and nothing is sent
abbrev pub Leaves : {S : Type 0} → S → Deed S → Type 0
Leaves s d = (r : Refusal) → d.reply ≡ reply.Refused r → (d.state ≡ s) × (d.sent ≡ None) × (d.result ≡ None)

abbrev pub is_refusal : Reply → Bool
is_refusal (reply.Refused r) = true
is_refusal r = false

-- what isn't refused
pub accepted_leaves : {S : Type 0} (s : S) (d : Deed S) → is_refusal d.reply ≡ false → Leaves s d
accepted_leaves s d accepted r e = let refused = ap is_refusal e in cc

-- the redemptions stay, or one more, where one may be, has a reference that none had
pub data Redeems (may : Bool) (a b : Holding) : Type 0 where
  Same : b.redemptions ≡ a.redemptions → Redeems may a b
  More : may ≡ true → (reference : Name) (amount : ℕ) → fmap.get a.redemptions reference ≡ None → b.redemptions ≡ fmap.insert a.redemptions reference amount → Redeems may a b

pub record Keeps (may : Bool) (a : Holding) (d : Deed Holding) : Type 0 where
  pub leaves : Leaves a d
  pub redeems : Redeems may a d.state

told : {may : Bool} (a : Holding) (r : Reply) → Keeps may a (tell a r)
told a r = record { leaves = λ x e. (refl, refl, refl); redeems = Same refl }

done : {may : Bool} (a : Holding) (d : Deed Holding) → is_refusal d.reply ≡ false → Redeems may a d.state → Keeps may a d
done a d accepted redeems = record { leaves = accepted_leaves a d accepted; redeems = redeems }

-- ---- each rule

-- a rule that is asked of a purse; none but a redemption has one more
abbrev pub EachKeeps : Command → Asks → Type 0
EachKeeps c (Asks.OnPurse p f) = (a : Holding) → Keeps (is_redemption c) a (f a)
EachKeeps c x = Unit {0}

pub each_keeps : (c : Command) → EachKeeps c (asks c)
unfolding show start_from start_to handle discard abort read_log redeem inbox statement
each_keeps (Show p) = λ a. told a _
each_keeps (StartFrom p peer value seq) = λ a. by_named (Keeps false a) refusal_of_start a (start_from_refusal a.purse peer value) _ (λ r. told a _) (λ e. done a _ refl (Same refl))
each_keeps (StartTo p peer value seq) = λ a. by_named (Keeps false a) refusal_of_start a (start_to_refusal a.purse peer) _ (λ r. told a _) (λ e. done a _ refl (Same refl))
each_keeps (Handle p number) = λ a. by_found (Keeps false a) a NoSuchMessage (fmap.get a.inbox number) _ (told a _) (λ m e. done a _ refl (Same refl))
each_keeps (Discard p number) = λ a. by_found (Keeps false a) a NoSuchMessage (fmap.get a.inbox number) _ (told a _) (λ m e. done a _ refl (Same refl))
each_keeps (Abort p) = λ a. done a _ refl (Same refl)
each_keeps (ReadLog p place) = λ a. done a _ refl (Same refl)
each_keeps (Redeem p amount reference) = λ a.
    by_told (Keeps true a) a (idle (fmap.get a.redemptions reference) amount reply.Redeemed (option_map refusal_of_redeem (redeem_refusal a.purse amount))) _ (λ x e. told a x)
    (λ e. done a _ refl (More refl reference amount (new_reference _ _ _ _ e) refl))
each_keeps (Inbox p) = λ a. told a _
each_keeps (Statement p after) = λ a. told a _
each_keeps c = tt

-- ---- each command

base_leaves : (w : World) (caller : Caller) (c : Command) → Leaves w (base w caller c)
base_leaves w = by_moves w (λ _ _ d. Leaves w d) (record {
  told = λ caller c x is. λ r e. (refl, refl, refl);
  member = λ m t none free. accepted_leaves w _ refl;
  grant = λ m amount row there small room. accepted_leaves w _ refl;
  holder = λ m h t row there none free. accepted_leaves w _ refl;
  purse = λ m p h there none few. accepted_leaves w _ refl;
  load = λ m p amount reference l. accepted_leaves w _ refl;
  collect = λ m row there room. accepted_leaves w _ refl;
  archive = λ p. accepted_leaves w _ refl;
  clear = λ p set may. accepted_leaves w _ refl;
  settle = λ d s. accepted_leaves w _ refl;
  own = λ h c p f r e at owned x is.
      let same = (subst (EachKeeps c) e (each_keeps c) r.holding).leaves x is in
      (ap (λ b. set_row w p (record r { holding = b })) same.0 ∙ set_same w p r at, same.1, same.2);
})

-- a refused command leaves the World
pub refused_stays : (w : World) (caller : Caller) (c : Command) (r : Refusal) → (base w caller c).reply ≡ reply.Refused r → (step w caller c).world ≡ w
unfolding step
refused_stays w caller c r e = let same = base_leaves w caller c r e in (λ i. with_result (put_sent (same.0 i) (same.1 i)) (same.2 i))
