-- The invariant and the scheme's equation, where a rule is done to the World, a message is put and a result is sent.
use Rattle.std.proofs.Common.{◌≡◌, Bool, true, false, cond, refl, sym, ◌∙◌, ap, subst, Option, Some, None, ◌&&◌, ◌||◌, inl, inr, is_some, arith}
use Rattle.std.specs.Cmp.{nat_cmp_total}
use Rattle.std.specs.FinMap as fmap
use Rattle.mx_pay.specs.Names.{name_cmp}
use Rattle.mx_pay.specs.Tokens.{token_cmp}
use Rattle.mx_pay.specs.Details.{Details}
use Rattle.mx_pay.specs.Log.{has_logged}
use Rattle.mx_purse.specs.declared.message.Message.{Message}
use Rattle.mx_purse.specs.Operations.{expects_val}
use Rattle.mx_book.specs.declared.values.Caller.{Caller}
use Rattle.mx_book.specs.declared.values.MemberRow.{MemberRow}
use Rattle.mx_book.specs.Reads.{from_row, is_archived}
use Rattle.mx_book.specs.Totals.{is_entry}
use Rattle.mx_book.specs.World.{World, Row, Holding, Name, set_row, delivered}
use Rattle.mx_book.proofs.FoundLemmas.{inside}
use Rattle.mx_book.proofs.NameLemmas.{get-inserted}
use Rattle.mx_book.proofs.ResultLemmas.{results_total, same_result}
use Rattle.mx_command.specs.declared.values.Command.{Command}
use Rattle.mx_command.specs.declared.values.Reply.{Reply}
use Rattle.mx_office.specs.Step.{Deed, tell, in_place, world_after}
use Rattle.mx_office.proofs.AccountLemmas.{in_tray}
use Rattle.mx_office.proofs.CaseLemmas.{by_after}
use Rattle.mx_office.proofs.SeenLemmas.{Seen, Step, IsTimely, clash, either_true, both_parts, or_cases}
use Rattle.mx_office.proofs.SoundLemmas.{Turns, none_moves, still}
use Rattle.mx_office.proofs.SeenWorldLemmas.{Invariant, seen, side, entry_of, over_row, turn_step, turn_flow, turn_keeps}
use Rattle.mx_office.proofs.OutLemmas.{Books, books_keep}
use Rattle.mx_office.proofs.DeedLemmas.{IsKept, with_holding, not_some, done_books}

-- the invariant and the equation
pub record Sane (w : World) : Type 0 where
  pub invariant : Invariant w
  pub books : Books w

-- ---- what is lost stays lost

-- whether details are an entry of the to purse, and have left the from purse
abbrev pub lost_in : Seen → Details → Bool
lost_in o d = o.kept d.to d && o.gone d

-- what is lost in a World is lost in another
abbrev pub StaysLost : World → World → Type 0
StaysLost w v = (d : Details) → lost_in (seen w) d ≡ true → lost_in (seen v) d ≡ true

kept_due : (o : Option Row) (a : Bool) (d : Details) → entry_of o a d ≡ true → side expects_val o a d ≡ true
kept_due None a d h = h
kept_due (Some r) a d h = either_true (expects_val r.holding.purse.status d) _ h

pub stays_lost : (w v : World) → Step (seen w) (seen v) → StaysLost w v
stays_lost w v s d h =
    let parts = both_parts _ _ h in
    let kept : is_entry v d.to d ≡ true = s.kept d.to d parts.0 in
    let gone : (seen v).gone d ≡ true = elim (s.gone_stays d parts.1) [ inl g ↦ g | inr x ↦ clash ((seen v).due d) (kept_due (fmap.get v.rows d.to) (is_archived v d.to d) d kept) x.1 ] in
    (λ k. kept k && gone k)

-- ---- what a command does, before what it sends is put

-- whether details are in the log of the purse of a row, if there is one
abbrev pub logs : Option Row → Details → Bool
logs o d = from_row false (λ (r : Row). has_logged r.holding.purse.log d) o

-- what is done leaves a sane World; what is lost stays lost, what is sent is timely, and what is read is logged
pub record IsSaneDeed (w : World) (d : Deed World) : Type 0 where
  pub sane : Sane d.state
  pub lost : StaysLost w d.state
  pub sent : (m : Name × Message) → d.sent ≡ Some m → IsTimely (seen d.state) m.0 m.1
  pub read : (result : Name × Details) → d.result ≡ Some result → logs (fmap.get d.state.rows result.0) result.1 ≡ true

pub told_sane : (w v : World) (x : Reply) → Sane v → StaysLost w v → IsSaneDeed w (tell v x)
told_sane w v x s lost = record { sane = s; lost = lost; sent = λ m e. not_some m e; read = λ result e. not_some result e }

-- ---- what isn't of a purse

-- tokens, members and holders are nothing to the invariant and the equation
pub apart_sane : (w : World) (tokens : fmap.FinMap token_cmp Caller) (members : fmap.FinMap name_cmp MemberRow) (holders : fmap.FinMap name_cmp Name) → Sane w → Sane (record w { tokens = tokens; members = members; holders = holders })
apart_sane w tokens members holders s =
    let i : Invariant w = s.invariant in
    let b : Books w = s.books in
    record {
      invariant = record { named = i.named; sound = i.sound; held = i.held; tray = i.tray; shelf = i.shelf; once = i.once; settled = i.settled; timely = i.timely; known = i.known };
      books = record { out = b.out; covers = b.covers; equal = b.equal };
    }

-- ---- a rule on a purse

pub row_sane : (w : World) (p : Name) (r : Row) (asked : Command) (d : Deed Holding) → fmap.get w.rows p ≡ Some r → Sane w → IsKept w p r asked d → IsSaneDeed w (in_place (λ b. set_row w p (with_holding r b)) d)
row_sane w p r asked d at sane k =
    let s : Row = with_holding r d.state in
    record {
      sane = record { invariant = k.invariant; books = done_books w p r d.state asked d.reply at sane.books k.done };
      lost = stays_lost w (set_row w p s) k.step;
      sent = k.sent;
      read = λ result e.
          let x = k.read result e in
          ap (λ y. logs (fmap.get (set_row w p s).rows y) result.1) x.0 ∙ ap (λ o. logs o result.1) (get-inserted w.rows p s) ∙ x.1;
    }

-- ---- a message that is put

inbox_case : (x : Bool) (m n : Message) (o : Option Message) (A : Message → Type 0) → A m → (o ≡ Some n → A n) → cond x (Some m) o ≡ Some n → A n
inbox_case true m n o A new old e = subst A (inside m n e) new
inbox_case false m n o A new old e = old e

module _ (w : World) (p : Name) (m : Message) (s : Sane w) (timely : IsTimely (seen w) p m) (r : Row) (at : fmap.get w.rows p ≡ Some r) where
  -- the row with the message in its inbox
  abbrev with_it : Row
  with_it = with_holding r (delivered r.holding m)

  still_put : Turns (seen w) (is_archived w p) none_moves r.holding.purse r.holding.purse
  still_put = still (seen w) (is_archived w p) r.holding.purse r.holding.purse.balance r.holding.purse.lines (omega arith) (s.invariant.sound p r at)

  step_put : Step (seen w) (seen (set_row w p with_it))
  step_put = turn_step w p r with_it at s.invariant none_moves still_put

  sane_put : Sane (set_row w p with_it)
  sane_put =
      let i : Invariant w = s.invariant in
      record {
        invariant = turn_keeps w p r with_it at i none_moves still_put
            (λ k n e. inbox_case _ m n (fmap.get r.holding.inbox k) (IsTimely (seen w) p) timely (i.timely p r at k n) (sym (fmap.get-insert nat_cmp_total r.holding.inbox r.holding.next_message m k) ∙ e))
            (λ d h. i.tray p d h r at);
        books = books_keep w p (Some r) with_it at s.books (λ d. turn_flow w p r with_it at i none_moves still_put d refl) refl;
      }

  lost_put : StaysLost w (set_row w p with_it)
  lost_put = stays_lost w (set_row w p with_it) step_put

  logged_put : (x : Name) (d : Details) → logs (fmap.get w.rows x) d ≡ true → logs (fmap.get (set_row w p with_it).rows x) d ≡ true
  logged_put x d = over_row w p r with_it at (λ a b. logs a d ≡ true → logs b d ≡ true) x (λ o t. t) (λ _ t. t)

-- ---- a result that is sent

insert_case : (b : Bool) (o : Option (Unit {0})) → is_some (cond b (Some tt) o) ≡ (b || is_some o)
insert_case true o = refl
insert_case false o = refl

tray_split : {A : Type 0} (w : World) (p x : Name) (d c : Details) → fmap.contains_key (fmap.insert w.tray (p, d) tt) (x, c) ≡ true → (◌≡◌ {A = Name × Details} (x, c) (p, d) → A) → (in_tray w x c ≡ true → A) → A
tray_split w p x d c h new old =
    or_cases _ _ (λ t. new (same_result (x, c) (p, d) t)) old (sym (insert_case _ (fmap.get w.tray (x, c))) ∙ sym (ap is_some (fmap.get-insert results_total w.tray (p, d) tt (x, c))) ∙ h)

logs_there : (o : Option Row) (d : Details) → logs o d ≡ true → is_some o ≡ true
logs_there None d h = clash false h refl
logs_there (Some r) d h = refl

tray_sane : (w : World) (p : Name) (d : Details) → Sane w → is_archived w p d ≡ false → logs (fmap.get w.rows p) d ≡ true → Sane (record w { tray = fmap.insert w.tray (p, d) tt })
tray_sane w p d s fresh logged =
    let i : Invariant w = s.invariant in
    let b : Books w = s.books in
    record {
      invariant = record {
        named = i.named;
        sound = i.sound;
        held = i.held;
        tray = λ x c h. tray_split w p x d c h
            (λ e. subst (λ (y : Name × Details). (r : Row) → fmap.get w.rows y.0 ≡ Some r → has_logged r.holding.purse.log y.1 ≡ true) (sym e) (λ r at. ap (λ o. logs o d) (sym at) ∙ logged)) (λ t. i.tray x c t);
        shelf = λ x c h. tray_split w p x d c h (λ e. subst (λ (y : Name × Details). is_some (fmap.get w.rows y.0) ≡ true) (sym e) (logs_there _ d logged)) (λ t. i.shelf x c t);
        once = λ x c h. tray_split w p x d c h (λ e. subst (λ (y : Name × Details). is_archived w y.0 y.1 ≡ false) (sym e) fresh) (λ t. i.once x c t);
        settled = i.settled;
        timely = i.timely;
        known = i.known;
      };
      books = record { out = b.out; covers = b.covers; equal = b.equal };
    }

or_neither : (a b : Bool) → (a || b) ≡ false → b ≡ false
or_neither true b h = clash true refl h
or_neither false b h = h

-- a sane World, in which what was lost is lost
pub record IsNextSane (w v : World) : Type 0 where
  pub sane : Sane v
  pub lost : StaysLost w v

-- and in which what is logged in u is logged
record IsSaneAfter (w u v : World) : Type 0 where
  next : IsNextSane w v
  logged : (x : Name) (d : Details) → logs (fmap.get u.rows x) d ≡ true → logs (fmap.get v.rows x) d ≡ true

-- what stands after a command
pub after_sane : (w : World) (d : Deed World) → IsSaneDeed w d → IsNextSane w (world_after d)
after_sane w d s =
    let after : IsSaneAfter w d.state (world_after d) =
    by_after (IsSaneAfter w d.state) d (record { next = record { sane = s.sane; lost = s.lost }; logged = λ x c t. t })
    (λ m r e at.
    let timely = s.sent m e in
    record { next = record { sane = sane_put d.state m.0 m.1 s.sane timely r at; lost = λ c t. lost_put d.state m.0 m.1 s.sane timely r at c (s.lost c t) }; logged = logged_put d.state m.0 m.1 s.sane timely r at })
    (λ v x y e f. record { next = record { sane = tray_sane v x.0 x.1 y.next.sane (or_neither _ _ f) (y.logged x.0 x.1 (s.read x e)); lost = y.next.lost }; logged = y.logged }) in
    after.next
