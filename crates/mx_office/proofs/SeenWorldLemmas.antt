-- The invariant of a World under which value is conserved, what is under way, and the change of one row.
use Rattle.std.proofs.Common.{◌≡◌, ℕ, Bool, true, false, not, cond, refl, sym, ◌∙◌, ap, subst, Option, Some, None, ◌&&◌, ◌||◌, ◌⊎◌, inl, inr}
use Rattle.std.specs.Prelude.{nat_lt, is_some}
use Rattle.std.specs.Cmp.{both_ways}
use Rattle.std.specs.FinMap as fmap
use Rattle.mx_pay.specs.Details.{Details}
use Rattle.mx_pay.specs.Log.{has_logged}
use Rattle.mx_pay.specs.Names.{is_name}
use Rattle.mx_purse.specs.declared.message.Message.{Message}
use Rattle.mx_purse.specs.declared.status.Status.{Status}
use Rattle.mx_purse.specs.declared.status.Status.TheVariants.{Epr, Epv, Epa}
use Rattle.mx_purse.specs.Operations.{expects_req, expects_val, expects_ack}
use Rattle.mx_book.specs.Reads.{from_row, is_archived, is_settled}
use Rattle.mx_book.specs.Totals.{is_entry}
use Rattle.mx_book.specs.World.{World, Row, Name, set_row}
use Rattle.mx_book.proofs.FoundLemmas.{each_inserted}
use Rattle.mx_book.proofs.NameLemmas.{names_total, same_name}
use Rattle.mx_office.proofs.AccountLemmas.{in_tray}
use Rattle.mx_office.proofs.SeenLemmas.{Seen, Step, IsTimely, IsKnown, clash, not_true, both_parts, either_true, or_cases, timely-step, known-step}
use Rattle.mx_office.proofs.SoundLemmas.{IsSound, IsPresent, Turns, marked, expects_req_is, expects_val_is, expects_ack_is}

-- ---- what is seen of a World

-- whether the purse of a row, if there is one, is in a status with the details
abbrev pub has_status : (Status → Details → Bool) → Option Row → Details → Bool
has_status f None d = false
has_status f (Some r) d = f r.holding.purse.status d

-- whether it is, or has them logged or archived
abbrev pub side : (Status → Details → Bool) → Option Row → Bool → Details → Bool
side f None a d = a
side f (Some r) a d = f r.holding.purse.status d || (has_logged r.holding.purse.log d || a)

-- whether it has them logged or archived
abbrev pub entry_of : Option Row → Bool → Details → Bool
entry_of o a d = from_row false (λ (r : Row). has_logged r.holding.purse.log d) o || a

-- whether its next number is above a number
abbrev pub is_past : Option Row → ℕ → Bool
is_past None n = false
is_past (Some r) n = nat_lt n r.holding.purse.next

abbrev pub seen : World → Seen
seen w = record {
  gone = λ d. side expects_ack (fmap.get w.rows d.from) (is_archived w d.from d) d;
  due = λ d. side expects_val (fmap.get w.rows d.to) (is_archived w d.to d) d;
  epr = λ d. has_status expects_req (fmap.get w.rows d.from) d;
  epv = λ d. has_status expects_val (fmap.get w.rows d.to) d;
  from_past = λ d. is_past (fmap.get w.rows d.from) d.from_seq;
  to_past = λ d. is_past (fmap.get w.rows d.to) d.to_seq;
  archived = is_archived w;
  kept = is_entry w;
}

-- whether the value of a payment has left its from purse and is still due, and isn't settled
abbrev pub flowing : World → Details → Bool
flowing w d = ((seen w).gone d && (seen w).due d) && not (is_settled w d)

pub flow-same : (v w : World) (d : Details) → (seen v).gone d ≡ (seen w).gone d → (seen v).due d ≡ (seen w).due d → is_settled v d ≡ is_settled w d → flowing v d ≡ flowing w d
flow-same v w d gone due settled = (λ i. (gone i && due i) && not (settled i))

pub flow_parts : (w : World) (d : Details) → flowing w d ≡ true → ((seen w).gone d ≡ true) × ((seen w).due d ≡ true)
flow_parts w d h = both_parts _ _ (both_parts _ _ h).0

-- what is archived has left the from purse, and is due to the to purse
side_archived : (f : Status → Details → Bool) (o : Option Row) (a : Bool) (d : Details) → a ≡ true → side f o a d ≡ true
side_archived f None a d h = h
side_archived f (Some r) a d h = either_true (f r.holding.purse.status d) _ (either_true (has_logged r.holding.purse.log d) a h)

-- what is archived for both purses and isn't settled is under way
pub archived_flows : (w : World) (d : Details) → is_archived w d.from d ≡ true → is_archived w d.to d ≡ true → is_settled w d ≡ false → flowing w d ≡ true
archived_flows w d from to fresh = (λ k. (side_archived expects_ack (fmap.get w.rows d.from) _ d from k && side_archived expects_val (fmap.get w.rows d.to) _ d to k) && not (fresh k))

-- what each command keeps: purses are kept under their names and are sound, what is archived or in the tray is of purses
-- that are there, what is in the tray is logged and not archived, what is settled is archived for both purses, and messages
-- are timely
pub record Invariant (w : World) : Type 0 where
  pub named : (p : Name) (r : Row) → fmap.get w.rows p ≡ Some r → r.holding.purse.name ≡ p
  pub sound : (p : Name) (r : Row) → fmap.get w.rows p ≡ Some r → IsSound r.holding.purse (is_archived w p)
  pub held : (p : Name) (d : Details) → is_archived w p d ≡ true → is_some (fmap.get w.rows p) ≡ true
  pub tray : (p : Name) (d : Details) → in_tray w p d ≡ true → (r : Row) → fmap.get w.rows p ≡ Some r → has_logged r.holding.purse.log d ≡ true
  pub shelf : (p : Name) (d : Details) → in_tray w p d ≡ true → is_some (fmap.get w.rows p) ≡ true
  pub once : (p : Name) (d : Details) → in_tray w p d ≡ true → is_archived w p d ≡ false
  pub settled : (d : Details) → is_settled w d ≡ true → (is_archived w d.from d ≡ true) × (is_archived w d.to d ≡ true)
  pub timely : (p : Name) (r : Row) → fmap.get w.rows p ≡ Some r → (k : ℕ) (m : Message) → fmap.get r.holding.inbox k ≡ Some m → IsTimely (seen w) p m
  pub known : IsKnown (seen w)

-- ---- what follows for one payment

module _ (w : World) (i : Invariant w) where
  -- the purse of what is gone or due is there
  pub side_there : (f : Status → Details → Bool) (q : Name) (d : Details) (o : Option Row) → fmap.get w.rows q ≡ o → side f o (is_archived w q d) d ≡ true → is_some (fmap.get w.rows q) ≡ true
  side_there f q d None at h = i.held q d h
  side_there f q d (Some r) at h = ap is_some at

  gone_at : (d : Details) (o : Option Row) → fmap.get w.rows d.from ≡ o → side expects_ack o (is_archived w d.from d) d ≡ true → (is_past o d.from_seq ≡ true) × (has_status expects_req o d ≡ false)
  gone_at d None at h = clash (is_some (fmap.get w.rows d.from)) (i.held d.from d h) (ap is_some at)
  gone_at d (Some r) at h =
      let sound : IsSound r.holding.purse (is_archived w d.from) = i.sound d.from r at in
      let Present : Status → Type 0 = IsPresent r.holding.purse (is_archived w d.from) in
      or_cases (expects_ack r.holding.purse.status d) _
      (λ t. let was = expects_ack_is r.holding.purse.status d t in let x : Present (Epa d) = subst Present was sound.present in (x.past, ap (λ s. expects_req s d) was))
      (λ l. ((sound.entries d l).from (sym (i.named d.from r at)), not_true _ (λ t. let x : Present (Epr d) = subst Present (expects_req_is r.holding.purse.status d t) sound.present in clash _ l x.0.fresh))) h

  -- the from purse is past a payment that is gone
  pub gone_past : (d : Details) → (seen w).gone d ≡ true → ((seen w).from_past d ≡ true) × ((seen w).epr d ≡ false)
  gone_past d h = gone_at d (fmap.get w.rows d.from) refl h

  due_at : (d : Details) (o : Option Row) → fmap.get w.rows d.to ≡ o → side expects_val o (is_archived w d.to d) d ≡ true → is_past o d.to_seq ≡ true
  due_at d None at h = clash (is_some (fmap.get w.rows d.to)) (i.held d.to d h) (ap is_some at)
  due_at d (Some r) at h =
      let sound : IsSound r.holding.purse (is_archived w d.to) = i.sound d.to r at in
      let Present : Status → Type 0 = IsPresent r.holding.purse (is_archived w d.to) in
      or_cases (expects_val r.holding.purse.status d) _
      (λ t. let x : Present (Epv d) = subst Present (expects_val_is r.holding.purse.status d t) sound.present in x.past)
      (λ l. (sound.entries d l).to (sym (i.named d.to r at))) h

  pub due_past : (d : Details) → (seen w).due d ≡ true → (seen w).to_past d ≡ true
  due_past d h = due_at d (fmap.get w.rows d.to) refl h

  -- what is settled has left the from purse, and the to purse doesn't wait for it
  pub stays_open : (d : Details) → (seen w).gone d ≡ false → is_settled w d ≡ false
  stays_open d rests = not_true _ (λ t. clash _ (side_archived expects_ack (fmap.get w.rows d.from) _ d (i.settled d t).0) rests)

  waits_at_most : (d : Details) (o : Option Row) → fmap.get w.rows d.to ≡ o → has_status expects_val o d ≡ true → is_archived w d.to d ≡ false
  waits_at_most d None at h = clash false h refl
  waits_at_most d (Some r) at h =
      let x : IsPresent r.holding.purse (is_archived w d.to) (Epv d) = subst (IsPresent r.holding.purse (is_archived w d.to)) (expects_val_is r.holding.purse.status d h) (i.sound d.to r at).present in
      not_true _ (λ t. clash _ (either_true (has_logged r.holding.purse.log d) _ t) x.fresh)

  pub kept_rests : (d : Details) → is_archived w d.to d ≡ true → (seen w).epv d ≡ false
  kept_rests d kept = not_true _ (λ h. clash _ kept (waits_at_most d (fmap.get w.rows d.to) refl h))

  pub waits_open : (d : Details) → (seen w).epv d ≡ true → is_settled w d ≡ false
  waits_open d h = not_true _ (λ t. clash _ h (kept_rests d (i.settled d t).1))

-- what is waited for is due
pub waits_due : (d : Details) (o : Option Row) (a : Bool) → has_status expects_val o d ≡ true → side expects_val o a d ≡ true
waits_due d None a t = clash false t refl
waits_due d (Some x) a t = ap (λ b. b || (has_logged x.holding.purse.log d || a)) t

-- what is seen of the purse of a row
pub side_of : (f : Status → Details → Bool) (w : World) (p : Name) (r : Row) → fmap.get w.rows p ≡ Some r → (d : Details) (q : Name) → q ≡ p → side f (fmap.get w.rows q) (is_archived w q d) d ≡ marked f r.holding.purse (is_archived w p) d
side_of f w p r at d q h = ap (λ x. side f (fmap.get w.rows x) (is_archived w x d) d) h ∙ ap (λ o. side f o (is_archived w p d) d) at

-- ---- a row that is new, or takes the place of another

module _ (w : World) (p : Name) (before : Option Row) (s : Row) (at : fmap.get w.rows p ≡ before) where
  over_case : (Rel : Option Row → Option Row → Type 0) (q : Name) (b : Bool) → is_name q p ≡ b → ((o : Option Row) → Rel o o) → (q ≡ p → Rel before (Some s))
      → Rel (fmap.get w.rows q) (cond b (Some s) (fmap.get w.rows q))
  over_case Rel q true t stays moves = subst (λ o. Rel o (Some s)) (sym (ap (fmap.get w.rows) (same_name q p t) ∙ at)) (moves (same_name q p t))
  over_case Rel q false t stays moves = stays (fmap.get w.rows q)

  -- what relates the rows at a name before and after
  pub over_set : (Rel : Option Row → Option Row → Type 0) (q : Name) → ((o : Option Row) → Rel o o) → (q ≡ p → Rel before (Some s)) → Rel (fmap.get w.rows q) (fmap.get (set_row w p s).rows q)
  over_set Rel q stays moves = subst (λ o. Rel (fmap.get w.rows q) o) (sym (fmap.get-insert names_total w.rows p s q)) (over_case Rel q (is_name q p) refl stays moves)

  -- the messages of its inbox are timely
  pub kept_with : Invariant w → Step (seen w) (seen (set_row w p s)) → IsSound s.holding.purse (is_archived w p) → s.holding.purse.name ≡ p
      → ((k : ℕ) (m : Message) → fmap.get s.holding.inbox k ≡ Some m → IsTimely (seen w) p m)
      → ((d : Details) → in_tray w p d ≡ true → has_logged s.holding.purse.log d ≡ true)
      → Invariant (set_row w p s)
  kept_with i step sound name inbox tray = record {
    named = each_inserted w.rows p s (λ x y. y.holding.purse.name ≡ x) name i.named;
    sound = each_inserted w.rows p s (λ x y. IsSound y.holding.purse (is_archived w x)) sound i.sound;
    held = λ q d h. over_set (λ a b. is_some a ≡ true → is_some b ≡ true) q (λ o t. t) (λ e t. refl) (i.held q d h);
    tray = λ q d h y e. each_inserted w.rows p s (λ x z. (c : Details) → in_tray w x c ≡ true → has_logged z.holding.purse.log c ≡ true) tray (λ x z a c t. i.tray x c t z a) q y e d h;
    shelf = λ q d h. over_set (λ a b. is_some a ≡ true → is_some b ≡ true) q (λ o t. t) (λ e t. refl) (i.shelf q d h);
    once = i.once;
    settled = i.settled;
    timely = each_inserted w.rows p s (λ x y. (k : ℕ) (m : Message) → fmap.get y.holding.inbox k ≡ Some m → IsTimely (seen (set_row w p s)) x m)
        (λ k m e. timely-step _ _ step p m (inbox k m e))
        (λ x y a k m e. timely-step _ _ step x m (i.timely x y a k m e));
    known = known-step _ _ step i.known;
  }

module _ (w : World) (p : Name) (r s : Row) (at : fmap.get w.rows p ≡ Some r) where
  pub over_row : (Rel : Option Row → Option Row → Type 0) (q : Name) → ((o : Option Row) → Rel o o) → (q ≡ p → Rel (Some r) (Some s)) → Rel (fmap.get w.rows q) (fmap.get (set_row w p s).rows q)
  over_row = over_set w p (Some r) s at

  -- ---- what a rule makes of the purse of a row

  module _ (i : Invariant w) (moves : Details → Bool) (t : Turns (seen w) (is_archived w p) moves r.holding.purse s.holding.purse) where
    abbrev row_set : World
    row_set = set_row w p s

    own_name : (q : Name) → q ≡ p → q ≡ r.holding.purse.name
    own_name q e = e ∙ sym (i.named p r at)

    over_side : (Rel : Bool → Bool → Type 0) (f : Status → Details → Bool) (q : Name) (d : Details) → ((b : Bool) → Rel b b)
        → (q ≡ r.holding.purse.name → Rel (marked f r.holding.purse (is_archived w p) d) (marked f s.holding.purse (is_archived w p) d))
        → Rel (side f (fmap.get w.rows q) (is_archived w q d) d) (side f (fmap.get row_set.rows q) (is_archived w q d) d)
    over_side Rel f q d stays changes = over_row (λ a b. Rel (side f a (is_archived w q d) d) (side f b (is_archived w q d) d)) q (λ o. stays _)
        (λ e. subst (λ x. Rel (marked f r.holding.purse (is_archived w x) d) (marked f s.holding.purse (is_archived w x) d)) (sym e) (changes (own_name q e)))

    gone_left : (d : Details) → (seen w).gone d ≡ true → ((seen row_set).gone d ≡ true) ⊎ ((seen w).due d ≡ false)
    gone_left d = over_side (λ a b. a ≡ true → (b ≡ true) ⊎ ((seen w).due d ≡ false)) expects_ack d.from d (λ b h. inl h) (t.gone_stays d)

    gone_came : (d : Details) → (seen row_set).gone d ≡ true → ((seen w).gone d ≡ true) ⊎ (((seen w).due d ≡ true) × (moves d ≡ true))
    gone_came d = over_side (λ a b. b ≡ true → (a ≡ true) ⊎ (((seen w).due d ≡ true) × (moves d ≡ true))) expects_ack d.from d (λ b h. inl h) (t.gone_new d)

    pub due_left : (d : Details) → (seen w).due d ≡ true → ((seen row_set).due d ≡ true) ⊎ (((seen w).gone d ≡ true) × (moves d ≡ true))
    due_left d = over_side (λ a b. a ≡ true → (b ≡ true) ⊎ (((seen w).gone d ≡ true) × (moves d ≡ true))) expects_val d.to d (λ b h. inl h) (t.due_stays d)

    due_came : (d : Details) → (seen row_set).due d ≡ true → ((seen w).due d ≡ true) ⊎ ((seen w).to_past d ≡ false)
    due_came d = over_row (λ a b. side expects_val b (is_archived w d.to d) d ≡ true → (side expects_val a (is_archived w d.to d) d ≡ true) ⊎ (is_past a d.to_seq ≡ false)) d.to (λ o h. inl h)
        (λ e. subst (λ x. marked expects_val s.holding.purse (is_archived w x) d ≡ true → (marked expects_val r.holding.purse (is_archived w x) d ≡ true) ⊎ (nat_lt d.to_seq r.holding.purse.next ≡ false)) (sym e) (t.due_new d (own_name d.to e)))

    -- what is gone is due after it only where it was due before
    still_due : (d : Details) → (seen w).gone d ≡ true → (seen row_set).due d ≡ true → (seen w).due d ≡ true
    still_due d gone h = elim (due_came d h) [ inl due ↦ due | inr past ↦ clash _ (i.known d gone) past ]

    epr_came : (d : Details) → (seen row_set).epr d ≡ true → ((seen w).epr d ≡ true) ⊎ ((seen w).from_past d ≡ false)
    epr_came d = over_row (λ a b. has_status expects_req b d ≡ true → (has_status expects_req a d ≡ true) ⊎ (is_past a d.from_seq ≡ false)) d.from (λ o h. inl h) (λ _. t.epr d)

    from_past_stays : (d : Details) → (seen w).from_past d ≡ true → (seen row_set).from_past d ≡ true
    from_past_stays d = over_row (λ a b. is_past a d.from_seq ≡ true → is_past b d.from_seq ≡ true) d.from (λ o h. h) (λ _. t.next d.from_seq)

    to_past_stays : (d : Details) → (seen w).to_past d ≡ true → (seen row_set).to_past d ≡ true
    to_past_stays d = over_row (λ a b. is_past a d.to_seq ≡ true → is_past b d.to_seq ≡ true) d.to (λ o h. h) (λ _. t.next d.to_seq)

    -- the from purse is past what is gone, and doesn't wait for its request again
    never_again : (d : Details) → (seen w).gone d ≡ true → ((seen row_set).from_past d ≡ true) × ((seen row_set).epr d ≡ false)
    never_again d gone = let past = gone_past w i d gone in (from_past_stays d past.0, not_true _ (λ u. elim (epr_came d u) [ inl h ↦ clash _ h past.1 | inr f ↦ clash _ past.0 f ]))

    -- what is gone and isn't due isn't due later
    late_stays : (d : Details) → (seen w).gone d ≡ true → (seen w).due d ≡ false → (seen row_set).due d ≡ false
    late_stays d gone late = not_true _ (λ h. clash _ (still_due d gone h) late)

    pub turn_step : Step (seen w) (seen row_set)
    turn_step = record {
      epr = epr_came;
      epv = λ d. over_row (λ a b. has_status expects_val b d ≡ true → (has_status expects_val a d ≡ true) ⊎ (is_past a d.to_seq ≡ false)) d.to (λ o h. inl h) (λ _. t.epv d);
      from_past = from_past_stays;
      to_past = to_past_stays;
      due_stays = λ d h. elim (due_left d h) [ inl due ↦ inl due | inr x ↦ inr (never_again d x.0) ];
      due_new = due_came;
      gone_stays = λ d h. elim (gone_left d h) [ inl gone ↦ inl gone | inr late ↦ inr (not_true _ (λ u. clash _ (waits_due d (fmap.get row_set.rows d.to) _ u) (late_stays d h late)), late_stays d h late) ];
      gone_new = λ d h. elim (gone_came d h) [ inl gone ↦ inl gone | inr x ↦ inr (to_past_stays d (due_past w i d x.0)) ];
      archived = λ x d h. h;
      kept = λ x d. over_row (λ a b. entry_of a (is_archived w x d) d ≡ true → entry_of b (is_archived w x d) d ≡ true) x (λ o h. h)
          (λ e. subst (λ y. entry_of (Some r) (is_archived w y d) d ≡ true → entry_of (Some s) (is_archived w y d) d ≡ true) (sym e) (t.kept d));
    }

    pub turn_out : (d : Details) → moves d ≡ false → ((seen row_set).gone d && (seen row_set).due d) ≡ ((seen w).gone d && (seen w).due d)
    turn_out d rests = both_ways _ _
        (λ h. let x = both_parts _ _ h in elim (gone_came d x.0) [ inl gone ↦ (λ k. gone k && still_due d gone x.1 k) | inr y ↦ clash _ y.1 rests ])
        (λ h. let x = both_parts _ _ h in elim (gone_left d x.0) [ inr late ↦ clash _ x.1 late | inl gone ↦ elim (due_left d x.1) [ inl due ↦ (λ k. gone k && due k) | inr y ↦ clash _ y.1 rests ] ])

    -- what is under way stays, but for what begins or ends to be
    pub turn_flow : (d : Details) → moves d ≡ false → flowing row_set d ≡ flowing w d
    turn_flow d rests = (λ k. turn_out d rests k && not (is_settled w d))

    -- the invariant stays, where messages leave the inbox and what is in the tray is logged
    pub turn_keeps : ((k : ℕ) (m : Message) → fmap.get s.holding.inbox k ≡ Some m → IsTimely (seen w) p m) → ((d : Details) → in_tray w p d ≡ true → has_logged s.holding.purse.log d ≡ true) → Invariant row_set
    turn_keeps inbox tray = kept_with w p (Some r) s at i turn_step t.sound (t.name ∙ i.named p r at) inbox tray
