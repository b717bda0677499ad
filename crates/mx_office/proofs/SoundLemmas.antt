-- A purse that is sound: what it waits for is new, and its own numbers are past; and what a rule may make of it.
use Rattle.std.proofs.Common.{◌≡◌, ℕ, ◌≤◌, Bool, true, false, refl, sym, ◌∙◌, ap, subst, ◌||◌, ◌⊎◌, inl, inr, arith}
use Rattle.std.specs.Prelude.{nat_lt}
use Rattle.std.specs.Cmp.{both_ways}
use Rattle.mx_pay.specs.Details.{Details, is_details}
use Rattle.mx_pay.specs.Log.{Entries, has_logged, with_entry}
use Rattle.mx_pay.proofs.SameLemmas.{same_details, details_itself, has-with_entry}
use Rattle.mx_purse.specs.State.{State}
use Rattle.mx_purse.specs.declared.status.Status.{Status}
use Rattle.mx_purse.specs.declared.status.Status.TheVariants.{EaFrom, EaTo, Epr, Epv, Epa}
use Rattle.mx_purse.specs.Operations.{pending, with_pending, aborted, expects_req, expects_val, expects_ack}
use Rattle.mx_book.specs.World.{Name}
use Rattle.mx_office.proofs.SeenLemmas.{Seen, clash, not_true, either_true, or_cases}

-- details are the same in either order
pub details_turned : (d e : Details) → is_details d e ≡ is_details e d
details_turned d e = both_ways _ _
    (λ t. ap (λ x. is_details e x) (same_details d e t) ∙ details_itself e)
    (λ t. ap (λ x. is_details d x) (same_details e d t) ∙ details_itself d)

or_assoc : (a b c : Bool) → ((a || b) || c) ≡ (a || (b || c))
or_assoc true b c = refl
or_assoc false b c = refl

-- ---- statuses

pub expects_req_is : (s : Status) (d : Details) → expects_req s d ≡ true → s ≡ Epr d
expects_req_is (Epr e) d t = ap Epr (same_details e d t)
expects_req_is s d t = clash false t refl

pub expects_val_is : (s : Status) (d : Details) → expects_val s d ≡ true → s ≡ Epv d
expects_val_is (Epv e) d t = ap Epv (same_details e d t)
expects_val_is s d t = clash false t refl

pub expects_ack_is : (s : Status) (d : Details) → expects_ack s d ≡ true → s ≡ Epa d
expects_ack_is (Epa e) d t = ap Epa (same_details e d t)
expects_ack_is s d t = clash false t refl

-- ---- one purse

-- the own number of details that a purse logged, or that are archived for it, is below its next number
pub record IsPastEntry (q : State) (d : Details) : Type 0 where
  pub from : d.from ≡ q.name → nat_lt d.from_seq q.next ≡ true
  pub to : d.to ≡ q.name → nat_lt d.to_seq q.next ≡ true

-- details that the purse is this side of, whose number is past, and that are neither logged nor archived
pub record IsSide (q : State) (archived : Details → Bool) (d : Details) (name peer : Name) (seq : ℕ) : Type 0 where
  pub own : name ≡ q.name
  pub other : peer ≡ q.name → ⊥
  pub past : nat_lt seq q.next ≡ true
  pub fresh : (has_logged q.log d || archived d) ≡ false

abbrev pub IsSender : State → (Details → Bool) → Details → Type 0
IsSender q archived d = IsSide q archived d d.from d.to d.from_seq

abbrev pub IsReceiver : State → (Details → Bool) → Details → Type 0
IsReceiver q archived d = IsSide q archived d d.to d.from d.to_seq

-- the payment under way, by the status
abbrev pub IsPresent : State → (Details → Bool) → Status → Type 0
IsPresent q archived EaFrom = Unit {0}
IsPresent q archived EaTo = Unit {0}
IsPresent q archived (Epr d) = IsSender q archived d × (d.value ≤ q.balance)
IsPresent q archived (Epv d) = IsReceiver q archived d
IsPresent q archived (Epa d) = IsSender q archived d

-- what is under way is such, and so are all entries
pub record IsSound (q : State) (archived : Details → Bool) : Type 0 where
  pub present : IsPresent q archived q.status
  pub entries : (d : Details) → (has_logged q.log d || archived d) ≡ true → IsPastEntry q d

-- whether the purse waits with these details, or has them logged or archived
abbrev pub marked : (Status → Details → Bool) → State → (Details → Bool) → Details → Bool
marked f q archived d = f q.status d || (has_logged q.log d || archived d)

-- ---- purses that have the same entries

-- a purse n of the name of q and with its entries, whose next number is no lower
pub record IsLike (q n : State) (a c : Details → Bool) : Type 0 where
  pub name : n.name ≡ q.name
  pub next : (k : ℕ) → nat_lt k q.next ≡ true → nat_lt k n.next ≡ true
  pub marks : (d : Details) → (has_logged n.log d || c d) ≡ (has_logged q.log d || a d)

module _ (q n : State) (a c : Details → Bool) (l : IsLike q n a c) where
  pub entries_like : ((d : Details) → (has_logged q.log d || a d) ≡ true → IsPastEntry q d) → (d : Details) → (has_logged n.log d || c d) ≡ true → IsPastEntry n d
  entries_like old d h = let e = old d (sym (l.marks d) ∙ h) in record { from = λ t. l.next _ (e.from (t ∙ l.name)); to = λ t. l.next _ (e.to (t ∙ l.name)) }

  pub side_like : (d : Details) (name peer : Name) (seq : ℕ) → IsSide q a d name peer seq → IsSide n c d name peer seq
  side_like d name peer seq x = record { own = x.own ∙ sym l.name; other = λ h. x.other (h ∙ l.name); past = l.next seq x.past; fresh = l.marks d ∙ x.fresh }

  pub sound_like : n.status ≡ q.status → q.balance ≤ n.balance → IsSound q a → IsSound n c
  sound_like status more i = record { present = subst (IsPresent n c) (sym status) (present_like q.status i.present); entries = entries_like i.entries }
    where
      present_like : (s : Status) → IsPresent q a s → IsPresent n c s
      present_like EaFrom x = tt
      present_like EaTo x = tt
      present_like (Epr d) x = let enough : d.value ≤ q.balance = x.1 in (side_like d d.from d.to d.from_seq x.0, omega (arith, enough, more))
      present_like (Epv d) x = side_like d d.to d.from d.to_seq x
      present_like (Epa d) x = side_like d d.from d.to d.from_seq x

-- ---- abort leaves what is gone and what is due

entry_mark : (log : Entries) (archived : Bool) (d e : Details) → (has_logged (with_entry log e) d || archived) ≡ (is_details e d || (has_logged log d || archived))
entry_mark log archived d e =
    ap (λ b. b || archived) (has-with_entry log e d) ∙ or_assoc (is_details d e) (has_logged log d) archived ∙ ap (λ b. b || (has_logged log d || archived)) (details_turned d e)

-- what was logged is logged after an abort
pub grows : (log : Entries) (d : Details) → has_logged log d ≡ true → (s : Status) → has_logged (with_pending log (pending s)) d ≡ true
grows log d h (Epv e) = has-with_entry log e d ∙ either_true (is_details d e) (has_logged log d) h
grows log d h (Epa e) = has-with_entry log e d ∙ either_true (is_details d e) (has_logged log d) h
grows log d h s = h

or_grows : (a b c : Bool) → (a ≡ true → b ≡ true) → (a || c) ≡ true → (b || c) ≡ true
or_grows true b c h t = ap (λ x. x || c) (h refl)
or_grows false b c h t = either_true b c t

module _ (q : State) (archived : Details → Bool) where
  gone_case : (d : Details) → d.from ≡ q.name → (s : Status) → IsPresent q archived s → (has_logged (with_pending q.log (pending s)) d || archived d) ≡ (expects_ack s d || (has_logged q.log d || archived d))
  gone_case d from EaFrom i = refl
  gone_case d from EaTo i = refl
  gone_case d from (Epr e) i = refl
  gone_case d from (Epv e) i =
      entry_mark q.log (archived d) d e ∙ ap (λ b. b || (has_logged q.log d || archived d)) (not_true (is_details e d) (λ t. i.other (ap (λ x. x.from) (same_details e d t) ∙ from)))
  gone_case d from (Epa e) i = entry_mark q.log (archived d) d e

  due_case : (d : Details) → d.to ≡ q.name → (s : Status) → IsPresent q archived s → (has_logged (with_pending q.log (pending s)) d || archived d) ≡ (expects_val s d || (has_logged q.log d || archived d))
  due_case d to EaFrom i = refl
  due_case d to EaTo i = refl
  due_case d to (Epr e) i = refl
  due_case d to (Epv e) i = entry_mark q.log (archived d) d e
  due_case d to (Epa e) i =
      entry_mark q.log (archived d) d e ∙ ap (λ b. b || (has_logged q.log d || archived d)) (not_true (is_details e d) (λ t. i.other (ap (λ x. x.to) (same_details e d t) ∙ to)))

  -- what an abort leaves logged
  entries_case : ((d : Details) → (has_logged q.log d || archived d) ≡ true → IsPastEntry q d) → (s : Status) → IsPresent q archived s
      → (d : Details) → (has_logged (with_pending q.log (pending s)) d || archived d) ≡ true → IsPastEntry q d
  entries_case old (Epv e) i d h =
      or_cases (is_details e d) _ (λ t. subst (IsPastEntry q) (same_details e d t) (record { from = λ own. absurd (i.other own); to = λ _. i.past })) (old d) (sym (entry_mark q.log (archived d) d e) ∙ h)
  entries_case old (Epa e) i d h =
      or_cases (is_details e d) _ (λ t. subst (IsPastEntry q) (same_details e d t) (record { from = λ _. i.past; to = λ own. absurd (i.other own) })) (old d) (sym (entry_mark q.log (archived d) d e) ∙ h)
  entries_case old EaFrom i d h = old d h
  entries_case old EaTo i d h = old d h
  entries_case old (Epr e) i d h = old d h

-- ---- what a rule may make of a purse

-- a purse q and what it becomes, beside what is seen of a World: `moves` are the details that begin or end to be under way
pub record Turns (o : Seen) (archived moves : Details → Bool) (q n : State) : Type 0 where
  pub name : n.name ≡ q.name
  pub next : (k : ℕ) → nat_lt k q.next ≡ true → nat_lt k n.next ≡ true
  pub epr : (d : Details) → expects_req n.status d ≡ true → (expects_req q.status d ≡ true) ⊎ (nat_lt d.from_seq q.next ≡ false)
  pub epv : (d : Details) → expects_val n.status d ≡ true → (expects_val q.status d ≡ true) ⊎ (nat_lt d.to_seq q.next ≡ false)
  pub gone_stays : (d : Details) → d.from ≡ q.name → marked expects_ack q archived d ≡ true → (marked expects_ack n archived d ≡ true) ⊎ (o.due d ≡ false)
  pub gone_new : (d : Details) → d.from ≡ q.name → marked expects_ack n archived d ≡ true → (marked expects_ack q archived d ≡ true) ⊎ ((o.due d ≡ true) × (moves d ≡ true))
  pub due_stays : (d : Details) → d.to ≡ q.name → marked expects_val q archived d ≡ true → (marked expects_val n archived d ≡ true) ⊎ ((o.gone d ≡ true) × (moves d ≡ true))
  pub due_new : (d : Details) → d.to ≡ q.name → marked expects_val n archived d ≡ true → (marked expects_val q archived d ≡ true) ⊎ (nat_lt d.to_seq q.next ≡ false)
  pub kept : (d : Details) → (has_logged q.log d || archived d) ≡ true → (has_logged n.log d || archived d) ≡ true
  pub sound : IsSound n archived

-- no payment begins or ends to be under way
abbrev pub none_moves : Details → Bool
none_moves d = false

-- a purse with more money and more lines
pub still : (o : Seen) (archived : Details → Bool) (q : State) (balance lines : ℕ) → q.balance ≤ balance → IsSound q archived → Turns o archived none_moves q (record q { balance = balance; lines = lines })
still o archived q balance lines more i = record {
  name = refl;
  next = λ k h. h;
  epr = λ d t. inl t;
  epv = λ d t. inl t;
  gone_stays = λ d _ h. inl h;
  gone_new = λ d _ h. inl h;
  due_stays = λ d _ h. inl h;
  due_new = λ d _ h. inl h;
  kept = λ d h. h;
  sound = sound_like q (record q { balance = balance; lines = lines }) archived archived (record { name = refl; next = λ k h. h; marks = λ d. refl }) refl more i;
}

-- ---- a purse that aborts, and then waits for a payment with its next number or rests

-- a payment that the purse is this side of, whose number is its next one
pub record IsNew (q n : State) (name peer : Name) (seq : ℕ) : Type 0 where
  pub own : name ≡ q.name
  pub other : peer ≡ q.name → ⊥
  pub past : nat_lt seq n.next ≡ true
  pub new : nat_lt seq q.next ≡ false

abbrev pub IsBegun : State → State → Status → Type 0
IsBegun q n EaFrom = Unit {0}
IsBegun q n EaTo = Unit {0}
IsBegun q n (Epr e) = IsNew q n e.from e.to e.from_seq × (e.value ≤ n.balance)
IsBegun q n (Epv e) = IsNew q n e.to e.from e.to_seq
IsBegun q n (Epa e) = ⊥

module _ (o : Seen) (archived : Details → Bool) (q n : State) (i : IsSound q archived) (l : IsLike (aborted q) n archived archived) where
  aborted_entries : (d : Details) → (has_logged (aborted q).log d || archived d) ≡ true → IsPastEntry q d
  aborted_entries = entries_case q archived i.entries q.status i.present

  new_side : (e : Details) (name peer : Name) (seq : ℕ) → IsNew q n name peer seq → (IsPastEntry q e → nat_lt seq q.next ≡ true) → IsSide n archived e name peer seq
  new_side e name peer seq x past = record { own = x.own ∙ sym l.name; other = λ h. x.other (h ∙ l.name); past = x.past; fresh = l.marks e ∙ not_true _ (λ h. clash _ (past (aborted_entries e h)) x.new) }

  begun_present : (s : Status) → IsBegun q n s → IsPresent n archived s
  begun_present EaFrom b = tt
  begun_present EaTo b = tt
  begun_present (Epr e) b = (new_side e e.from e.to e.from_seq b.0 (λ x. x.from b.0.own), b.1)
  begun_present (Epv e) b = new_side e e.to e.from e.to_seq b (λ x. x.to b.own)
  begun_present (Epa e) b = absurd b

  pub restarted : IsBegun q n n.status → Turns o archived none_moves q n
  restarted b =
      let gone : (d : Details) → d.from ≡ q.name → marked expects_ack n archived d ≡ marked expects_ack q archived d =
      λ d own. (λ k. not_true (expects_ack n.status d) (λ t. subst (IsBegun q n) (expects_ack_is n.status d t) b) k || l.marks d k) ∙ gone_case q archived d own q.status i.present in
      let due : (d : Details) → d.to ≡ q.name → (has_logged n.log d || archived d) ≡ marked expects_val q archived d = λ d own. l.marks d ∙ due_case q archived d own q.status i.present in
      let waits : (d : Details) → expects_val n.status d ≡ true → nat_lt d.to_seq q.next ≡ false = λ d t. let x : IsBegun q n (Epv d) = subst (IsBegun q n) (expects_val_is n.status d t) b in x.new in
      record {
        name = l.name;
        next = l.next;
        epr = λ d t. let x : IsBegun q n (Epr d) = subst (IsBegun q n) (expects_req_is n.status d t) b in inr x.0.new;
        epv = λ d t. inr (waits d t);
        gone_stays = λ d own h. inl (gone d own ∙ h);
        gone_new = λ d own h. inl (sym (gone d own) ∙ h);
        due_stays = λ d own h. inl (either_true (expects_val n.status d) _ (due d own ∙ h));
        due_new = λ d own h. or_cases (expects_val n.status d) _ (λ t. inr (waits d t)) (λ t. inl (sym (due d own) ∙ t)) h;
        kept = λ d h. l.marks d ∙ or_grows _ _ (archived d) (λ t. grows q.log d t q.status) h;
        sound = record {
          present = begun_present n.status b;
          entries = entries_like (aborted q) n archived archived l (λ d h. let e = aborted_entries d h in record { from = e.from; to = e.to });
        };
      }

-- ---- a message that is accepted

module _ (o : Seen) (archived : Details → Bool) (q : State) (e : Details) (balance lines : ℕ) (i : IsSound q archived) where
  -- a purse in another status, with the log and the next number of q
  abbrev pub turned_to : Status → State
  turned_to s = record q { balance = balance; status = s; lines = lines }

  turned_sound : (s : Status) → IsPresent (turned_to s) archived s → IsSound (turned_to s) archived
  turned_sound s present = record { present = present; entries = entries_like q (turned_to s) archived archived (record { name = refl; next = λ k h. h; marks = λ d. refl }) i.entries }

  -- a request is accepted
  pub request_turns : q.status ≡ Epr e → o.due e ≡ true → Turns o archived (is_details e) q (turned_to (Epa e))
  request_turns was due =
      let x : IsPresent q archived (Epr e) = subst (IsPresent q archived) was i.present in
      subst (λ s. Turns o archived (is_details e) (record q { status = s }) (turned_to (Epa e))) (sym was) (record {
        name = refl;
        next = λ k h. h;
        epr = λ d t. clash false t refl;
        epv = λ d t. clash false t refl;
        gone_stays = λ d _ h. inl (either_true (is_details e d) _ h);
        gone_new = λ d _ h. or_cases (is_details e d) _ (λ t. inr (ap o.due (sym (same_details e d t)) ∙ due, t)) (λ t. inl t) h;
        due_stays = λ d _ h. inl h;
        due_new = λ d _ h. inl h;
        kept = λ d h. h;
        sound = turned_sound (Epa e) (record { own = x.0.own; other = x.0.other; past = x.0.past; fresh = x.0.fresh });
      })

  -- a value is accepted
  pub value_turns : q.status ≡ Epv e → o.gone e ≡ true → Turns o archived (is_details e) q (turned_to EaTo)
  value_turns was gone = subst (λ s. Turns o archived (is_details e) (record q { status = s }) (turned_to EaTo)) (sym was) (record {
    name = refl;
    next = λ k h. h;
    epr = λ d t. clash false t refl;
    epv = λ d t. clash false t refl;
    gone_stays = λ d _ h. inl h;
    gone_new = λ d _ h. inl h;
    due_stays = λ d _ h. or_cases (is_details e d) _ (λ t. inr (ap o.gone (sym (same_details e d t)) ∙ gone, t)) (λ t. inl t) h;
    due_new = λ d _ h. inl (either_true (is_details e d) _ h);
    kept = λ d h. h;
    sound = turned_sound EaTo tt;
  })

  -- an acknowledgement is accepted
  pub finish_turns : q.status ≡ Epa e → o.due e ≡ false → Turns o archived none_moves q (turned_to EaFrom)
  finish_turns was late = subst (λ s. Turns o archived none_moves (record q { status = s }) (turned_to EaFrom)) (sym was) (record {
    name = refl;
    next = λ k h. h;
    epr = λ d t. clash false t refl;
    epv = λ d t. clash false t refl;
    gone_stays = λ d _ h. or_cases (is_details e d) _ (λ t. inr (ap o.due (sym (same_details e d t)) ∙ late)) (λ t. inl t) h;
    gone_new = λ d _ h. inl (either_true (is_details e d) _ h);
    due_stays = λ d _ h. inl h;
    due_new = λ d _ h. inl h;
    kept = λ d h. h;
    sound = turned_sound EaFrom tt;
  })
