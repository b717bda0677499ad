-- What is cached agrees with the rows, after what fills it and after edits.
use Rattle.mx_tables.proofs.Common.{[], arith, false, inl, inr, is_name, length, List, name_cmp, Name, nat_cmp, None, Option, PurseRow, refl, rewritten, Rows, Some, true, ◌+◌, ◌∙◌, ◌∷◌, ◌≡◌, ◌≤◌, ℕ, option_map}
use Rattle.std.proofs.Common.{cond, zero, suc, is_some, sym, ap, subst}
use Rattle.std.proofs.lemmas.Bool.{cases_Bool}
use Rattle.std.specs.Cmp.{nat_cmp_total}
use Rattle.std.specs.FinMap as fmap
use Rattle.std.specs.FinSet.{FinSet}
use Rattle.std.specs.Prelude.{IfSome, IsSome, IsTrue}
use Rattle.std.specs.Option.{option_copied}
use denote.Bor.{Bor}
use Rattle.mx_sorted.specs.Slots.{Slots, map_of}
use Rattle.mx_purse.specs.State.{new_purse, State as Purse}
use Rattle.mx_purse.specs.declared.message.Message.{Message}
use Rattle.mx_book.specs.Edits.{AllSuit, Suits, edited}
use Rattle.mx_book.specs.Index.{index_cmp, IsHeld, released}
use Rattle.mx_book.specs.RowEdits.{member_at, on_purse}
use Rattle.mx_book.specs.RowReads.{of_name}
use Rattle.mx_book.specs.Rows.{Spelled}
use Rattle.mx_book.specs.Under.{pair_cmp, under}
use Rattle.mx_book.specs.World.{World}
use Rattle.mx_book.specs.declared.values.Redemption.{Redemption}
use Rattle.mx_book.specs.declared.edits.Edit.{Edit}
use Rattle.mx_book.specs.declared.edits.Edit.TheVariants.{AddMessage, AddRedemption, Collect, DropMessage, NewHolder, NewPurse, SetPurse}
use Rattle.mx_book.proofs.EditLemmas.{edit_spelled}
use Rattle.mx_book.proofs.HeldLemmas.{held_put, held_set}
use Rattle.mx_book.proofs.NameLemmas.{name_itself, names_total, same_name}
use Rattle.mx_book.proofs.ReadLemmas.{held_is}
use Rattle.mx_book.proofs.UnderLemmas.{under-insert, under-insert_other, under-remove, under-remove_other}
use Rattle.mx_memory.specs.Due.{due_cmp, is_fit, owed}
use Rattle.mx_memory.proofs.DueLemmas.{not_but, tied_holder, tied_purse, tied_redemption, tied_set}
use Rattle.mx_memory.proofs.FitLemmas.{all_fit_there}
use Rattle.mx_tables.specs.Cached.{Agrees, AreFit, Changes, IsDue, Replaces, due_of, index_of}
use Rattle.mx_tables.specs.declared.cache.Cache.{Cache}
use Rattle.mx_tables.proofs.KeptLemmas.{pairs_key}

-- ---- values under names

module _ {V : Type 0} (old new : fmap.FinMap name_cmp V) (p : Name) where
  -- a value was put, or forgotten
  pub replaced_put : (v : V) → new ≡ fmap.insert old p v → Replaces old new p (Some v)
  replaced_put v is q u at =
      let put = sym (fmap.get-insert names_total old p v q) ∙ sym (ap (λ m. fmap.get m q) is) ∙ at in
      elim (cases_Bool (is_name q p)) [ inl t ↦ inl (same_name q p t, grind (arith, put, t)) | inr f ↦ inr (f, grind (arith, put, f)) ]

  pub replaced_removed : (v : Option V) → new ≡ fmap.remove old p → Replaces old new p v
  replaced_removed v is q u at =
      let left = sym (fmap.get-remove names_total old p q) ∙ sym (ap (λ m. fmap.get m q) is) ∙ at in
      elim (cases_Bool (is_name q p)) [ inl t ↦ absurd (let no : Option.None ≡ Some u = grind (arith, left, t) in cc) | inr f ↦ inr (f, grind (arith, left, f)) ]

  -- what was there is changed by what replaces it
  pub changes_by : (f : V → V) (u : V) (value : Option V) → fmap.get old p ≡ Some u → ((v : V) → value ≡ Some v → v ≡ f u) → Replaces old new p value → Changes old new p f
  changes_by f u value there made replaces q v at = elim (replaces q v at) [ inl it ↦ inl (u, it.0, there, made v it.1) | inr it ↦ inr it ]

  -- and where nothing was there nothing changes
  pub changes_none : (f : V → V) → fmap.get old p ≡ None → new ≡ old → Changes old new p f
  changes_none f none same q v at =
      let was = sym (ap (λ m. fmap.get m q) same) ∙ at in
      elim (cases_Bool (is_name q p)) [
        | inl t ↦ absurd (let no : Some v ≡ None = sym was ∙ ap (fmap.get old) (same_name q p t) ∙ none in cc)
        | inr f ↦ inr (f, was)
      ]

-- what is so of what was found
pub found_so : {A : Type 0} {m : Option A} {P : A → Type 0} (o : Option A) → m ≡ o → ((x : A) → m ≡ Some x → P x) → IfSome o P
found_so None is h = tt
found_so (Some a) is h = h a is

-- what was copied is what was got
pub copied_is : {V : Type 0} (o : Option (Bor V)) (m : Option V) → option_map (λ v. v.now) o ≡ m → m ≡ option_copied o
copied_is None m is = sym is
copied_is (Some b) m is = sym is

-- where nothing is cached but indexes
pub agrees_none : (r : Rows) (k : Cache) → IfSome k.owners (λ held. IsHeld r.purses (index_of held)) → IfSome k.due (λ due. IsDue r (due_of due)) → map_of name_cmp k.purses ≡ fmap.empty → map_of name_cmp k.inboxes ≡ fmap.empty → map_of (pair_cmp name_cmp nat_cmp) k.messages ≡ fmap.empty → Agrees r k
agrees_none r k owners due purses inboxes messages = record {
  owners = owners;
  due = due;
  purses = λ p x at. absurd (let none = sym at ∙ ap (λ m. fmap.get m p) purses ∙ fmap.get-empty name_cmp p in cc);
  inboxes = λ p n at. absurd (let none = sym at ∙ ap (λ m. fmap.get m p) inboxes ∙ fmap.get-empty name_cmp p in cc);
  messages = λ q at. absurd (let none = sym at ∙ ap (λ m. fmap.contains_key m q) messages ∙ ap (λ (o : Option (Unit {0})). is_some o) (fmap.get-empty (pair_cmp name_cmp nat_cmp) q) in cc);
}

-- what is so of what stands under names is so after a value was put of which it is so
pub filled : {V : Type 0} (old new : fmap.FinMap name_cmp V) (P : Name → V → Type 0) (p : Name) (v : V) → ((q : Name) (u : V) → fmap.get old q ≡ Some u → P q u) → P p v → Replaces old new p (Some v) → (q : Name) (u : V) → fmap.get new q ≡ Some u → P q u
filled old new P p v was so replaces q u at = elim (replaces q u at) [
  | inl here ↦ let is : v ≡ u = (let e = here.1 in cc) in subst (P q) is (subst (λ n. P n v) (sym here.0) so)
  | inr there ↦ was q u there.1
]

-- ---- how many messages lie in an inbox

abbrev Inbox : Type 0
Inbox = fmap.FinMap (pair_cmp name_cmp nat_cmp) Message

abbrev count : Inbox → Name → ℕ
count inbox p = length (of_name p (fmap.entries inbox))

counted : (r : Rows) (inbox : Inbox) (p : Name) → count inbox p ≡ fmap.len (under name_cmp nat_cmp p inbox)
counted r inbox p = sym (held_is (record r { inbox = inbox }) p)

-- a message more
count_of_its_own : (r : Rows) (inbox : Inbox) (p : Name) (n : ℕ) (m : Message) → count (fmap.insert inbox (p, n) m) p ≤ count inbox p + 1
count_of_its_own r inbox p n m =
    let put = ap fmap.len (under-insert names_total nat_cmp_total fmap.nat_cmp-IsAntisymmetric p inbox n m) in
    grind (arith, counted r (fmap.insert inbox (p, n) m) p, counted r inbox p, put, fmap.len-insert nat_cmp_total (under name_cmp nat_cmp p inbox) n m)

-- and one for another purse
count_of_others : (r : Rows) (inbox : Inbox) (p q : Name) (n : ℕ) (m : Message) → is_name q p ≡ false → count (fmap.insert inbox (p, n) m) q ≡ count inbox q
count_of_others r inbox p q n m other = counted r _ q ∙ ap fmap.len (under-insert_other names_total nat_cmp_total fmap.nat_cmp-IsAntisymmetric p q inbox n m other) ∙ sym (counted r inbox q)

-- one fewer
one_less : (r : Rows) (inbox : Inbox) (p q : Name) (n : ℕ) → count (fmap.remove inbox (p, n)) q ≤ count inbox q
one_less r inbox p q n =
    let one = counted r (fmap.remove inbox (p, n)) q in
    let two = counted r inbox q in
    elim (cases_Bool (is_name q p)) [
      | inl t ↦
          let left = ap fmap.len (under-remove names_total nat_cmp_total fmap.nat_cmp-IsAntisymmetric p inbox n) in
          grind (arith, one, two, left, fmap.len-remove nat_cmp_total (under name_cmp nat_cmp p inbox) n, same_name q p t)
      | inr f ↦ let left = ap fmap.len (under-remove_other names_total nat_cmp_total fmap.nat_cmp-IsAntisymmetric p q inbox n f) in omega (arith, one, two, left)
    ]

-- ---- edits

-- a purse that is new
abbrev pub new_row : Name → Name → PurseRow
new_row p h = record { holder = h; purse = new_purse p; next_message = 0 }

-- with the next number for a message
abbrev raised : PurseRow → PurseRow
raised x = record x { next_message = x.next_message + 1 }

-- rows with the same purses and messages, of which the index is so
pub agrees_as : (r s : Rows) (k : Cache) → r.purses ≡ s.purses → r.inbox ≡ s.inbox → IfSome k.due (λ due. IsDue s (due_of due)) → Agrees r k → Agrees s k
agrees_as r s k purses inbox due it = record {
  due = due;
  owners = subst (λ m. IfSome k.owners (λ held. IsHeld m (index_of held))) purses it.owners;
  purses = λ p x at. subst (λ m. fmap.get m p ≡ Some x) purses (it.purses p x at);
  inboxes = λ p n at. subst (λ m. count m p ≤ n) inbox (it.inboxes p n at);
  messages = λ q at. subst (λ m. is_some (fmap.get m q) ≡ true) inbox (it.messages q at);
}

some_weaker : {A : Type 0} (o : Option A) (P Q : A → Type 0) → ((x : A) → P x → Q x) → IfSome o P → IfSome o Q
some_weaker None P Q f h = tt
some_weaker (Some x) P Q f h = f x h

-- what a test of a new purse says
fit_purse : (r : Rows) (p h : Name) → IsTrue (is_fit r (NewPurse p h)) → (fmap.get r.purses p ≡ None) × IsSome (fmap.get r.holders h)
fit_purse r p h fit =
    let both = not_but (fmap.contains_key r.purses p) (fmap.contains_key r.holders h) fit in
    (none_of (fmap.get r.purses p) both.0, both.1)
  where
    none_of : (o : Option PurseRow) → is_some o ≡ false → o ≡ None
    none_of None none = refl
    none_of (Some x) none = absurd (cc)

module _ (r : Rows) (k : Cache) (it : Agrees r k) where
  due_to : (s : Rows) → ((due : FinSet due_cmp) → IsDue r due → IsDue s due) → IfSome k.due (λ due. IsDue s (due_of due))
  due_to s f = some_weaker k.due _ _ (λ due is. f (due_of due) is) it.due

  -- a purse that is set, or the number of whose next message rises
  pub agrees_set : (p : Name) (f : PurseRow → PurseRow) → ((x : PurseRow) → (f x).holder ≡ x.holder) → (t : Slots Name PurseRow) → Changes (map_of name_cmp k.purses) (map_of name_cmp t) p f
      → (o : Option PurseRow) → fmap.get r.purses p ≡ o → Agrees (on_purse o r (λ x. record r { purses = fmap.insert r.purses p (f x) })) (record k { purses = t })
  agrees_set p f holder t changes None none = record {
    owners = it.owners;
    due = it.due;
    purses = λ q x there. elim (changes q x there) [
      | inl mine ↦ absurd (let no : Some mine.0 ≡ None = sym (it.purses p mine.0 mine.2) ∙ none in cc)
      | inr other ↦ it.purses q x other.1
    ];
    inboxes = it.inboxes;
    messages = it.messages;
  }
  agrees_set p f holder t changes (Some y) at = record {
    owners = some_weaker k.owners _ _ (λ held is. held_set r.purses (index_of held) p (f y) is (ap (option_map (λ (x : PurseRow). x.holder)) at ∙ ap Some (sym (holder y)))) it.owners;
    due = due_to (record r { purses = fmap.insert r.purses p (f y) }) (λ due is. tied_set r.purses r.holders r.redemptions due is p (f y) y at (holder y));
    purses = λ q x there. elim (changes q x there) [
      | inl mine ↦
          let same : y ≡ mine.0 = (let e = sym at ∙ it.purses p mine.0 mine.2 in cc) in
          fmap.get-insert names_total r.purses p (f y) q ∙ ap (λ b. cond b (Some (f y)) (fmap.get r.purses q)) (ap (λ n. is_name n p) mine.1 ∙ name_itself p) ∙ ap Some (ap f same ∙ sym mine.3)
      | inr other ↦ fmap.get-insert names_total r.purses p (f y) q ∙ ap (λ b. cond b (Some (f y)) (fmap.get r.purses q)) other.0 ∙ it.purses q x other.1
    ];
    inboxes = it.inboxes;
    messages = it.messages;
  }

  -- one message more is counted
  agrees_more : (p : Name) (t : Slots Name ℕ) → Changes (map_of name_cmp k.inboxes) (map_of name_cmp t) p (λ n. n + 1) → (inbox : Inbox) → count inbox p ≤ count r.inbox p + 1 → ((q : Name) → is_name q p ≡ false → count inbox q ≤ count r.inbox q)
      → (q : Name) (n : ℕ) → fmap.get (map_of name_cmp t) q ≡ Some n → count inbox q ≤ n
  agrees_more p t changes inbox mine others q n at = elim (changes q n at) [
    | inl here ↦ let was = it.inboxes p here.0 here.2 in let is = here.3 in let more : count inbox q ≤ count r.inbox p + 1 = subst (λ x. count inbox x ≤ count r.inbox p + 1) (sym here.1) mine in omega (arith, was, is, more)
    | inr there ↦ let was = it.inboxes q n there.1 in let less = others q there.0 in omega (arith, was, less)
  ]

  -- a message that comes
  pub agrees_sent : (p : Name) (n : ℕ) (m : Message) (t : Slots Name ℕ) → Changes (map_of name_cmp k.inboxes) (map_of name_cmp t) p (λ n. n + 1) → Agrees (record r { inbox = fmap.insert r.inbox (p, n) m }) (record k { inboxes = t })
  agrees_sent p n m t changes = record {
    owners = it.owners;
    due = it.due;
    purses = it.purses;
    inboxes = agrees_more p t changes (fmap.insert r.inbox (p, n) m) (count_of_its_own r r.inbox p n m) (λ q other. let same = count_of_others r r.inbox p q n m other in omega (arith, same));
    messages = λ q at. grind (arith, fmap.get-insert pairs_key.total r.inbox (p, n) m q, it.messages q at);
  }

  -- and one that comes to nobody
  pub agrees_lost : (p : Name) (t : Slots Name ℕ) → Changes (map_of name_cmp k.inboxes) (map_of name_cmp t) p (λ n. n + 1) → Agrees r (record k { inboxes = t })
  agrees_lost p t changes = record {
    owners = it.owners;
    due = it.due;
    purses = it.purses;
    inboxes = agrees_more p t changes r.inbox (omega arith) (λ q other. omega arith);
    messages = it.messages;
  }

  -- a message that was found
  pub agrees_with : (q : Name × ℕ) (t : Slots (Name × ℕ) (Unit {0})) → is_some (fmap.get r.inbox q) ≡ true → map_of (pair_cmp name_cmp nat_cmp) t ≡ fmap.insert (map_of (pair_cmp name_cmp nat_cmp) k.messages) q tt → Agrees r (record k { messages = t })
  agrees_with q t there is = record {
    owners = it.owners;
    due = it.due;
    purses = it.purses;
    inboxes = it.inboxes;
    messages = λ p at.
        let put = sym (ap (λ (o : Option (Unit {0})). is_some o) (fmap.get-insert pairs_key.total (map_of (pair_cmp name_cmp nat_cmp) k.messages) q tt p)) ∙ sym (ap (λ m. fmap.contains_key m p) is) ∙ at in
        grind (arith, put, pairs_key.exact p q, there, it.messages p);
  }

  -- a message that goes
  pub agrees_dropped : (p : Name) (n : ℕ) (t : Slots (Name × ℕ) (Unit {0})) → map_of (pair_cmp name_cmp nat_cmp) t ≡ fmap.remove (map_of (pair_cmp name_cmp nat_cmp) k.messages) (p, n)
      → Agrees (record r { inbox = fmap.remove r.inbox (p, n) }) (record k { messages = t })
  agrees_dropped p n t is = record {
    owners = it.owners;
    due = it.due;
    purses = it.purses;
    inboxes = λ q most at. let was = it.inboxes q most at in let less = one_less r r.inbox p q n in omega (arith, was, less);
    messages = λ q at.
        let left = sym (ap (λ (o : Option (Unit {0})). is_some o) (fmap.get-remove pairs_key.total (map_of (pair_cmp name_cmp nat_cmp) k.messages) (p, n) q)) ∙ sym (ap (λ m. fmap.contains_key m q) is) ∙ at in
        grind (arith, left, fmap.get-remove pairs_key.total r.inbox (p, n) q, it.messages q);
  }

  -- a purse that is new
  pub agrees_new : (p h : Name) → IsTrue (is_fit r (NewPurse p h)) → (o : Option _) → IfSome o (λ held. IsHeld (fmap.insert r.purses p (new_row p h)) (index_of held))
      → Agrees (rewritten r (NewPurse p h)) (record k { owners = o })
  agrees_new p h fit o owners = record {
    owners = owners;
    due = let both = fit_purse r p h fit in due_to (rewritten r (NewPurse p h)) (λ due is. tied_purse r.purses r.holders r.redemptions due is p (new_row p h) both.0 both.1);
    purses = λ q x at.
        let was = it.purses q x at in
        elim (cases_Bool (is_name q p)) [
          | inl t ↦ absurd (let no : Some x ≡ None = sym was ∙ ap (fmap.get r.purses) (same_name q p t) ∙ (fit_purse r p h fit).0 in cc)
          | inr f ↦ fmap.get-insert names_total r.purses p (new_row p h) q ∙ ap (λ b. cond b (Some (new_row p h)) (fmap.get r.purses q)) f ∙ was
        ];
    inboxes = it.inboxes;
    messages = it.messages;
  }

-- a message for a purse
pub agrees_message : (r : Rows) (k : Cache) → Agrees r k → (p : Name) (m : Message) (t : Slots Name PurseRow) (u : Slots Name ℕ) → Changes (map_of name_cmp k.purses) (map_of name_cmp t) p raised → Changes (map_of name_cmp k.inboxes) (map_of name_cmp u) p (λ n. n + 1)
    → (o : Option PurseRow) → fmap.get r.purses p ≡ o → Agrees (on_purse o r (λ x. record r { purses = fmap.insert r.purses p (raised x); inbox = fmap.insert r.inbox (p, x.next_message) m })) (record k { purses = t; inboxes = u })
agrees_message r k it p m t u one two None none = agrees_lost r (record k { purses = t }) (agrees_set r k it p raised (λ x. refl) t one None none) p u two
agrees_message r k it p m t u one two (Some x) at =
    agrees_sent (record r { purses = fmap.insert r.purses p (raised x) }) (record k { purses = t }) (agrees_set r k it p raised (λ x. refl) t one (Some x) at) p x.next_message m u two

-- the index with a purse that is new
pub held_new_purse : (r : Rows) (held old : FinSet (index_cmp name_cmp)) (p h : Name) → IsTrue (is_fit r (NewPurse p h)) → IsHeld r.purses old → held ≡ fmap.insert old (h, Some p) tt
    → IsHeld (fmap.insert r.purses p (new_row p h)) held
held_new_purse r held old p h fit is same =
    subst (IsHeld (fmap.insert r.purses p (new_row p h))) (ap (λ o. fmap.insert (released old (option_map (λ (x : PurseRow). x.holder) o) p) (h, Some p) tt) (fit_purse r p h fit).0 ∙ sym same) (held_put r.purses old p (new_row p h) is)

-- where no index of redemptions is cached, these may be any
pub agrees_undue : (r : Rows) (k : Cache) → Agrees r k → (o : Option (Slots (Name × Option (Name × Name)) (Unit {0}))) → o ≡ None → (redemptions : fmap.FinMap (pair_cmp name_cmp name_cmp) Redemption)
    → Agrees (record r { redemptions = redemptions }) (record k { due = o })
agrees_undue r k it o none redemptions = record { owners = it.owners; due = rw none tt; purses = it.purses; inboxes = it.inboxes; messages = it.messages }

-- an edit of neither purses, messages nor redemptions
pub agrees_rest : (r : Rows) (k : Cache) (e : Edit) → IsTrue (is_fit r e) → ((p h : Name) → e ≡ NewPurse p h → ⊥) → ((q : Purse) → e ≡ SetPurse q → ⊥) → ((p : Name) (m : Message) → e ≡ AddMessage p m → ⊥) → ((p : Name) (n : ℕ) → e ≡ DropMessage p n → ⊥)
    → ((p reference : Name) (amount : ℕ) → e ≡ AddRedemption p reference amount → ⊥) → ((m : Name) → e ≡ Collect m → ⊥) → Agrees r k → Agrees (rewritten r e) k
agrees_rest r k (NewPurse p h) fit new set add drop redeem collect it = absurd (new p h refl)
agrees_rest r k (SetPurse q) fit new set add drop redeem collect it = absurd (set q refl)
agrees_rest r k (AddMessage p m) fit new set add drop redeem collect it = absurd (add p m refl)
agrees_rest r k (DropMessage p n) fit new set add drop redeem collect it = absurd (drop p n refl)
agrees_rest r k (AddRedemption p reference amount) fit new set add drop redeem collect it = absurd (redeem p reference amount refl)
agrees_rest r k (Collect m) fit new set add drop redeem collect it = absurd (collect m refl)
agrees_rest r k (NewHolder h m t) fit new set add drop redeem collect it =
    let fresh : fmap.contains_key r.holders h ≡ false = grind (arith, fit) in
    agrees_as r _ k refl refl (due_to r k it (record r { holders = fmap.insert r.holders h m }) (λ due is. tied_holder r.purses r.holders r.redemptions due is h m fresh)) it
agrees_rest r k e fit new set add drop redeem collect it = agrees_as r _ k refl refl it.due it

-- a redemption more, under the member of its purse
pub due_redeemed : (r : Rows) (due : FinSet due_cmp) (p reference : Name) (amount : ℕ) → IsTrue (is_fit r (AddRedemption p reference amount)) → IsDue r due
    → IsDue (rewritten r (AddRedemption p reference amount)) (owed due (member_at r.holders (fmap.get r.purses p)) (p, reference))
due_redeemed r due p reference amount fit is = by (fmap.get r.purses p) refl
  where
    by : (o : Option PurseRow) → fmap.get r.purses p ≡ o → IsDue (rewritten r (AddRedemption p reference amount)) (owed due (member_at r.holders (fmap.get r.purses p)) (p, reference))
    by None none = absurd (let no : is_some (fmap.get r.purses p) ≡ false = ap (λ (o : Option PurseRow). is_some o) none in let yes = fit in cc)
    by (Some x) at = tied_redemption r.purses r.holders r.redemptions due is (p, reference) (record { amount = amount; collected = false }) refl x at

-- ---- edits that suit a World

-- what they add is new, and what it stands under is there
fit_one : (r : Rows) (w : World) (e : Edit) → Spelled r w → Suits w e → IsTrue (is_fit r e)
fit_one r w e it suits = let all = all_fit_there r w (e ∷ []) it (suits, tt) in grind (arith, all)

pub fit_all : (r : Rows) (w : World) (es : List Edit) → Spelled r w → AllSuit w es → AreFit r es
fit_all r w [] it suits i e within is = absurd (omega (arith, within))
fit_all r w (x ∷ es) it suits zero e within is = subst (λ y. IsTrue (is_fit r y)) (sym is) (fit_one r w x it suits.0)
fit_all r w (x ∷ es) it suits (suc i) e within is = fit_all (rewritten r x) (edited w x) es (edit_spelled r w x it suits.0) suits.1 i e (omega (arith, within)) is
