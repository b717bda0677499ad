-- Which conditions of the World an edit keeps, by groups.
use Rattle.std.proofs.Common.{◌≡◌, ◌⊎◌, inl, inr, ℕ, ◌+◌, ◌<◌, ◌≤◌, true, false, cond, List, [], ◌∷◌, map, length, refl, sym, ◌∙◌, ap, subst, Some, None, IsSome, arith}
use Rattle.std.specs.Prelude.{filter, IsNone, IsTrue}
use Rattle.std.specs.Cmp.{nat_cmp_total, eq_by_cmp_equiv}
use Rattle.std.specs.Ordering.{nat_cmp}
use Rattle.std.specs.FinMap as fmap
use Rattle.mx_book.specs.Limits.{most_messages, most_purses}
use Rattle.mx_pay.specs.Limits.{most_number}
use Rattle.mx_pay.specs.Names.{name_cmp, is_name, is_name_text}
use Rattle.mx_pay.specs.Tokens.{token_cmp, is_token, IsToken}
use Rattle.mx_pay.specs.Details.{Details}
use Rattle.mx_pay.specs.Log.{has_logged}
use Rattle.mx_purse.proofs.Laws.{new_is}
use Rattle.mx_purse.specs.declared.message.Message.{Message}
use Rattle.mx_purse.specs.declared.message.Message.TheVariants.{Req, Val, Ack, Clear}
use Rattle.mx_purse.specs.Messages.{IsMessage}
use Rattle.mx_book.specs.declared.values.Caller.{Caller}
use Rattle.mx_book.specs.declared.values.Caller.TheVariants.{Operator, Clerk, Holder}
use Rattle.mx_book.specs.declared.values.MemberRow.{MemberRow}
use Rattle.mx_book.specs.Sums.{sum_values}
use Rattle.mx_book.specs.World.{World, Row, Name, Token, set_row, changed_row, delivered, new_row}
use Rattle.mx_book.specs.Reads.{who_of, purses_of}
use Rattle.mx_book.specs.Conditions.{IsWorld, IsOwner, HasToken, TokensHold, MembersHold, MayLie, IsPurseRow, IsInbox, AreLines, IsPaid}
use Rattle.mx_book.specs.declared.edits.Edit.TheVariants.{NewMember, NewHolder, NewPurse, AddMessage}
use Rattle.mx_book.specs.Edits.{edited, Suits}
use Rattle.mx_book.proofs.NameLemmas.{names_total, same_name, same_number, get-inserted}
use Rattle.mx_book.proofs.SumLemmas.{sum_values-insert, value_of, total, total_is}
use Rattle.mx_book.proofs.FoundLemmas.{value_found, none_is, some_of, none_found, none_some, each_inserted, some_inserted, still_some, kept_value}

-- ---- what may lie in an inbox

-- what may lie in an inbox may lie there as long as nothing leaves the archive
pub may_lie : (w v : World) → ((p : Name) (d : Details) → fmap.contains_key w.archive (p, d) ≡ true → fmap.contains_key v.archive (p, d) ≡ true) → (p : Name) (m : Message) → MayLie w p m → MayLie v p m
may_lie w v stay p (Req d) h = tt
may_lie w v stay p (Val d) h = tt
may_lie w v stay p (Ack d) h = tt
may_lie w v stay p (Clear set) h = record { some = h.some; archived = λ d there. stay p d (h.archived d there) }

-- ---- where the rows of the purses stay

module _ (w : World) (tokens : fmap.FinMap token_cmp Caller) (members : fmap.FinMap name_cmp MemberRow) (holders : fmap.FinMap name_cmp Name) where
  abbrev with_heads : World
  with_heads = record w { tokens = tokens; members = members; holders = holders }

  -- a change of members, holders and tokens, where each holder stays
  pub heads_stay : ((g : Name) → IsSome (fmap.get w.holders g) → IsSome (fmap.get holders g)) → TokensHold with_heads → MembersHold with_heads → IsWorld w → IsWorld with_heads
  heads_stay stay tokens_hold members_hold h = record {
    tokens = tokens_hold;
    members = members_hold;
    purses = record { each = λ p r at. let x = h.purses.each p r at in record { text = x.text; named = x.named; holder = stay r.holder x.holder; purse = x.purse }; few = h.purses.few };
    inboxes = record { each = h.inboxes.each };
    lines = record { each = h.lines.each };
    results = record { archived = h.results.archived; details = h.results.details; logged = h.results.logged; apart = h.results.apart };
    settled = h.settled;
    clears = record { each = λ p r n m at there. may_lie w with_heads (λ q d there. there) p m (h.clears.each p r n m at there) };
    payments = record { each = h.payments.each };
  }

-- ---- where the members, holders and tokens stay

-- all that holds of the row of a purse
pub record IsRow (w : World) (p : Name) (r : Row) : Type 0 where
  pub purse : IsPurseRow w p r
  pub inbox : IsInbox r
  pub lines : AreLines r
  pub clears : (n : ℕ) (m : Message) → fmap.get r.holding.inbox n ≡ Some m → MayLie w p m
  pub paid : IsPaid r

pub is_row : (w : World) (p : Name) (r : Row) → fmap.get w.rows p ≡ Some r → IsWorld w → IsRow w p r
is_row w p r at h = record { purse = h.purses.each p r at; inbox = h.inboxes.each p r at; lines = h.lines.each p r at; clears = λ n m. h.clears.each p r n m at; paid = h.payments.each p r at }

module _ (w : World) (rows : fmap.FinMap name_cmp Row) where
  abbrev with_rows : World
  with_rows = record w { rows = rows }

  -- a purse has a row, whose log has what the tray has of it
  abbrev pub RowStays : Name → Row → Type 0
  RowStays p r = (s : Row) × (fmap.get rows p ≡ Some s) × ((d : Details) → fmap.contains_key w.tray (p, d) ≡ true → has_logged r.holding.purse.log d ≡ true → has_logged s.holding.purse.log d ≡ true)

  -- a change of the rows of purses
  pub rows_stay : ((g : Name) → length (purses_of with_rows g) ≤ most_purses) → ((p : Name) (r : Row) → fmap.get rows p ≡ Some r → IsRow w p r) → ((p : Name) (r : Row) → fmap.get w.rows p ≡ Some r → RowStays p r) → IsWorld w → IsWorld with_rows
  rows_stay few each stays h = record {
    tokens = record { operator_bytes = h.tokens.operator_bytes; bytes = h.tokens.bytes; operator = h.tokens.operator; owners = h.tokens.owners; clerks = h.tokens.clerks; holders = h.tokens.holders; single = h.tokens.single };
    members = record { named = h.members.named; granted = h.members.granted; floats = h.members.floats; holders = h.members.holders };
    purses = record { each = λ p r at. let x = (each p r at).purse in record { text = x.text; named = x.named; holder = x.holder; purse = x.purse }; few = few };
    inboxes = record { each = λ p r at. (each p r at).inbox };
    lines = record { each = λ p r at. (each p r at).lines };
    results = record {
      archived = λ p d there. let r = value_found _ (h.results.archived p d there) in let s = stays p r.0 r.1 in some_of _ s.0 s.1;
      details = h.results.details;
      logged = λ p d there. let r = h.results.logged p d there in let s = stays p r.0 r.1 in (s.0, s.1, s.2 d there r.2);
      apart = h.results.apart;
    };
    settled = h.settled;
    clears = record { each = λ p r n m at there. may_lie w with_rows (λ q d there. there) p m ((each p r at).clears n m there) };
    payments = record { each = λ p r at. (each p r at).paid };
  }

-- ---- tokens: one more, of a caller that had none

-- a token that is nobody's is neither the operator's nor another's
nobody : (w : World) (t : Token) → IsNone (who_of w t) → (is_token t w.operator ≡ false) × (fmap.get w.tokens t ≡ None)
nobody w t h = grind arith

module _ (w v : World) (t : Token) (c : Caller) (h : TokensHold w) (free : (is_token t w.operator ≡ false) × (fmap.get w.tokens t ≡ None)) (same : v.operator ≡ w.operator) (is : v.tokens ≡ fmap.insert w.tokens t c) where
  token_at : (q : Token) → fmap.get v.tokens q ≡ fmap.get (fmap.insert w.tokens t c) q
  token_at q = ap (λ m. fmap.get m q) is

  operator_free : fmap.get v.tokens v.operator ≡ None
  operator_free = grind (arith, token_at, same, fmap.get-insert names_total w.tokens t c w.operator, (eq_by_cmp_equiv names_total).symm w.operator t, h.operator)

  has_case : (d : Caller) (There : Type 0) → (There → HasToken w d) → (c ≡ d) ⊎ There → HasToken v d
  has_case d There old (inl e) = (t, token_at t ∙ get-inserted w.tokens t c ∙ ap Some e)
  has_case d There old (inr there) = let x = old there in (x.0, token_at x.0 ∙ kept_value w.tokens t c free.1 x.0 d x.1)

  tokens_more : IsToken t → (IsOwner w c → ⊥) → IsOwner v c → ((d : Caller) → IsOwner w d → IsOwner v d) → ((m : Name) → IsSome (fmap.get v.members m) → (c ≡ Clerk m) ⊎ IsSome (fmap.get w.members m)) → ((g : Name) → IsSome (fmap.get v.holders g) → (c ≡ Holder g) ⊎ IsSome (fmap.get w.holders g)) → TokensHold v
  tokens_more whole new owner stay members holders = record {
    operator_bytes = subst IsToken (sym same) h.operator_bytes;
    bytes = λ q d at. each_inserted w.tokens t c (λ p e. IsToken p) whole h.bytes q d (sym (token_at q) ∙ at);
    operator = operator_free;
    owners = λ q d at. each_inserted w.tokens t c (λ p e. IsOwner v e) owner (λ p e old. stay e (h.owners p e old)) q d (sym (token_at q) ∙ at);
    clerks = λ m there. has_case (Clerk m) (IsSome (fmap.get w.members m)) (h.clerks m) (members m there);
    holders = λ g there. has_case (Holder g) (IsSome (fmap.get w.holders g)) (h.holders g) (holders g there);
    single = λ p q d a b. grind (arith, token_at p, token_at q, fmap.get-insert names_total w.tokens t c p, fmap.get-insert names_total w.tokens t c q, same_name p t, same_name q t, h.single p q d, h.owners p d, h.owners q d, new);
  }

-- ---- a new member, and a new holder

abbrev new_member_row : MemberRow
new_member_row = record { granted = 0; float = 0 }

-- who owns a token owns it where a member is more
pub owner_stays : (w v : World) (m : Name) (row : MemberRow) → v.members ≡ fmap.insert w.members m row → v.holders ≡ w.holders → (d : Caller) → IsOwner w d → IsOwner v d
owner_stays w v m row members holders Operator h = h
owner_stays w v m row members holders (Clerk n) h = subst (λ (x : fmap.FinMap name_cmp MemberRow). IsSome (fmap.get x n)) (sym members) (still_some w.members m row n h)
owner_stays w v m row members holders (Holder g) h = subst (λ (x : fmap.FinMap name_cmp Name). IsSome (fmap.get x g)) (sym holders) h

pub member_stays : (w : World) (m : Name) (t : Token) → Suits w (NewMember m t) → IsTrue (is_name_text m) → IsToken t → IsWorld w → IsWorld (edited w (NewMember m t))
member_stays w m t suits text whole h =
    let v : World = edited w (NewMember m t) in
    let sums = sum_values-insert names_total (λ (row : MemberRow). row.granted) w.members m new_member_row in
    let members = h.members in
    heads_stay w v.tokens v.members v.holders (λ g there. there)
    (tokens_more w v t (Clerk m) h.tokens (nobody w t suits.1) refl refl whole
    (λ there. none_some _ (none_is _ suits.0) there)
    (some_of _ _ (get-inserted w.members m new_member_row))
    (owner_stays w v m new_member_row refl refl)
    (λ n there. grind (arith, some_inserted w.members m new_member_row n there))
    (λ g there. inr there))
    (record {
      named = λ n there. grind (arith, text, members.named n, some_inserted w.members m new_member_row n there);
      granted = grind (arith, sums, none_is _ suits.0, members.granted);
      floats = each_inserted w.members m new_member_row (λ n row. row.float ≤ most_number) (omega arith) members.floats;
      holders = λ g n at. let x = members.holders g n at in (x.0, still_some w.members m new_member_row n x.1);
    })
    h

holder_owner : (w : World) (g m : Name) (t : Token) (d : Caller) → IsOwner w d → IsOwner (edited w (NewHolder g m t)) d
holder_owner w g m t Operator h = h
holder_owner w g m t (Clerk n) h = h
holder_owner w g m t (Holder x) h = still_some w.holders g m x h

pub holder_stays : (w : World) (g m : Name) (t : Token) → Suits w (NewHolder g m t) → IsTrue (is_name_text g) → IsToken t → IsWorld w → IsWorld (edited w (NewHolder g m t))
holder_stays w g m t suits text whole h =
    let v : World = edited w (NewHolder g m t) in
    heads_stay w v.tokens v.members v.holders (still_some w.holders g m)
    (tokens_more w v t (Holder g) h.tokens (nobody w t suits.2) refl refl whole
    (λ there. none_some _ (none_is _ suits.0) there)
    (some_of _ _ (get-inserted w.holders g m))
    (holder_owner w g m t)
    (λ n there. inr there)
    (λ x there. grind (arith, some_inserted w.holders g m x there)))
    (record {
      named = h.members.named;
      granted = h.members.granted;
      floats = h.members.floats;
      holders = each_inserted w.holders g m (λ x n. IsTrue (is_name_text x) × IsSome (fmap.get w.members n)) (text, suits.1) h.members.holders;
    })
    h

-- ---- how many purses a holder has

abbrev one_held : Name → Row → ℕ
one_held g r = cond (is_name g r.holder) 1 0

count_is : (g : Name) (es : List (Name × Row)) → length (map (λ (e : Name × Row). e.0) (filter (λ (e : Name × Row). is_name g e.1.holder) es)) ≡ total (λ (e : Name × Row). one_held g e.1) es
count_is g [] = refl
count_is g (e ∷ es) = grind (arith, count_is g es)

purses_as_sum : (w : World) (g : Name) → length (purses_of w g) ≡ sum_values (one_held g) w.rows
unfolding sum_values
purses_as_sum w g = count_is g (fmap.entries w.rows) ∙ sym (total_is (λ (e : Name × Row). one_held g e.1) (fmap.entries w.rows))

-- a row that is set adds one to the purses of its holder, and takes one from those of the holder before
purses_after_set : (w : World) (p : Name) (s : Row) (g : Name) → length (purses_of (set_row w p s) g) + value_of (one_held g) (fmap.get w.rows p) ≡ length (purses_of w g) + one_held g s
purses_after_set w p s g = omega (arith, sum_values-insert names_total (one_held g) w.rows p s, purses_as_sum (set_row w p s) g, purses_as_sum w g)

-- ---- a new purse

new_row_is : (w : World) (p g : Name) → IsSome (fmap.get w.holders g) → IsTrue (is_name_text p) → IsRow w p (new_row g p)
new_row_is w p g there text = record {
  purse = record { text = text; named = refl; holder = there; purse = new_is p text };
  inbox = record {
    few = let none = fmap.len-empty nat_cmp Message in omega (arith, none);
    below = λ n there. none_some _ (fmap.get-empty nat_cmp n) there;
    next = omega arith;
    messages = λ n m at. none_found _ m (fmap.get-empty nat_cmp n) at;
  };
  lines = record { numbered = tt; counted = refl; each = tt };
  clears = λ n m at. none_found _ m (fmap.get-empty nat_cmp n) at;
  paid = record {
    loads = λ ref amount at. none_found _ amount (fmap.get-empty name_cmp ref) at;
    redemptions = λ ref amount at. none_found _ amount (fmap.get-empty name_cmp ref) at;
    collected = λ ref there. none_some _ (fmap.get-empty name_cmp ref) there;
  };
}

pub new_purse_stays : (w : World) (p g : Name) → Suits w (NewPurse p g) → IsTrue (is_name_text p) → length (purses_of w g) < most_purses → IsWorld w → IsWorld (edited w (NewPurse p g))
new_purse_stays w p g suits text room h = rows_stay w (fmap.insert w.rows p (new_row g p))
    (λ x. grind (arith, purses_after_set w p (new_row g p) x, suits.0, same_name x g, room, h.purses.few x))
    (each_inserted w.rows p (new_row g p) (λ q r. IsRow w q r) (new_row_is w p g suits.1 text) (λ q r at. is_row w q r at h))
    (λ q r at. (r, kept_value w.rows p (new_row g p) suits.0 q r at, λ d there logged. logged))
    h

-- ---- another row of a purse that is there

module _ (w : World) (p : Name) (r : Row) (at : fmap.get w.rows p ≡ Some r) (h : IsWorld w) where
  pub set_stays : (s : Row) → s.holder ≡ r.holder → IsRow w p s → ((d : Details) → fmap.contains_key w.tray (p, d) ≡ true → has_logged r.holding.purse.log d ≡ true → has_logged s.holding.purse.log d ≡ true) → IsWorld (set_row w p s)
  set_stays s same one still = rows_stay w (fmap.insert w.rows p s)
      (λ x. grind (arith, purses_after_set w p s x, at, same, h.purses.few x))
      (each_inserted w.rows p s (λ q x. IsRow w q x) one (λ q x here. is_row w q x here h))
      (λ q x here. (cond (is_name q p) s x, grind (arith, fmap.gets, names_total), λ d there logged. grind (arith, same_name q p, still d)))
      h

  -- only the inbox and the next message number are others
  pub inbox_stays : (inbox : fmap.FinMap nat_cmp Message) (next : ℕ) → IsInbox (record r { holding = record r.holding { inbox = inbox; next_message = next } }) → ((n : ℕ) (m : Message) → fmap.get inbox n ≡ Some m → MayLie w p m) → IsWorld (set_row w p (record r { holding = record r.holding { inbox = inbox; next_message = next } }))
  inbox_stays inbox next one lie =
      let x = is_row w p r at h in
      set_stays (record r { holding = record r.holding { inbox = inbox; next_message = next } }) refl (record {
        purse = record { text = x.purse.text; named = x.purse.named; holder = x.purse.holder; purse = x.purse.purse };
        inbox = one;
        lines = record { numbered = x.lines.numbered; counted = x.lines.counted; each = x.lines.each };
        clears = lie;
        paid = record { loads = x.paid.loads; redemptions = x.paid.redemptions; collected = x.paid.collected };
      }) (λ d there logged. logged)

-- ---- a message more or less

delivered_inbox : (r : Row) (m : Message) → IsMessage m → IsInbox r → fmap.len r.holding.inbox < most_messages → r.holding.next_message < most_number → IsInbox (record r { holding = delivered r.holding m })
delivered_inbox r m valid h room next = record {
  few = grind (arith, fmap.len-insert nat_cmp_total r.holding.inbox r.holding.next_message m);
  below = λ k there. grind (arith, fmap.get-insert nat_cmp_total r.holding.inbox r.holding.next_message m k, same_number k r.holding.next_message, h.below k);
  next = omega (arith, next);
  messages = λ k x is. grind (arith, fmap.get-insert nat_cmp_total r.holding.inbox r.holding.next_message m k, h.messages k x);
}

dropped_inbox : (r : Row) (n : ℕ) → IsInbox r → IsInbox (record r { holding = record r.holding { inbox = fmap.remove r.holding.inbox n } })
dropped_inbox r n h = record {
  few = grind (arith, fmap.len-remove nat_cmp_total r.holding.inbox n, h.few);
  below = λ k there. grind (arith, fmap.get-remove nat_cmp_total r.holding.inbox n k, h.below k);
  next = h.next;
  messages = λ k x is. grind (arith, fmap.get-remove nat_cmp_total r.holding.inbox n k, h.messages k x);
}

-- what holds of each message holds of each where one came that it holds of
each_delivered : (r : Row) (m : Message) (P : Message → Type 0) → P m → ((k : ℕ) (x : Message) → fmap.get r.holding.inbox k ≡ Some x → P x) → (k : ℕ) (x : Message) → fmap.get (fmap.insert r.holding.inbox r.holding.next_message m) k ≡ Some x → P x
each_delivered r m P new old k x is = grind (arith, fmap.get-insert nat_cmp_total r.holding.inbox r.holding.next_message m k, new, old k x)

pub message_stays : (w : World) (p : Name) (m : Message) (r : Row) → IsMessage m → MayLie w p m → fmap.get w.rows p ≡ Some r → fmap.len r.holding.inbox < most_messages → r.holding.next_message < most_number → IsWorld w → IsWorld (edited w (AddMessage p m))
message_stays w p m r valid lies at room next h =
    subst IsWorld (ap (changed_row w p (λ x. record x { holding = delivered x.holding m })) (sym at)) (inbox_stays w p r at h (fmap.insert r.holding.inbox r.holding.next_message m) (r.holding.next_message + 1) (delivered_inbox r m valid (h.inboxes.each p r at) room next)
    (each_delivered r m (MayLie w p) lies (λ k x. h.clears.each p r k x at)))

pub dropped_stays : (w : World) (p : Name) (n : ℕ) (r : Row) → fmap.get w.rows p ≡ Some r → IsWorld w → IsWorld (set_row w p (record r { holding = record r.holding { inbox = fmap.remove r.holding.inbox n } }))
dropped_stays w p n r at h = inbox_stays w p r at h (fmap.remove r.holding.inbox n) r.holding.next_message (dropped_inbox r n (h.inboxes.each p r at)) (λ k x is. grind (arith, fmap.get-remove nat_cmp_total r.holding.inbox n k, h.clears.each p r k x at))
