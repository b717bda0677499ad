-- What an operation of a purse, a message and a discard make of the World.
use Rattle.std.proofs.Common.{◌≡◌, ℕ, ◌+◌, ◌<◌, Bool, true, false, cond, List, [], ◌∷◌, ◌++◌, length, append_assoc, refl, sym, ◌∙◌, ap, subst, Option, Some, None, IsSome, arith}
use Rattle.std.proofs.lemmas.List.{append-nil}
use Rattle.std.specs.Prelude.{IsSomeAnd}
use Rattle.std.specs.List.{AllByRecursion}
use Rattle.std.specs.FinMap as fmap
use Rattle.std.proofs.lemmas.Bool.Decides.{nat_tests}
use Rattle.mx_book.specs.Limits.{most_messages}
use Rattle.mx_pay.specs.Limits.{most_number}
use Rattle.mx_pay.specs.Names.{name_cmp}
use Rattle.mx_pay.specs.Details.{Details}
use Rattle.mx_pay.specs.Log.{has_logged}
use Rattle.mx_purse.specs.State.{State, IsPurse}
use Rattle.mx_purse.specs.declared.message.Message.{Message}
use Rattle.mx_purse.specs.Messages.{IsMessage}
use Rattle.mx_book.specs.declared.values.Line.{Line}
use Rattle.mx_book.specs.World.{World, Row, Holding, Name, set_row, change_row, changed_row, has_room, delivered, with_message, put}
use Rattle.mx_book.specs.Conditions.{IsWorld, IsLine, AreNumbered, IsPaid, MayLie}
use Rattle.mx_book.specs.declared.edits.Edit.{Edit}
use Rattle.mx_book.specs.declared.edits.Edit.TheVariants.{SetPurse, AddMessage, DropMessage, AddLine}
use Rattle.mx_book.specs.Edits.{edited, all_edited, Suits, AllSuit}
use Rattle.mx_book.proofs.NameLemmas.{names_total, names_exact, same_name, get-inserted}
use Rattle.mx_book.proofs.FoundLemmas.{some_of}
use Rattle.std.proofs.ByRecursion.{All-append as all_append}
use Rattle.mx_book.proofs.KeepLemmas.{is_row, set_stays, message_stays, dropped_stays}

-- ---- two writes at one key

insert_twice : {X : Type 0} (m : fmap.FinMap name_cmp X) (p : Name) (x y : X) → fmap.insert (fmap.insert m p x) p y ≡ fmap.insert m p y
insert_twice m p x y = fmap.same_map names_total names_exact _ _ (λ q. grind (arith, fmap.gets, names_total))

-- a write of the value that is there
pub insert_same : {X : Type 0} (m : fmap.FinMap name_cmp X) (p : Name) (x : X) → fmap.get m p ≡ Some x → fmap.insert m p x ≡ m
insert_same m p x at = fmap.same_map names_total names_exact _ _ (λ q. grind (arith, fmap.gets, names_total, same_name q p))

set_twice : (w : World) (p : Name) (r s : Row) → set_row (set_row w p r) p s ≡ set_row w p s
set_twice w p r s = ap (λ rows. record w { rows = rows }) (insert_twice w.rows p r s)

pub set_same : (w : World) (p : Name) (r : Row) → fmap.get w.rows p ≡ Some r → set_row w p r ≡ w
set_same w p r at = ap (λ rows. record w { rows = rows }) (insert_same w.rows p r at)

-- a change of a row that is there
pub change_there : (w : World) (p : Name) (f : Row → Row) (r : Row) → fmap.get w.rows p ≡ Some r → change_row w p f ≡ set_row w p (f r)
change_there w p f r at = ap (changed_row w p f) at

-- a change of a row that was set
pub change_set : (w : World) (p : Name) (r : Row) (f : Row → Row) → change_row (set_row w p r) p f ≡ set_row w p (f r)
change_set w p r f = change_there (set_row w p r) p f r (get-inserted w.rows p r) ∙ set_twice w p r (f r)

-- ---- edits in order

pub edits_append : (w : World) (es fs : List Edit) → all_edited w (es ++ fs) ≡ all_edited (all_edited w es) fs
edits_append w [] fs = refl
edits_append w (e ∷ es) fs = edits_append (edited w e) es fs

pub suits_append : (w : World) (es fs : List Edit) → AllSuit w es → AllSuit (all_edited w es) fs → AllSuit w (es ++ fs)
suits_append w [] fs h g = g
suits_append w (e ∷ es) fs h g = (h.0, suits_append (edited w e) es fs h.1 g)

-- ---- a purse and its new lines

-- the row with another purse and more lines
abbrev pub with_lines : Row → State → List Line → Row
with_lines r q ls = record r { holding = record r.holding { purse = q; lines = r.holding.lines ++ ls } }

-- an edit for each line
abbrev pub line_edits : Name → List Line → List Edit
line_edits p [] = []
line_edits p (l ∷ ls) = AddLine p l ∷ line_edits p ls

-- the row with more lines
abbrev more_lines : Row → List Line → Row
more_lines r ls = record r { holding = record r.holding { lines = r.holding.lines ++ ls } }

line_leads : (w : World) (p : Name) (r : Row) (l : Line) → edited (set_row w p r) (AddLine p l) ≡ set_row w p (more_lines r (l ∷ []))
line_leads w p r l = change_set w p r (λ x. more_lines x (l ∷ []))

lines_lead : (w : World) (p : Name) (r : Row) (ls : List Line) → all_edited (set_row w p r) (line_edits p ls) ≡ set_row w p (more_lines r ls)
lines_lead w p r [] = ap (λ xs. set_row w p (record r { holding = record r.holding { lines = xs } })) (sym (append-nil r.holding.lines))
lines_lead w p r (l ∷ ls) =
    ap (λ z. all_edited z (line_edits p ls)) (line_leads w p r l)
    ∙ lines_lead w p (more_lines r (l ∷ [])) ls
    ∙ ap (λ xs. set_row w p (record r { holding = record r.holding { lines = xs } })) (append_assoc r.holding.lines (l ∷ []) ls)

-- the first part of lines with numbers
first_numbered : (n : ℕ) (ls ms : List Line) → AreNumbered n (ls ++ ms) → AreNumbered n ls
first_numbered n [] ms h = tt
first_numbered n (l ∷ ls) ms h = (h.0, first_numbered (n + 1) ls ms h.1)

lines_suit : (w : World) (p : Name) (r : Row) (ls : List Line) → AreNumbered 1 (r.holding.lines ++ ls) → AllSuit (set_row w p r) (line_edits p ls)
lines_suit w p r [] h = tt
lines_suit w p r (l ∷ ls) h =
    let s : Row = more_lines r (l ∷ []) in
    let all : AreNumbered 1 (s.holding.lines ++ ls) = subst (AreNumbered 1) (sym (append_assoc r.holding.lines (l ∷ []) ls)) h in (
      subst (λ (o : Option Row). IsSomeAnd o (λ x. AreNumbered 1 (x.holding.lines ++ l ∷ []))) (sym (get-inserted w.rows p r)) (first_numbered 1 s.holding.lines ls all),
      subst (λ (z : World). AllSuit z (line_edits p ls)) (sym (line_leads w p r l)) (lines_suit w p s ls all),
    )

purse_leads_one : (w : World) (p : Name) (r : Row) (q : State) → fmap.get w.rows p ≡ Some r → q.name ≡ p → edited w (SetPurse q) ≡ set_row w p (record r { holding = record r.holding { purse = q } })
purse_leads_one w p r q at name = ap (λ n. change_row w n (λ x. record x { holding = record x.holding { purse = q } })) name ∙ change_there w p (λ x. record x { holding = record x.holding { purse = q } }) r at

pub purse_leads : (w : World) (p : Name) (r : Row) (q : State) (ls : List Line) → fmap.get w.rows p ≡ Some r → q.name ≡ p → all_edited w (SetPurse q ∷ line_edits p ls) ≡ set_row w p (with_lines r q ls)
purse_leads w p r q ls at name = ap (λ z. all_edited z (line_edits p ls)) (purse_leads_one w p r q at name) ∙ lines_lead w p (record r { holding = record r.holding { purse = q } }) ls

pub purse_suits : (w : World) (p : Name) (r : Row) (q : State) (ls : List Line) → fmap.get w.rows p ≡ Some r → q.name ≡ p → AreNumbered 1 (r.holding.lines ++ ls) → AllSuit w (SetPurse q ∷ line_edits p ls)
purse_suits w p r q ls at name numbered = (
  some_of _ r (ap (fmap.get w.rows) name ∙ at),
  subst (λ (z : World). AllSuit z (line_edits p ls)) (sym (purse_leads_one w p r q at name)) (lines_suit w p (record r { holding = record r.holding { purse = q } }) ls numbered),
)

-- a purse with new lines and other payments
pub paid_stays : (w : World) (p : Name) (r : Row) (q : State) (ls : List Line) (loads redemptions : fmap.FinMap name_cmp ℕ) → fmap.get w.rows p ≡ Some r → q.name ≡ p → IsPurse q → AreNumbered 1 (r.holding.lines ++ ls) → length (r.holding.lines ++ ls) ≡ q.lines → AllByRecursion IsLine ls
    → ((d : Details) → fmap.contains_key w.tray (p, d) ≡ true → has_logged r.holding.purse.log d ≡ true → has_logged q.log d ≡ true)
    → (IsPaid r → IsPaid (record r { holding = record r.holding { redemptions = redemptions }; loads = loads }))
    → IsWorld w → IsWorld (set_row w p (record r { holding = record r.holding { purse = q; lines = r.holding.lines ++ ls; redemptions = redemptions }; loads = loads }))
paid_stays w p r q ls loads redemptions at name purse numbered counted valid logged pays h =
    let x = is_row w p r at h in
    let paid = pays x.paid in
    set_stays w p r at h (record r { holding = record r.holding { purse = q; lines = r.holding.lines ++ ls; redemptions = redemptions }; loads = loads }) refl (record {
      purse = record { text = x.purse.text; named = name; holder = x.purse.holder; purse = purse };
      inbox = record { few = x.inbox.few; below = x.inbox.below; next = x.inbox.next; messages = x.inbox.messages };
      lines = record { numbered = numbered; counted = counted; each = all_append IsLine r.holding.lines ls x.lines.each valid };
      clears = x.clears;
      paid = record { loads = paid.loads; redemptions = paid.redemptions; collected = paid.collected };
    }) logged

pub purse_stays : (w : World) (p : Name) (r : Row) (q : State) (ls : List Line) → fmap.get w.rows p ≡ Some r → q.name ≡ p → IsPurse q → AreNumbered 1 (r.holding.lines ++ ls) → length (r.holding.lines ++ ls) ≡ q.lines → AllByRecursion IsLine ls
    → ((d : Details) → fmap.contains_key w.tray (p, d) ≡ true → has_logged r.holding.purse.log d ≡ true → has_logged q.log d ≡ true) → IsWorld w → IsWorld (set_row w p (with_lines r q ls))
purse_stays w p r q ls at name purse numbered counted valid logged h = paid_stays w p r q ls r.loads r.holding.redemptions at name purse numbered counted valid logged (λ paid. paid) h

-- ---- a message

-- where there is room, the inbox is below its limit and so is the next number
room_is : (a : Holding) → has_room a ≡ true → (fmap.len a.inbox < most_messages) × (a.next_message < most_number)
unfolding has_room
room_is a room = grind (arith, nat_tests)

put_there : (w : World) (p : Name) (m : Message) (r : Row) (b : Bool) → fmap.get w.rows p ≡ Some r → has_room r.holding ≡ b → put w p m ≡ set_row w p (record r { holding = cond b (delivered r.holding m) r.holding })
put_there w p m r b at room = change_there w p (λ x. record x { holding = with_message x.holding m }) r at ∙ ap (λ c. set_row w p (record r { holding = cond c (delivered r.holding m) r.holding })) room

-- a message that finds a place is put by an edit
pub put_leads : (w : World) (p : Name) (m : Message) (r : Row) → fmap.get w.rows p ≡ Some r → has_room r.holding ≡ true → edited w (AddMessage p m) ≡ put w p m
put_leads w p m r at room = change_there w p (λ x. record x { holding = delivered x.holding m }) r at ∙ sym (put_there w p m r true at room)

pub put_suits : (w : World) (p : Name) (m : Message) (r : Row) → fmap.get w.rows p ≡ Some r → has_room r.holding ≡ true → Suits w (AddMessage p m)
put_suits w p m r at room = subst (λ (o : Option Row). IsSomeAnd o (λ x. (fmap.len x.holding.inbox < most_messages) × (x.holding.next_message < most_number))) (sym at) (room_is r.holding room)

-- one that finds no place vanishes, and so does one for a purse that isn't there
pub put_vanishes : (w : World) (p : Name) (m : Message) (r : Row) → fmap.get w.rows p ≡ Some r → has_room r.holding ≡ false → put w p m ≡ w
put_vanishes w p m r at room = put_there w p m r false at room ∙ set_same w p r at

pub put_nowhere : (w : World) (p : Name) (m : Message) → fmap.get w.rows p ≡ None → put w p m ≡ w
put_nowhere w p m gone = ap (changed_row w p (λ x. record x { holding = with_message x.holding m })) gone

pub put_stays : (w : World) (p : Name) (m : Message) → IsMessage m → MayLie w p m → IsWorld w → IsWorld (put w p m)
put_stays w p m valid lies h = by_row (fmap.get w.rows p) refl
  where
    by_room : (r : Row) → fmap.get w.rows p ≡ Some r → (b : Bool) → has_room r.holding ≡ b → IsWorld (put w p m)
    by_room r at true room = let few = room_is r.holding room in subst IsWorld (put_leads w p m r at room) (message_stays w p m r valid lies at few.0 few.1 h)
    by_room r at false room = subst IsWorld (sym (put_vanishes w p m r at room)) h

    by_row : (o : Option Row) → fmap.get w.rows p ≡ o → IsWorld (put w p m)
    by_row None at = subst IsWorld (sym (put_nowhere w p m at)) h
    by_row (Some r) at = by_room r at (has_room r.holding) refl

-- ---- a discard

-- the row without a message
abbrev pub without_message : Row → ℕ → Row
without_message r n = record r { holding = record r.holding { inbox = fmap.remove r.holding.inbox n } }

pub discard_leads : (w : World) (p : Name) (n : ℕ) (r : Row) → fmap.get w.rows p ≡ Some r → edited w (DropMessage p n) ≡ set_row w p (without_message r n)
discard_leads w p n r at = change_there w p (λ x. without_message x n) r at

pub discard_suits : (w : World) (p : Name) (n : ℕ) (r : Row) → fmap.get w.rows p ≡ Some r → IsSome (fmap.get r.holding.inbox n) → Suits w (DropMessage p n)
discard_suits w p n r at there = subst (λ (o : Option Row). IsSomeAnd o (λ x. IsSome (fmap.get x.holding.inbox n))) (sym at) there

pub discard_stays : (w : World) (p : Name) (n : ℕ) (r : Row) → fmap.get w.rows p ≡ Some r → IsWorld w → IsWorld (set_row w p (without_message r n))
discard_stays w p n r at h = dropped_stays w p n r at h
