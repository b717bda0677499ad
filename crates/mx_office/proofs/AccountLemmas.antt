-- What a command makes of a purse and its lines, and the edits that lead there.
use Rattle.std.proofs.Common.{◌≡◌, ℕ, ◌+◌, Bool, true, false, cond, List, [], ◌∷◌, ◌++◌, Option, Some, None, refl, sym, ◌∙◌, ap, subst, arith, length, length-append, map}
use Rattle.std.proofs.lemmas.Option.{cond_some}
use Rattle.std.specs.FinMap as fmap
use Rattle.mx_pay.specs.Names.{is_name}
use Rattle.mx_pay.specs.Details.{Details}
use Rattle.mx_pay.specs.Log.{has_logged}
use Rattle.mx_purse.specs.State.{State, IsPurse}
use Rattle.mx_purse.specs.declared.message.Message.{Message}
use Rattle.mx_book.specs.declared.edits.Edit.{Edit}
use Rattle.mx_book.specs.declared.edits.Edit.TheVariants.{SetPurse, AddLine}
use Rattle.mx_book.specs.declared.values.Line.{Line}
use Rattle.mx_book.specs.World.{World, Row, Holding, Name, has_room, set_row, change_holding}
use Rattle.std.specs.List.{AllByRecursion}
use Rattle.mx_purse.specs.Messages.{IsMessage}
use Rattle.mx_book.specs.Conditions.{IsWorld, AreNumbered, IsLine, MayLie}
use Rattle.mx_book.specs.Reads.{from_row, own_purse, finds_place}
use Rattle.mx_book.specs.Edits.{AllSuit, all_edited}
use Rattle.mx_book.proofs.NameLemmas.{names_total, same_name}
use Rattle.mx_book.proofs.PurseLemmas.{with_lines, line_edits, change_there, set_same, edits_append, suits_append, purse_leads, purse_suits, purse_stays, put_leads, put_suits, put_stays, put_vanishes, put_nowhere}
use Rattle.mx_office.specs.declared.values.Decided.{Decided}
use Rattle.mx_command.specs.declared.values.Reply.{Reply}
use Rattle.mx_command.specs.declared.values.Refusal.TheVariants.{NoSuchPurse}
use Rattle.mx_office.specs.Step.{Deed, tell, on_own, on_found, in_place, put_sent, listed, with_purse}
use Rattle.mx_office.specs.Decides.{Decides, placed, purse_and_lines, put_edits, purse_edits}
use Rattle.mx_office.proofs.DecideLemmas.{edits_decide, told_decides}
use Rattle.mx_office.proofs.OwnLemmas.{own_at}

-- ---- a purse that is found

-- the row of a purse that passes a test, as that of being the holder's
pub record IsFound (w : World) (p : Name) (test : Row → Bool) (q : State) : Type 0 where
  pub row : Row
  pub at : fmap.get w.rows p ≡ Some row
  pub passes : test row ≡ true
  pub purse : row.holding.purse ≡ q

module _ (w : World) (p : Name) (test : Row → Bool) (q : State) where
  found_case : (o : Option Row) → fmap.get w.rows p ≡ o → from_row None (λ r. cond (test r) (Some r.holding.purse) None) o ≡ Some q → IsFound w p test q
  found_case None at e = absurd (cc)
  found_case (Some r) at e = let x = cond_some (test r) r.holding.purse q e in record { row = r; at = at; passes = x.0; purse = x.1 }

  pub is_found : from_row None (λ r. cond (test r) (Some r.holding.purse) None) (fmap.get w.rows p) ≡ Some q → IsFound w p test q
  is_found e = found_case (fmap.get w.rows p) refl e

-- a purse of the holder
abbrev pub IsOwn : World → Name → Name → State → Type 0
IsOwn w h p q = IsFound w p (λ r. is_name h r.holder) q

pub is_own : (w : World) (h p : Name) (q : State) → own_purse w h p ≡ Some q → IsOwn w h p q
is_own w h p q e = is_found w p (λ r. is_name h r.holder) q e

-- what a rule does is on the row that is there
pub own_there : (w : World) (h p : Name) (q : State) (own : IsOwn w h p q) (f : Holding → Deed Holding) → on_own w h p f ≡ in_place (λ b. set_row w p (record own.row { holding = b })) (f own.row.holding)
own_there w h p q own f =
    ap (λ o. on_found w NoSuchPurse o (λ a. in_place (λ b. change_holding w p (λ _. b)) (f a))) (own_at w h p own.row true own.at own.passes)
    ∙ ap (λ x. in_place (λ b. x) (f own.row.holding)) (change_there w p (λ x. record x { holding = (f own.row.holding).state }) own.row own.at)

-- a rule that tells, and changes nothing
pub own_told : (w : World) (h p : Name) (q : State) (own : IsOwn w h p q) (f : Holding → Deed Holding) (r : Reply) (d : Decided) → IsWorld w → f own.row.holding ≡ tell own.row.holding r → d.reply ≡ r → d.edits ≡ [] → Decides w (on_own w h p f) d
own_told w h p q own f r d is f_is = told_decides w (on_own w h p f) r d is
    (own_there w h p q own f ∙ ap (in_place (λ b. set_row w p (record own.row { holding = b }))) f_is ∙ ap (λ x. tell x r) (set_same w p own.row own.at))

-- ---- a message that is put

room_case : (w : World) (p x : Name) (r s : Row) (b : Bool) → fmap.get w.rows p ≡ Some r → has_room s.holding ≡ has_room r.holding → is_name x p ≡ b
    → from_row false (λ y. has_room y.holding) (cond b (Some s) (fmap.get w.rows x)) ≡ finds_place w x
room_case w p x r s true at same t = same ∙ sym (ap (from_row false (λ y. has_room y.holding)) (ap (fmap.get w.rows) (same_name x p t) ∙ at))
room_case w p x r s false at same t = refl

-- the places in inboxes are as they were
placed_kept : (w : World) (p : Name) (r s : Row) (o : Option (Name × Message)) → fmap.get w.rows p ≡ Some r → has_room s.holding ≡ has_room r.holding → placed (set_row w p s) o ≡ placed w o
placed_kept w p r s None at same = refl
placed_kept w p r s (Some m) at same =
    ap (λ b. cond b (Some m) None) (ap (from_row false (λ y. has_room y.holding)) (fmap.get-insert names_total w.rows p s m.0) ∙ room_case w p m.0 r s (is_name m.0 p) at same refl)

-- edits that put a message, or none where it vanishes
pub record Puts (w : World) (sent : Option (Name × Message)) (es : List Edit) : Type 0 where
  pub suits : AllSuit w es
  pub leads : all_edited w es ≡ put_sent w sent

put_row : (w : World) (p : Name) (m : Message) (r : Row) (b : Bool) → fmap.get w.rows p ≡ Some r → has_room r.holding ≡ b → Puts w (Some (p, m)) (put_edits (cond b (Some (p, m)) None))
put_row w p m r true at room = record { suits = (put_suits w p m r at room, tt); leads = put_leads w p m r at room }
put_row w p m r false at room = record { suits = tt; leads = sym (put_vanishes w p m r at room) }

put_case : (w : World) (p : Name) (m : Message) (o : Option Row) → fmap.get w.rows p ≡ o → Puts w (Some (p, m)) (put_edits (cond (from_row false (λ y. has_room y.holding) o) (Some (p, m)) None))
put_case w p m None at = record { suits = tt; leads = sym (put_nowhere w p m at) }
put_case w p m (Some r) at = put_row w p m r (has_room r.holding) at refl

pub puts : (w : World) (sent : Option (Name × Message)) → Puts w sent (put_edits (placed w sent))
puts w None = record { suits = tt; leads = refl }
puts w (Some m) = put_case w m.0 m.1 (fmap.get w.rows m.0) refl

-- a message that is sent is within its limits, and may lie in the inbox whatever is archived
abbrev pub IsSent : Option (Name × Message) → Type 0
IsSent None = Unit {0}
IsSent (Some m) = IsMessage m.1 × ((w : World) → MayLie w m.0 m.1)

sent_stays : (w : World) (sent : Option (Name × Message)) → IsSent sent → IsWorld w → IsWorld (put_sent w sent)
sent_stays w None valid h = h
sent_stays w (Some m) valid h = put_stays w m.0 m.1 valid.0 (valid.1 w) h

-- ---- a purse that changes

-- what the tray has of a purse
abbrev pub in_tray : World → Name → Details → Bool
in_tray w p d = fmap.contains_key w.tray (p, d)

-- the purse after an operation, with its lines, is one that the World can have: the lines are numbered on, counted and
-- within their limits, and what was logged is still, where it has to be kept
pub record Follows (kept : Details → Bool) (p q : State) (new_lines : List Line) : Type 0 where
  pub name : q.name ≡ p.name
  pub whole : IsPurse q
  pub numbered : AreNumbered (p.lines + 1) new_lines
  pub counted : q.lines ≡ p.lines + length new_lines
  pub valid : AllByRecursion IsLine new_lines
  pub logged : (d : Details) → kept d ≡ true → has_logged p.log d ≡ true → has_logged q.log d ≡ true

pub numbered_after : (j k : ℕ) (new_lines ms : List Line) → k ≡ j + length new_lines → AreNumbered j new_lines → AreNumbered k ms → AreNumbered j (new_lines ++ ms)
numbered_after j k [] ms is h g = let same : k ≡ j = omega (arith, is) in subst (λ n. AreNumbered n ms) same g
numbered_after j k (l ∷ new_lines) ms is h g = (h.0, numbered_after (j + 1) k new_lines ms (omega (arith, is)) h.1 g)

lines_same : (p : Name) (new_lines : List Line) → map (λ l. AddLine p l) new_lines ≡ line_edits p new_lines
lines_same p [] = refl
lines_same p (l ∷ new_lines) = ap (λ es. AddLine p l ∷ es) (lines_same p new_lines)

-- the row with that purse and these lines is one that the World can have
pub record IsNext (w : World) (p : Name) (r : Row) (q : State) (new_lines : List Line) : Type 0 where
  pub named : q.name ≡ p
  pub numbered : AreNumbered 1 (r.holding.lines ++ new_lines)
  pub counted : length (r.holding.lines ++ new_lines) ≡ q.lines
  pub logged : (d : Details) → in_tray w p d ≡ true → has_logged r.holding.purse.log d ≡ true → has_logged q.log d ≡ true
  pub edits : purse_and_lines q new_lines ≡ SetPurse q ∷ line_edits p new_lines

pub is_next : (w : World) (p : Name) (test : Row → Bool) (before : State) (found : IsFound w p test before) (q : State) (new_lines : List Line) → IsWorld w → Follows (in_tray w p) before q new_lines → IsNext w p found.row q new_lines
is_next w p test before found q new_lines is follows =
    let r = found.row in
    let old = is.lines.each p r found.at in
    let old_count = old.counted in
    let more = follows.counted in
    let lines : r.holding.purse.lines ≡ before.lines = ap (λ x. x.lines) found.purse in
    let name : q.name ≡ p = follows.name ∙ ap (λ x. x.name) (sym found.purse) ∙ (is.purses.each p r found.at).named in
    record {
      named = name;
      numbered = numbered_after 1 (before.lines + 1) r.holding.lines new_lines (omega (arith, old_count, lines)) old.numbered follows.numbered;
      counted = omega (arith, length-append r.holding.lines new_lines, old_count, lines, more);
      logged = λ d kept there. follows.logged d kept (ap (λ x. has_logged x.log d) (sym found.purse) ∙ there);
      edits = ap (λ es. SetPurse q ∷ es) (lines_same q.name new_lines) ∙ ap (λ n. SetPurse q ∷ line_edits n new_lines) name;
    }

-- a rule that changes the purse, adds its line and sends a message
module _ (w : World) (g p : Name) (before : State) (own : IsOwn w g p before) (q : State) (line : Option Line) (h : IsWorld w) (follows : Follows (in_tray w p) before q (listed line)) where
  abbrev new_lines : List Line
  new_lines = listed line

  abbrev with_change : World
  with_change = set_row w p (with_lines own.row q new_lines)

  same_places : (sent : Option (Name × Message)) → placed with_change sent ≡ placed w sent
  unfolding has_room
  same_places sent = placed_kept w p own.row (with_lines own.row q new_lines) sent own.at refl

  pub changed_decides : (f : Holding → Deed Holding) (r : Reply) (sent : Option (Name × Message)) (d : Decided) → IsSent sent → f own.row.holding ≡ record { state = with_purse own.row.holding q line; reply = r; sent = sent; result = None }
      → d.reply ≡ r → d.edits ≡ purse_edits q line (placed w sent) → Decides w (on_own w g p f) d
  changed_decides f r sent d valid f_is reply_is edits_is =
      let next = is_next w p (λ x. is_name g x.holder) before own q new_lines h follows in
      let first : List Edit = SetPurse q ∷ line_edits p new_lines in
      let last : List Edit = put_edits (placed w sent) in
      let lead : all_edited w first ≡ with_change = purse_leads w p own.row q new_lines own.at next.named in
      let here : Puts with_change sent last = subst (λ m. Puts with_change sent (put_edits m)) (same_places sent) (puts with_change sent) in
      edits_decide w (on_own w g p f) (record { state = with_change; reply = r; sent = sent; result = None }) (first ++ last) d (own_there w g p before own f ∙ ap (in_place (λ b. set_row w p (record own.row { holding = b }))) f_is)
      (suits_append w first last (purse_suits w p own.row q new_lines own.at next.named next.numbered) (subst (λ x. AllSuit x last) (sym lead) here.suits))
      (edits_append w first last ∙ ap (λ x. all_edited x last) lead ∙ here.leads)
      (sent_stays with_change sent valid (purse_stays w p own.row q new_lines own.at next.named follows.whole next.numbered next.counted follows.valid next.logged h))
      reply_is (edits_is ∙ ap (λ es. es ++ last) next.edits)
