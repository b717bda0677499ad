-- A decision is the step's: its reply, and edits that fit and lead to its World.
use Rattle.std.proofs.Common.{◌≡◌, ℕ, ◌<◌, Bool, true, false, cond, List, [], ◌∷◌, Option, Some, None, refl, sym, ◌∙◌, ap, subst, arith, length, IsTrue, is_some, is_none, not, option_map}
use Rattle.mx_book.specs.Limits.{most_purses}
use Rattle.std.specs.Prelude.{nat_le}
use Rattle.std.proofs.lemmas.Bool.Decides.{nat_tests}
use Rattle.std.proofs.lemmas.Option.{cond_some}
use Rattle.std.specs.FinMap as fmap
use Rattle.mx_pay.specs.Tokens.{IsToken}
use Rattle.mx_pay.specs.Names.{is_name_text}
use Rattle.mx_book.specs.declared.edits.Edit.{Edit}
use Rattle.mx_book.specs.declared.edits.Edit.TheVariants.{NewMember, NewHolder, NewPurse}
use Rattle.mx_book.specs.declared.values.HolderRow.{HolderRow}
use Rattle.mx_book.specs.World.{World, Name, Token, is_of}
use Rattle.mx_book.specs.Conditions.{IsWorld}
use Rattle.mx_book.specs.Reads.{who_of, purses_of, holder_of}
use Rattle.mx_book.specs.Edits.{Fits, Suits, AllSuit, edited, all_edited}
use Rattle.mx_book.proofs.KeepLemmas.{member_stays, holder_stays, new_purse_stays}
use Rattle.mx_office.specs.declared.values.Decided.{Decided}
use Rattle.mx_command.specs.declared.values.Refusal.{Refusal}
use Rattle.mx_command.specs.declared.values.Reply.{Reply}
use Rattle.mx_command.specs.declared.values.Reply.TheVariants.{Added, Refused}
use Rattle.mx_office.specs.Step.{Deed, tell, world_after, unless, new_member, new_holder, new_purse}
use Rattle.mx_office.proofs.OwnLemmas.{absent, present, of_there, next, none_left}
use Rattle.mx_office.specs.Decides.{Decides, purse_count}

-- ---- decisions

-- these edits lead to what is done
pub edits_decide : (w : World) (to x : Deed World) (es : List Edit) (d : Decided) → to ≡ x → AllSuit w es → all_edited w es ≡ world_after x → IsWorld (world_after x) → d.reply ≡ x.reply → d.edits ≡ es → Decides w to d
edits_decide w to x es d to_is suit lead stays reply_is edits_are = record {
  reply = reply_is ∙ sym (ap (λ y. y.reply) to_is);
  fits = subst (Fits w) (sym edits_are) (record { each = suit; end = subst IsWorld (sym lead) stays });
  leads = ap (all_edited w) edits_are ∙ lead ∙ sym (ap world_after to_is);
}

-- nothing changes, and this is told
pub told_decides : (w : World) (to : Deed World) (r : Reply) (d : Decided) → IsWorld w → to ≡ tell w r → d.reply ≡ r → d.edits ≡ [] → Decides w to d
told_decides w to r d h to_is = edits_decide w to (tell w r) [] d to_is tt refl h

-- one edit leads there
pub edit_decides : (w : World) (to : Deed World) (e : Edit) (r : Reply) (d : Decided) → to ≡ tell (edited w e) r → Suits w e → IsWorld (edited w e) → d.reply ≡ r → d.edits ≡ e ∷ [] → Decides w to d
edit_decides w to e r d to_is suits stays = edits_decide w to (tell (edited w e) r) (e ∷ []) d to_is (suits, tt) refl stays

-- a refusal
pub refused_decides : (w : World) (o : Option Refusal) (x : Deed World) (r : Refusal) (d : Decided) → IsWorld w → o ≡ Some r → d.reply ≡ Refused r → d.edits ≡ [] → Decides w (unless w o x) d
refused_decides w o x r d h o_is = told_decides w (unless w o x) (Refused r) d h (ap (λ y. unless w y x) o_is)

-- ---- what reads tell of rows

-- a holder is given where it is there
holder_case : (n : ℕ) (o : Option Name) → is_some (option_map (λ m. let row : HolderRow = record { member = m; purses = n } in row) o) ≡ is_some o
holder_case n None = refl
holder_case n (Some m) = refl

pub holder_given : (w : World) (h : Name) (b : Bool) → is_some (holder_of w h) ≡ b → is_some (fmap.get w.holders h) ≡ b
holder_given w h b is = sym (holder_case _ (fmap.get w.holders h)) ∙ is

-- ---- new members, holders and purses

pub new_member_decides : (w : World) (m : Name) (t : Token) (d : Decided) → IsWorld w → IsTrue (is_name_text m) → IsToken t → is_some (fmap.get w.members m) ≡ false → is_some (who_of w t) ≡ false → d.reply ≡ Added → d.edits ≡ NewMember m t ∷ [] → Decides w (new_member w m t) d
new_member_decides w m t d h text bytes no_member no_token reply edits =
    let suits : Suits w (NewMember m t) = (no_member, no_token) in
    edit_decides w (new_member w m t) (NewMember m t) Added d
    (ap (λ o. unless w o (tell (edited w (NewMember m t)) Added)) (next _ _ _ _ no_member (next _ _ _ _ no_token none_left)))
    suits (member_stays w m t suits text bytes h) reply edits

pub new_holder_decides : (w : World) (m h : Name) (t : Token) (d : Decided) → IsWorld w → IsTrue (is_name_text h) → IsToken t → is_none (fmap.get w.members m) ≡ false → is_some (fmap.get w.holders h) ≡ false → is_some (who_of w t) ≡ false → d.reply ≡ Added → d.edits ≡ NewHolder h m t ∷ [] → Decides w (new_holder w m h t) d
new_holder_decides w m h t d is text bytes member no_holder no_token reply edits =
    let suits : Suits w (NewHolder h m t) = (no_holder, ap is_some (present _ member).1, no_token) in
    edit_decides w (new_holder w m h t) (NewHolder h m t) Added d
    (ap (λ o. unless w o (tell (edited w (NewHolder h m t)) Added)) (next _ _ _ _ member (next _ _ _ _ no_holder (next _ _ _ _ no_token none_left))))
    suits (holder_stays w h m t suits text bytes is) reply edits

-- what the count of a holder's purses tells
held_none : (b : Bool) (k : ℕ) → cond b (Some k) None ≡ None → not b ≡ true
held_none true k e = absurd (cc)
held_none false k e = refl

pub no_holder : (w : World) (m h : Name) → purse_count w m h ≡ None → not (is_of m (fmap.get w.holders h)) ≡ true
no_holder w m h e = held_none _ _ e

pub a_holder : (w : World) (m h : Name) (n : ℕ) → purse_count w m h ≡ Some n → not (is_of m (fmap.get w.holders h)) ≡ false
a_holder w m h n e = ap not (cond_some _ _ n e).0

pub held_count : (w : World) (m h : Name) (n : ℕ) → purse_count w m h ≡ Some n → n ≡ length (purses_of w h)
held_count w m h n e = sym (cond_some _ _ n e).1

pub many_held : (w : World) (m h : Name) (n : ℕ) (b : Bool) → purse_count w m h ≡ Some n → nat_le most_purses n ≡ b → nat_le most_purses (length (purses_of w h)) ≡ b
many_held w m h n b e is = ap (nat_le most_purses) (sym (held_count w m h n e)) ∙ is

pub new_purse_decides : (w : World) (m p h : Name) (d : Decided) → IsWorld w → IsTrue (is_name_text p) → not (is_of m (fmap.get w.holders h)) ≡ false → is_some (fmap.get w.rows p) ≡ false → nat_le most_purses (length (purses_of w h)) ≡ false → d.reply ≡ Added → d.edits ≡ NewPurse p h ∷ [] → Decides w (new_purse w m p h) d
new_purse_decides w m p h d is text holder no_purse few reply edits =
    let suits : Suits w (NewPurse p h) = (absent _ no_purse, of_there m _ holder) in
    edit_decides w (new_purse w m p h) (NewPurse p h) Added d
    (ap (λ o. unless w o (tell (edited w (NewPurse p h)) Added)) (next _ _ _ _ holder (next _ _ _ _ no_purse (next _ _ _ _ few none_left))))
    suits (new_purse_stays w p h suits text (below_most _ few) is) reply edits
  where
    below_most : (n : ℕ) → nat_le most_purses n ≡ false → n < most_purses
    below_most n f = grind (arith, nat_tests, f)
