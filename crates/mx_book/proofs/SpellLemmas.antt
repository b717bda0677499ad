-- Reads and edits of rows that spell a World.
use Rattle.std.proofs.Common.{is_some, ◌≡◌, ℕ, IsTrue, List, ap, ◌∙◌, sym, subst, refl}
use Rattle.std.specs.FinMap as fmap
use Rattle.mx_pay.specs.Details.{Details}
use Rattle.mx_book.specs.declared.edits.Edit.{Edit}
use Rattle.mx_book.specs.World.{World, Name, Token}
use Rattle.mx_book.specs.Rows.{Rows, world_of}
use Rattle.mx_book.specs.Reads.{who_of, member_of, holder_of, purses_of, account_of, has_purse, own_purse, finds_place, message_of, inbox_of, lines_of, purse_names_of, members_of, load_of, redemption_of, is_archived, is_settled, tray_of, uncollected_of}
use Rattle.mx_book.specs.RowReads.{row_who_of, row_holder_of, row_purses_of, row_account_of, row_own_purse, row_finds_place, row_inbox_of, row_lines_of, row_purse_names_of, row_members_of, row_load_of, row_redemption_of, row_is_archived, row_is_settled, row_uncollected_of}
use Rattle.mx_book.specs.Edits.{all_edited, Fits}
use Rattle.mx_book.specs.RowEdits.{all_rewritten, all_able, row_laid_of}
use Rattle.std.proofs.Props.{props}
use mathlib.Core.Logic.{∥∥₁_elim, ∥∥₁_map}
use Rattle.mx_book.proofs.ReadLemmas.{purses_are, holder_is, account_is, there_is, own_is, place_is, message_is, inbox_is, lines_are, purse_names_are, members_are, load_is, redemption_is}
use Rattle.mx_book.proofs.CountedLemmas.{uncollected_is}
use Rattle.mx_book.proofs.TotalLemmas.{totals_are, member_totals_are, members_totals_are}
use Rattle.mx_book.specs.Totals.{totals_of, member_totals_of, members_totals_of}
use Rattle.mx_book.specs.RowTotals.{row_totals_of, row_member_totals_of, row_members_totals_of}
use Rattle.mx_book.specs.declared.values.Scope.TheVariants.{Member}
use Rattle.mx_book.proofs.EditLemmas.{edits_spelled, all_able_there}
use Rattle.mx_book.proofs.ResultLemmas.{laid_is}
use Rattle.mx_book.specs.Conditions.{IsWorld}
use Rattle.mx_book.specs.Spells.{Spells}

-- a read of the World of the rows is one of each World that they spell
read_at : {X : Type 0} (f : World → X) (r : Rows) (w : World) (x : X) → Spells r w → f (world_of r) ≡ x → x ≡ f w
read_at f r w x h is = sym (ap f h.spelled.world ∙ is)

pub who_at : (r : Rows) (w : World) (t : Token) → Spells r w → row_who_of r t ≡ who_of w t
who_at r w t h = read_at (λ z. who_of z t) r w _ h refl

pub member_at : (r : Rows) (w : World) (m : Name) → Spells r w → fmap.get r.members m ≡ member_of w m
member_at r w m h = read_at (λ z. member_of z m) r w _ h refl

pub holder_at : (r : Rows) (w : World) (p : Name) → Spells r w → row_holder_of r p ≡ holder_of w p
holder_at r w p h = read_at (λ z. holder_of z p) r w _ h (holder_is r p)

pub purses_at : (r : Rows) (w : World) (p : Name) → Spells r w → row_purses_of r p ≡ purses_of w p
purses_at r w p h = read_at (λ z. purses_of z p) r w _ h (purses_are r p)

pub account_at : (r : Rows) (w : World) (p : Name) → Spells r w → row_account_of r p ≡ account_of w p
account_at r w p h = read_at (λ z. account_of z p) r w _ h (account_is r p)

pub there_at : (r : Rows) (w : World) (p : Name) → Spells r w → is_some (fmap.get r.purses p) ≡ has_purse w p
there_at r w p h = read_at (λ z. has_purse z p) r w _ h (there_is r p)

pub own_at : (r : Rows) (w : World) (h p : Name) → Spells r w → row_own_purse r h p ≡ own_purse w h p
own_at r w h p is = read_at (λ z. own_purse z h p) r w _ is (own_is r h p)

pub place_at : (r : Rows) (w : World) (p : Name) → Spells r w → row_finds_place r p ≡ finds_place w p
place_at r w p h = read_at (λ z. finds_place z p) r w _ h (place_is r p)

pub message_at : (r : Rows) (w : World) (p : Name) (n : ℕ) → Spells r w → fmap.get r.inbox (p, n) ≡ message_of w p n
message_at r w p n h = read_at (λ z. message_of z p n) r w _ h (message_is r h.spelled.proper p n)

pub inbox_at : (r : Rows) (w : World) (p : Name) → Spells r w → row_inbox_of r p ≡ inbox_of w p
inbox_at r w p h = read_at (λ z. inbox_of z p) r w _ h (inbox_is r h.spelled.proper p)

pub lines_at : (r : Rows) (w : World) (p : Name) (after most : ℕ) → Spells r w → row_lines_of r p after most ≡ lines_of w p after most
lines_at r w p after most h = read_at (λ z. lines_of z p after most) r w _ h (lines_are r h.spelled.proper p after most)

pub purse_names_at : (r : Rows) (w : World) → Spells r w → row_purse_names_of r ≡ purse_names_of w
purse_names_at r w h = read_at purse_names_of r w _ h (purse_names_are r)

pub members_at : (r : Rows) (w : World) → Spells r w → row_members_of r ≡ members_of w
members_at r w h = read_at members_of r w _ h (members_are r)

pub load_at : (r : Rows) (w : World) (p ref : Name) → Spells r w → row_load_of r p ref ≡ load_of w p ref
load_at r w p ref h = read_at (λ z. load_of z p ref) r w _ h (load_is r h.spelled.proper p ref)

pub redemption_at : (r : Rows) (w : World) (p ref : Name) → Spells r w → row_redemption_of r p ref ≡ redemption_of w p ref
redemption_at r w p ref h = read_at (λ z. redemption_of z p ref) r w _ h (redemption_is r h.spelled.proper p ref)

pub archived_at : (r : Rows) (w : World) (p : Name) (d : Details) → Spells r w → row_is_archived r p d ≡ is_archived w p d
archived_at r w p d h = read_at (λ z. is_archived z p d) r w _ h refl

pub settled_at : (r : Rows) (w : World) (d : Details) → Spells r w → row_is_settled r d ≡ is_settled w d
settled_at r w d h = read_at (λ z. is_settled z d) r w _ h refl

-- what is in the tray of a purse is an entry of its log, so it is found from there
pub tray_at : (r : Rows) (w : World) (p : Name) → Spells r w → row_laid_of r p ≡ tray_of w p
tray_at r w p h = read_at (λ z. tray_of z p) r w _ h (sym (laid_is r p (subst IsWorld h.spelled.world h.sound)))

pub uncollected_at : (r : Rows) (w : World) (m : Name) → Spells r w → row_uncollected_of r (Member m) ≡ uncollected_of w m
uncollected_at r w m h = read_at (λ z. uncollected_of z m) r w _ h (uncollected_is r (Member m) h.spelled.proper)

pub totals_at : (r : Rows) (w : World) → Spells r w → row_totals_of r ≡ totals_of w
totals_at r w h = read_at totals_of r w _ h (totals_are r h.spelled.proper (subst IsWorld h.spelled.world h.sound))

pub member_totals_at : (r : Rows) (w : World) (m : Name) → Spells r w → row_member_totals_of r m ≡ member_totals_of w m
member_totals_at r w m h = read_at (λ z. member_totals_of z m) r w _ h (member_totals_are r h.spelled.proper m)

pub members_totals_at : (r : Rows) (w : World) → Spells r w → row_members_totals_of r ≡ members_totals_of w
members_totals_at r w h = read_at members_totals_of r w _ h (members_totals_are r h.spelled.proper)

pub applied : (r s : Rows) (w : World) (es : List Edit) → Spells r w → Fits w es → s ≡ all_rewritten r es → Spells s (all_edited w es)
applied r s w es h fits is = subst (λ (z : Rows). Spells z (all_edited w es)) (sym is) (record { spelled = edits_spelled r w es h.spelled fits.each; sound = fits.end })

-- rows that spell a World spell their own
pub own_world : (r : Rows) (w : World) → Spells r w → Spells r (world_of r)
own_world r w h = subst (λ (z : World). Spells r z) h.spelled.world h

pub able_of : (r : Rows) (w : World) (es : List Edit) → Spells r w → Fits w es → IsTrue (all_able r es)
able_of r w es h fits = all_able_there r w es h.spelled fits.each

-- ---- what a write needs, and what it leaves

pub able_always : (r s : Rows) (es : List Edit) → ∥ Spells r (world_of r) ∥₁ → s ≡ r → ((w : World) → ◌≡◌ {A = ℕ} 0 0 → Spells r w → Fits w es) → IsTrue (all_able s es)
able_always r s es h is fits = subst (λ (z : Rows). IsTrue (all_able z es)) (sym is) (∥∥₁_elim h (hlevel props) (λ one. able_of r (world_of r) es one (fits (world_of r) refl one)))

applied_own : (r s : Rows) (es : List Edit) → Spells r (world_of r) → Fits (world_of r) es → s ≡ all_rewritten r es → Spells s (world_of s)
applied_own r s es h fits is = own_world s (all_edited (world_of r) es) (applied r s (world_of r) es h fits is)

pub applied_always : (r s : Rows) (es : List Edit) → ∥ Spells r (world_of r) ∥₁ → ((w : World) → ◌≡◌ {A = ℕ} 0 0 → Spells r w → Fits w es) → s ≡ all_rewritten r es → ∥ Spells s (world_of s) ∥₁
applied_always r s es h fits is = ∥∥₁_map h (λ one. applied_own r s es one (fits (world_of r) refl one) is)
