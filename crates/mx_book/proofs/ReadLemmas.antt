-- What is read of the rows is what the World has.
use Rattle.std.proofs.Common.{is_some, ◌≡◌, ℕ, ◌&&◌, List, [], ◌∷◌, map, length, take, arith, refl, sym, ◌∙◌, ap, Option, Some, None}
use Rattle.std.specs.Prelude.{option_map, filter, nat_lt}
use Rattle.std.specs.List.{take-map}
use Rattle.std.specs.Ordering.{nat_cmp}
use Rattle.std.specs.Cmp.{nat_cmp_total}
use Rattle.std.specs.FinMap as fmap
use Rattle.mx_pay.specs.Names.{name_cmp, is_name}
use Rattle.mx_book.specs.World.{Row, Name, has_room}
use Rattle.mx_book.specs.declared.values.Line.{Line}
use Rattle.std.proofs.lemmas.List.{length-map}
use Rattle.mx_book.proofs.NameLemmas.{names_total}
use Rattle.mx_book.proofs.MapLemmas.{get-pick}
use Rattle.mx_book.specs.declared.values.PurseRow.{PurseRow}
use Rattle.mx_book.specs.declared.values.LineRow.{LineRow}
use Rattle.mx_book.specs.Under.{under, those, remade}
use Rattle.mx_book.specs.Rows.{Rows, world_of, row_of, line_at, amount_of, IsProper}
use Rattle.mx_book.specs.Reads.{of_purse, from_row, purses_of, holder_of, account_of, has_purse, own_purse, finds_place, inbox_of, message_of, lines_of, purse_names_of, members_of, load_of, redemption_of}
use Rattle.mx_book.specs.RowReads.{of_name, purse_rows_of, row_purses_of, row_holder_of, row_account_of, row_own_purse, row_finds_place, row_inbox_of, row_lines_of, row_purse_names_of, row_members_of, row_load_of, row_redemption_of, line_of_row}
use Rattle.mx_book.proofs.UnderLemmas.{get-under, entries-under, len-under, entries-remake, under-none, entries_empty}
use Rattle.mx_book.proofs.RowLemmas.{get_rows}

-- ---- the rows of a purse, as a filter

pub those_are : {K V : Type 0} (p : Name) (es : List ((Name × K) × V)) → those name_cmp p es ≡ map (λ (e : (Name × K) × V). (e.0.1, e.1)) (of_name p es)
those_are p [] = refl
those_are p (e ∷ es) = grind (arith, those_are p es)

-- ---- the lines of a purse above a number

lines_above : (p : Name) (after : ℕ) (es : List ((Name × ℕ) × LineRow))
    → filter (λ (l : Line). nat_lt after l.number) (map line_at (map (λ (e : (Name × ℕ) × LineRow). (e.0.1, e.1)) (of_name p es))) ≡ map line_of_row (filter (λ (e : (Name × ℕ) × LineRow). is_name p e.0.0 && nat_lt after e.0.1) es)
lines_above p after [] = refl
lines_above p after (e ∷ es) = grind (arith, lines_above p after es)

-- ---- the purses of a holder

holder_names : (r : Rows) (h : Name) (es : List (Name × PurseRow)) → map (λ (e : Name × Row). e.0) (filter (λ (e : Name × Row). is_name h e.1.holder) (remade (row_of r) es)) ≡ map (λ (e : Name × PurseRow). e.0) (filter (λ (e : Name × PurseRow). is_name h e.1.holder) es)
holder_names r h [] = refl
holder_names r h (e ∷ es) = grind (arith, holder_names r h es)

pub purses_are : (r : Rows) (h : Name) → purses_of (world_of r) h ≡ row_purses_of r h
purses_are r h = ap (λ es. map (λ (e : Name × Row). e.0) (filter (λ (e : Name × Row). is_name h e.1.holder) es)) (entries-remake name_cmp (row_of r) r.purses) ∙ holder_names r h (fmap.entries r.purses)

pub holder_is : (r : Rows) (h : Name) → holder_of (world_of r) h ≡ row_holder_of r h
holder_is r h = ap (λ n. option_map (λ m. record { member = m; purses = n }) (fmap.get r.holders h)) (ap length (purses_are r h) ∙ length-map (purse_rows_of h (fmap.entries r.purses)) _)

-- ---- an account

pub held_is : (r : Rows) (p : Name) → fmap.len (under name_cmp nat_cmp p r.inbox) ≡ length (of_name p (fmap.entries r.inbox))
held_is r p = len-under name_cmp nat_cmp names_total p r.inbox ∙ ap length (those_are p (fmap.entries r.inbox)) ∙ length-map (of_name p (fmap.entries r.inbox)) _

pub account_is : (r : Rows) (p : Name) → account_of (world_of r) p ≡ row_account_of r p
account_is r p = grind (arith, get_rows r p, held_is r p)

pub there_is : (r : Rows) (p : Name) → has_purse (world_of r) p ≡ is_some (fmap.get r.purses p)
there_is r p = grind (arith, get_rows r p)

pub own_is : (r : Rows) (h p : Name) → own_purse (world_of r) h p ≡ row_own_purse r h p
own_is r h p = grind (arith, get_rows r p)

pub place_is : (r : Rows) (p : Name) → finds_place (world_of r) p ≡ row_finds_place r p
unfolding has_room
place_is r p = grind (arith, get_rows r p, held_is r p)

-- ---- what stands under a purse

module _ (r : Rows) (h : IsProper r) where
  purse_case : {X : Type 0} (x : X) (f : Row → X) (p : Name) (y : X) (o : Option PurseRow) → fmap.get r.purses p ≡ o → (fmap.get r.purses p ≡ None → x ≡ y) → ((z : PurseRow) → fmap.get r.purses p ≡ Some z → f (row_of r p z) ≡ y) → from_row x f (option_map (row_of r p) o) ≡ y
  purse_case x f p y None at none some = none at
  purse_case x f p y (Some z) at none some = some z at

  -- what is read of a purse, whether it is there or not
  of_purse_is : {X : Type 0} (x : X) (f : Row → X) (p : Name) (y : X) → (fmap.get r.purses p ≡ None → x ≡ y) → ((z : PurseRow) → fmap.get r.purses p ≡ Some z → f (row_of r p z) ≡ y) → of_purse x f (world_of r) p ≡ y
  of_purse_is x f p y none some = ap (from_row x f) (get_rows r p) ∙ purse_case x f p y (fmap.get r.purses p) refl none some

  pub message_is : (p : Name) (n : ℕ) → message_of (world_of r) p n ≡ fmap.get r.inbox (p, n)
  message_is p n = of_purse_is None _ p (fmap.get r.inbox (p, n)) (λ gone. sym (h.inbox p n gone)) (λ z at. get-under name_cmp nat_cmp names_total p r.inbox n)

  inbox_entries : (p : Name) → fmap.entries (under name_cmp nat_cmp p r.inbox) ≡ row_inbox_of r p
  inbox_entries p = entries-under name_cmp nat_cmp names_total p r.inbox ∙ those_are p (fmap.entries r.inbox)

  pub inbox_is : (p : Name) → inbox_of (world_of r) p ≡ row_inbox_of r p
  inbox_is p = of_purse_is [] _ p (row_inbox_of r p)
      (λ gone. sym (sym (inbox_entries p) ∙ ap fmap.entries (under-none names_total nat_cmp_total fmap.nat_cmp-IsAntisymmetric p r.inbox (λ k. h.inbox p k gone)) ∙ entries_empty nat_cmp))
      (λ z at. inbox_entries p)

  line_entries : (p : Name) → fmap.entries (under name_cmp nat_cmp p r.lines) ≡ map (λ (e : (Name × ℕ) × LineRow). (e.0.1, e.1)) (of_name p (fmap.entries r.lines))
  line_entries p = entries-under name_cmp nat_cmp names_total p r.lines ∙ those_are p (fmap.entries r.lines)

  all_lines : (p : Name) → of_purse [] (λ x. x.holding.lines) (world_of r) p ≡ map line_at (map (λ (e : (Name × ℕ) × LineRow). (e.0.1, e.1)) (of_name p (fmap.entries r.lines)))
  all_lines p = of_purse_is [] _ p _
      (λ gone. sym (ap (map line_at) (sym (line_entries p) ∙ ap fmap.entries (under-none names_total nat_cmp_total fmap.nat_cmp-IsAntisymmetric p r.lines (λ k. h.lines p k gone)) ∙ entries_empty nat_cmp)))
      (λ z at. ap (map line_at) (line_entries p))

  pub lines_are : (p : Name) (after most : ℕ) → lines_of (world_of r) p after most ≡ row_lines_of r p after most
  lines_are p after most = ap (λ ls. take most (filter (λ (l : Line). nat_lt after l.number) ls)) (all_lines p) ∙ ap (take most) (lines_above p after (fmap.entries r.lines)) ∙ take-map line_of_row most _

  pub load_is : (p ref : Name) → load_of (world_of r) p ref ≡ row_load_of r p ref
  load_is p ref = of_purse_is None _ p (row_load_of r p ref) (λ gone. sym (h.loads p ref gone)) (λ z at. get-under name_cmp name_cmp names_total p r.loads ref)

  pub redemption_is : (p ref : Name) → redemption_of (world_of r) p ref ≡ row_redemption_of r p ref
  redemption_is p ref = of_purse_is None _ p (row_redemption_of r p ref)
      (λ gone. grind (arith, h.redemptions p ref gone))
      (λ z at. grind (arith, get-pick names_total amount_of (under name_cmp name_cmp p r.redemptions) ref, get-under name_cmp name_cmp names_total p r.redemptions ref))

-- ---- the purses and the members

remade_names : (r : Rows) (es : List (Name × PurseRow)) → map (λ (e : Name × Row). e.0) (remade (row_of r) es) ≡ map (λ (e : Name × PurseRow). e.0) es
remade_names r [] = refl
remade_names r (e ∷ es) = grind (arith, remade_names r es)

pub purse_names_are : (r : Rows) → purse_names_of (world_of r) ≡ row_purse_names_of r
purse_names_are r = ap (map (λ (e : Name × Row). e.0)) (entries-remake name_cmp (row_of r) r.purses) ∙ remade_names r (fmap.entries r.purses)

pub members_are : (r : Rows) → members_of (world_of r) ≡ row_members_of r
members_are r = refl
