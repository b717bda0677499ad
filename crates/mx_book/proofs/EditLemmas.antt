-- An edit of the rows is the edit of the World.
use Rattle.std.proofs.Common.{◌≡◌, ℕ, ◌+◌, ◌<◌, Bool, true, false, cond, List, [], ◌∷◌, ◌++◌, refl, sym, ◌∙◌, ap, subst, Option, Some, None, IsSome, arith}
use Rattle.mx_book.proofs.FoundLemmas.{none_is}
use Rattle.std.specs.Prelude.{◌||◌, option_map, IsNone, IsTrue}
use Rattle.std.specs.Ordering.{nat_cmp}
use Rattle.std.specs.Cmp.{nat_cmp_total}
use Rattle.std.specs.FinMap as fmap
use Rattle.std.proofs.lemmas.Bool.Decides.{nat_tests}
use Rattle.std.specs.FinMap.{nat_cmp-IsAntisymmetric}
use Rattle.mx_book.specs.Limits.{most_messages}
use Rattle.mx_pay.specs.Limits.{most_number}
use Rattle.mx_pay.specs.Names.{name_cmp, is_name}
use Rattle.mx_pay.specs.Details.{Details}
use Rattle.mx_pay.specs.Log.{has_logged, is_within}
use Rattle.mx_purse.specs.State.{State, new_purse}
use Rattle.mx_purse.specs.declared.message.Message.{Message}
use Rattle.mx_book.specs.World.{World, Row, Name, delivered, new_row, is_of, is_of_member, with_collected}
use Rattle.mx_book.specs.declared.values.Line.{Line}
use Rattle.mx_book.specs.Maps.{pick}
use Rattle.mx_book.specs.Conditions.{AreNumbered}
use Rattle.mx_book.proofs.MapLemmas.{get-pick, pick-insert, pick-skip}
use Rattle.mx_book.proofs.NameLemmas.{names_total, names_exact}
use Rattle.mx_book.proofs.NameLemmas.{get-inserted}
use Rattle.mx_book.specs.declared.values.PurseRow.{PurseRow}
use Rattle.mx_book.specs.declared.values.Redemption.{Redemption}
use Rattle.mx_book.specs.declared.values.LineRow.{LineRow}
use Rattle.mx_book.specs.declared.edits.Edit.{Edit}
use Rattle.mx_book.specs.declared.edits.Edit.TheVariants.{NewMember, SetMember, NewHolder, NewPurse, SetPurse, AddMessage, DropMessage, AddLine, AddLoad, AddRedemption, AddTray, ArchiveTray, Collect, AddSettled}
use Rattle.mx_book.specs.Under.{pair_cmp, under, remake}
use Rattle.mx_book.specs.Rows.{Rows, world_of, row_of, IsProper, Spelled, line_row, amount_of, mark_of}
use Rattle.mx_book.specs.Edits.{edited, all_edited, AllSuit, Suits}
use Rattle.mx_book.specs.RowEdits.{rewritten, all_rewritten, able, all_able, can_rise, member_at, marked, log_at, row_tray_of}
use Rattle.mx_book.proofs.UnderLemmas.{under-insert, under-insert_other, under-remove, under-remove_other, under-none, under-remake, get-remake, pair_exact, entries_empty}
use Rattle.mx_book.proofs.LogLemmas.{under_has, within_from}
use Rattle.mx_book.proofs.LineLemmas.{lines-insert}
use Rattle.mx_book.proofs.RowLemmas.{world_rows_put, get_rows, found, found_row, not_there, change_is, NoStray-insert, NoStray-remove, proper_purse}

-- another key after a write
get-other : {X : Type 0} (m : fmap.FinMap name_cmp X) (p q : Name) (x : X) → is_name q p ≡ false → fmap.get (fmap.insert m p x) q ≡ fmap.get m q
get-other m p q x f = grind (arith, fmap.gets, names_total)

pick-empty : {X Y : Type 0} (f : X → Option Y) → pick f (fmap.empty {X = X} {R = name_cmp}) ≡ fmap.empty
pick-empty f = fmap.same_map names_total names_exact _ _ (λ q. grind (arith, fmap.gets, get-pick names_total f fmap.empty q))

-- ---- a purse more

new_purse_row : (r : Rows) (h : IsProper r) (p g : Name) → fmap.get r.purses p ≡ None → Spelled (rewritten r (NewPurse p g)) (edited (world_of r) (NewPurse p g))
new_purse_row r h p g gone =
    let y : PurseRow = record { holder = g; purse = new_purse p; next_message = 0 } in
    let s : Rows = record r { purses = fmap.insert r.purses p y } in
    let fresh : row_of s p y ≡ new_row g p = simp (
      under-none names_total nat_cmp_total nat_cmp-IsAntisymmetric p r.inbox (λ k. h.inbox p k gone),
      under-none names_total nat_cmp_total nat_cmp-IsAntisymmetric p r.lines (λ k. h.lines p k gone),
      under-none names_total names_total names_exact p r.loads (λ k. h.loads p k gone),
      under-none names_total names_total names_exact p r.redemptions (λ k. h.redemptions p k gone),
      entries_empty {V = LineRow} nat_cmp,
      pick-empty amount_of,
      pick-empty mark_of,
    ) in
    record {
      world = ap (λ rows. record (world_of r) { rows = rows }) (sym (world_rows_put r s p (new_row g p) (grind (arith, get-inserted r.purses p y, fresh)) (λ n f. grind (arith, get-other r.purses p n y f))));
      proper = proper_purse r p y h;
    }

-- ---- a purse's row is written

set_purse : (r : Rows) (h : IsProper r) (q : State) (x : PurseRow) → fmap.get r.purses q.name ≡ Some x → Spelled (rewritten r (SetPurse q)) (edited (world_of r) (SetPurse q))
set_purse r h q x at =
    let y : PurseRow = record x { purse = q } in
    let s : Rows = record r { purses = fmap.insert r.purses q.name y } in
    rw at (record {
      world = change_is r s q.name (λ row. record row { holding = record row.holding { purse = q } }) x y at (get-inserted r.purses q.name y) refl (λ n f. grind (arith, get-other r.purses q.name n y f));
      proper = proper_purse r q.name y h;
    })

add_message : (r : Rows) (h : IsProper r) (p : Name) (m : Message) (x : PurseRow) → fmap.get r.purses p ≡ Some x → Spelled (rewritten r (AddMessage p m)) (edited (world_of r) (AddMessage p m))
add_message r h p m x at =
    let y : PurseRow = record x { next_message = x.next_message + 1 } in
    let t : Rows = record r { inbox = fmap.insert r.inbox (p, x.next_message) m } in
    let s : Rows = record t { purses = fmap.insert r.purses p y } in
    let proper : IsProper t = record { inbox = NoStray-insert nat_cmp nat_cmp_total r.purses r.inbox h.inbox p x.next_message m x at; lines = h.lines; loads = h.loads; redemptions = h.redemptions } in
    rw at (record {
      world = change_is r s p (λ row. record row { holding = delivered row.holding m }) x y at (get-inserted r.purses p y)
          (simp (under-insert names_total nat_cmp_total nat_cmp-IsAntisymmetric p r.inbox x.next_message m))
          (λ n f. grind (arith, get-other r.purses p n y f, under-insert_other names_total nat_cmp_total nat_cmp-IsAntisymmetric p n r.inbox x.next_message m f));
      proper = proper_purse t p y proper;
    })

-- ---- a row under a purse that is there

drop_message : (r : Rows) (h : IsProper r) (p : Name) (k : ℕ) (x : PurseRow) → fmap.get r.purses p ≡ Some x → Spelled (rewritten r (DropMessage p k)) (edited (world_of r) (DropMessage p k))
drop_message r h p k x at =
    let s : Rows = record r { inbox = fmap.remove r.inbox (p, k) } in
    record {
      world = change_is r s p (λ row. record row { holding = record row.holding { inbox = fmap.remove row.holding.inbox k } }) x x at at
          (simp (under-remove names_total nat_cmp_total nat_cmp-IsAntisymmetric p r.inbox k))
          (λ n f. grind (arith, under-remove_other names_total nat_cmp_total nat_cmp-IsAntisymmetric p n r.inbox k f));
      proper = record { inbox = NoStray-remove nat_cmp nat_cmp_total r.purses r.inbox h.inbox p k; lines = h.lines; loads = h.loads; redemptions = h.redemptions };
    }

add_line : (r : Rows) (h : IsProper r) (p : Name) (l : Line) (x : PurseRow) → fmap.get r.purses p ≡ Some x → AreNumbered 1 ((row_of r p x).holding.lines ++ l ∷ []) → Spelled (rewritten r (AddLine p l)) (edited (world_of r) (AddLine p l))
add_line r h p l x at next =
    let s : Rows = record r { lines = fmap.insert r.lines (p, l.number) (line_row l) } in
    record {
      world = change_is r s p (λ row. record row { holding = record row.holding { lines = row.holding.lines ++ l ∷ [] } }) x x at at
          (simp (under-insert names_total nat_cmp_total nat_cmp-IsAntisymmetric p r.lines l.number (line_row l), lines-insert (under name_cmp nat_cmp p r.lines) l next))
          (λ n f. grind (arith, under-insert_other names_total nat_cmp_total nat_cmp-IsAntisymmetric p n r.lines l.number (line_row l) f));
      proper = record { inbox = h.inbox; lines = NoStray-insert nat_cmp nat_cmp_total r.purses r.lines h.lines p l.number (line_row l) x at; loads = h.loads; redemptions = h.redemptions };
    }

-- ---- loads and redemptions

add_load : (r : Rows) (h : IsProper r) (p ref : Name) (amount : ℕ) (x : PurseRow) → fmap.get r.purses p ≡ Some x → Spelled (rewritten r (AddLoad p ref amount)) (edited (world_of r) (AddLoad p ref amount))
add_load r h p ref amount x at =
    let s : Rows = record r { loads = fmap.insert r.loads (p, ref) amount } in
    record {
      world = change_is r s p (λ row. record row { loads = fmap.insert row.loads ref amount }) x x at at
          (simp (under-insert names_total names_total names_exact p r.loads ref amount))
          (λ n f. grind (arith, under-insert_other names_total names_total names_exact p n r.loads ref amount f));
      proper = record { inbox = h.inbox; lines = h.lines; loads = NoStray-insert name_cmp names_total r.purses r.loads h.loads p ref amount x at; redemptions = h.redemptions };
    }

add_redemption : (r : Rows) (h : IsProper r) (p ref : Name) (amount : ℕ) (x : PurseRow) → fmap.get r.purses p ≡ Some x → fmap.get (row_of r p x).holding.redemptions ref ≡ None
    → Spelled (rewritten r (AddRedemption p ref amount)) (edited (world_of r) (AddRedemption p ref amount))
add_redemption r h p ref amount x at new =
    let y : Redemption = record { amount = amount; collected = false } in
    let m = under name_cmp name_cmp p r.redemptions in
    let s : Rows = record r { redemptions = fmap.insert r.redemptions (p, ref) y } in
    let amounts = pick-insert names_total amount_of names_exact m ref y amount refl in
    let marks = pick-skip names_total mark_of names_exact m ref y refl (grind (arith, get-pick names_total amount_of m ref, new)) in
    record {
      world = change_is r s p (λ row. record row { holding = record row.holding { redemptions = fmap.insert row.holding.redemptions ref amount } }) x x at at
          (simp (under-insert names_total names_total names_exact p r.redemptions ref y, amounts, marks))
          (λ n f. grind (arith, under-insert_other names_total names_total names_exact p n r.redemptions ref y f));
      proper = record { inbox = h.inbox; lines = h.lines; loads = h.loads; redemptions = NoStray-insert name_cmp names_total r.purses r.redemptions h.redemptions p ref y x at };
    }

-- ---- a collect

-- a redemption that is collected, or stays, by a test
abbrev collected_by : Bool → Name → Redemption → Redemption
collected_by c ref y = record y { collected = y.collected || c }

amounts_stay : (c : Bool) (m : fmap.FinMap name_cmp Redemption) → pick amount_of (remake (collected_by c) m) ≡ pick amount_of m
amounts_stay c m = fmap.same_map names_total names_exact _ _ (λ q. grind (arith, get-pick names_total amount_of, get-remake name_cmp (collected_by c) names_exact m q))

abbrev each_mark : ℕ → Option (Unit {0})
each_mark amount = Some tt

marks_are : (c : Bool) (m : fmap.FinMap name_cmp Redemption) → pick mark_of (remake (collected_by c) m) ≡ cond c (pick each_mark (pick amount_of m)) (pick mark_of m)
marks_are c m = fmap.same_map names_total names_exact _ _ (λ q. grind (arith, get-pick names_total amount_of m q, get-pick names_total mark_of m q, get-pick names_total mark_of (remake (collected_by c) m) q, get-pick names_total each_mark (pick amount_of m) q, get-remake name_cmp (collected_by c) names_exact m q))

module _ (r : Rows) (m : Name) where
  abbrev collect_one : Name → Row → Row
  collect_one p row = cond (is_of_member (world_of r) m row) (with_collected row) row

  collected_at : (q : Name) (x : PurseRow) → fmap.get r.purses q ≡ Some x → row_of (rewritten r (Collect m)) q x ≡ collect_one q (row_of r q x)
  collected_at q x at =
      let c : Bool = is_of m (member_at r.holders (fmap.get r.purses q)) in
      let u = under name_cmp name_cmp q r.redemptions in
      let amounts = amounts_stay c u in
      let marks = marks_are c u in
      let remade = under-remake names_total names_total names_exact names_exact (marked r.purses r.holders m) q r.redemptions in
      grind (arith, at)

  collect : (h : IsProper r) → Spelled (rewritten r (Collect m)) (edited (world_of r) (Collect m))
  collect h =
      let s : Rows = rewritten r (Collect m) in
      record {
        world = ap (λ rows. record (world_of r) { rows = rows }) (fmap.same_map names_total names_exact _ _ (λ q.
            get-remake name_cmp collect_one names_exact (world_of r).rows q
            ∙ grind (arith, get_rows r q, get_rows s q, collected_at q)));
        proper = record {
          inbox = h.inbox;
          lines = h.lines;
          loads = h.loads;
          redemptions = λ p k gone. get-remake (pair_cmp name_cmp name_cmp) (marked r.purses r.holders m) (pair_exact names_exact names_exact) r.redemptions (p, k) ∙ ap (option_map (marked r.purses r.holders m (p, k))) (h.redemptions p k gone);
        };
      }

-- ---- each edit

pub edit_is : (r : Rows) (e : Edit) → IsProper r → Suits (world_of r) e → Spelled (rewritten r e) (edited (world_of r) e)
edit_is r (NewMember m t) h fits = record { world = refl; proper = h }
edit_is r (SetMember m granted float) h fits = record { world = refl; proper = h }
edit_is r (NewHolder g m t) h fits = record { world = refl; proper = h }
edit_is r (NewPurse p g) h fits = new_purse_row r h p g (not_there r p fits.0)
edit_is r (SetPurse q) h fits = let x = found_row r q.name fits in set_purse r h q x.0 x.1
edit_is r (AddMessage p m) h fits = let x = found r p (λ row. (fmap.len row.holding.inbox < most_messages) × (row.holding.next_message < most_number)) fits in add_message r h p m x.0 x.1
edit_is r (DropMessage p k) h fits = let x = found r p (λ row. IsSome (fmap.get row.holding.inbox k)) fits in drop_message r h p k x.0 x.1
edit_is r (AddLine p l) h fits = let x = found r p (λ row. AreNumbered 1 (row.holding.lines ++ l ∷ [])) fits in add_line r h p l x.0 x.1 x.2
edit_is r (AddLoad p ref amount) h fits = let x = found r p (λ row. IsNone (fmap.get row.loads ref)) fits in add_load r h p ref amount x.0 x.1
edit_is r (AddRedemption p ref amount) h fits = let x = found r p (λ row. IsNone (fmap.get row.holding.redemptions ref)) fits in add_redemption r h p ref amount x.0 x.1 (none_is _ x.2)
edit_is r (AddTray p d) h fits = record { world = refl; proper = h }
edit_is r (ArchiveTray p) h fits = record { world = refl; proper = h }
edit_is r (Collect m) h fits = collect r m h
edit_is r (AddSettled d) h fits = record { world = refl; proper = h }

-- and so of a list of edits
pub edit_spelled : (r : Rows) (w : World) (e : Edit) → Spelled r w → Suits w e → Spelled (rewritten r e) (edited w e)
edit_spelled r w e h fits = subst (λ (z : World). Spelled (rewritten r e) (edited z e)) (sym h.world) (edit_is r e h.proper (subst (λ (z : World). Suits z e) h.world fits))

pub edits_spelled : (r : Rows) (w : World) (es : List Edit) → Spelled r w → AllSuit w es → Spelled (all_rewritten r es) (all_edited w es)
edits_spelled r w [] h fits = h
edits_spelled r w (e ∷ es) h fits = edits_spelled (rewritten r e) (edited w e) es (edit_spelled r w e h fits.0) fits.1

-- ---- what a write needs

able_there : (r : Rows) (e : Edit) → Suits (world_of r) e → IsTrue (able r e)
able_there r (AddMessage p m) fits =
    let z = found r p (λ row. (fmap.len row.holding.inbox < most_messages) × (row.holding.next_message < most_number)) fits in
    subst (λ o. IsTrue (can_rise o)) (sym z.1) (grind (arith, nat_tests, z.2.1))
able_there r (ArchiveTray p) fits =
    let z = found r p (λ row. (d : Details) → fmap.contains_key r.tray (p, d) ≡ true → has_logged row.holding.purse.log d ≡ true) fits in
    subst (λ o. IsTrue (is_within (row_tray_of r p) (log_at o))) (sym z.1) (within_from (row_tray_of r p) z.0.purse.log (λ d laid. z.2 d (sym (under_has p r.tray d) ∙ laid)))
able_there r e fits = refl

pub all_able_there : (r : Rows) (w : World) (es : List Edit) → Spelled r w → AllSuit w es → IsTrue (all_able r es)
all_able_there r w [] h fits = refl
all_able_there r w (e ∷ es) h fits =
    let first = able_there r e (subst (λ (z : World). Suits z e) h.world fits.0) in
    let rest = all_able_there (rewritten r e) (edited w e) es (edit_spelled r w e h fits.0) fits.1 in
    grind (arith, first, rest)
