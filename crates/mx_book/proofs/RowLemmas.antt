-- What the World of some rows has, and where a write of the rows shows in it.
use Rattle.std.proofs.Common.{◌≡◌, false, refl, sym, ◌∙◌, ap, subst, Option, Some, None, IsSome, arith}
use Rattle.std.specs.Prelude.{option_map, IsSomeAnd}
use Rattle.std.specs.declared.cmp.Ordering.{Ordering}
use Rattle.std.specs.Ordering.{nat_cmp}
use Rattle.std.specs.Cmp.{IsTotalOrder, nat_cmp_total}
use Rattle.std.specs.FinMap as fmap
use Rattle.std.specs.FinMap.{IsAntisymmetric}
use Rattle.mx_pay.specs.Names.{name_cmp, is_name}
use Rattle.mx_book.specs.World.{Row, Name, change_row, changed_row}
use Rattle.mx_book.proofs.NameLemmas.{names_total, names_exact, same_name}
use Rattle.mx_book.specs.declared.values.PurseRow.{PurseRow}
use Rattle.mx_book.specs.Under.{pair_cmp}
use Rattle.mx_book.specs.Rows.{Rows, world_of, row_of, IsProper, HasNoStray, NoStray}
use Rattle.mx_book.proofs.UnderLemmas.{get-remake, pair_total, pair_exact}

-- the order of keys that are a purse and a reference
pub keys_total : IsTotalOrder (pair_cmp name_cmp name_cmp)
keys_total = pair_total names_total names_total

pub keys_exact : IsAntisymmetric (pair_cmp name_cmp name_cmp)
keys_exact = pair_exact names_exact names_exact

-- what the rows say of a name
abbrev pub row_at : Rows → Name → Option Row
row_at r q = option_map (row_of r q) (fmap.get r.purses q)

pub get_rows : (r : Rows) (q : Name) → fmap.get (world_of r).rows q ≡ row_at r q
get_rows r q = get-remake name_cmp (row_of r) names_exact r.purses q

-- the rows of one purse are written
pub world_rows_put : (r s : Rows) (p : Name) (new : Row) → row_at s p ≡ Some new → ((q : Name) → is_name q p ≡ false → row_at s q ≡ row_at r q) → (world_of s).rows ≡ fmap.insert (world_of r).rows p new
world_rows_put r s p new here others = fmap.same_map names_total names_exact _ _ (λ q.
    let at = get_rows s q in
    let was = get_rows r q in
    let after = fmap.get-insert names_total (world_of r).rows p new q in
    grind (arith, same_name q p, others q))

-- a purse that is there
pub there : (r : Rows) (p : Name) (x : PurseRow) → fmap.get r.purses p ≡ Some x → fmap.get (world_of r).rows p ≡ Some (row_of r p x)
there r p x at = get_rows r p ∙ ap (option_map (row_of r p)) at

abbrev pub Found : Rows → Name → (Row → Type 0) → Type 0
Found r p P = (x : PurseRow) × (fmap.get r.purses p ≡ Some x) × P (row_of r p x)

-- what is said of the row of a purse is said of its rows
pub found : (r : Rows) (p : Name) (P : Row → Type 0) → IsSomeAnd (fmap.get (world_of r).rows p) P → Found r p P
found r p P h = by_case (fmap.get r.purses p) refl (subst (λ (o : Option Row). IsSomeAnd o P) (get_rows r p) h)
  where
    by_case : (o : Option PurseRow) → fmap.get r.purses p ≡ o → IsSomeAnd (option_map (row_of r p) o) P → Found r p P
    by_case None at h = absurd h
    by_case (Some x) at h = (x, at, h)

pub found_row : (r : Rows) (p : Name) → IsSome (fmap.get (world_of r).rows p) → Found r p (λ _. Unit {0})
found_row r p h = found r p (λ _. Unit {0}) (grind (arith, h))

-- a purse that isn't there
pub not_there : (r : Rows) (p : Name) → fmap.get (world_of r).rows p ≡ None → fmap.get r.purses p ≡ None
not_there r p h = grind (arith, get_rows r p)

-- a change of the row of a purse that is there
pub change_is : (r s : Rows) (p : Name) (f : Row → Row) (x y : PurseRow) → fmap.get r.purses p ≡ Some x → fmap.get s.purses p ≡ Some y → row_of s p y ≡ f (row_of r p x)
    → ((q : Name) → is_name q p ≡ false → row_at s q ≡ row_at r q) → change_row (world_of r) p f ≡ record (world_of r) { rows = (world_of s).rows }
change_is r s p f x y at then is others =
    ap (changed_row (world_of r) p f) (there r p x at)
    ∙ ap (λ rows. record (world_of r) { rows = rows }) (sym (world_rows_put r s p (f (row_of r p x)) (ap (option_map (row_of s p)) then ∙ ap Some is) others))

-- ---- no stray rows

module _ {K V : Type 0} (R : K → K → Ordering) (t : IsTotalOrder R) (purses : fmap.FinMap name_cmp PurseRow) (m : fmap.FinMap (pair_cmp name_cmp R) V) (none : NoStray R purses m) where
  -- a write for a purse that is there
  pub NoStray-insert : (p : Name) (n : K) (v : V) (x : PurseRow) → fmap.get purses p ≡ Some x → NoStray R purses (fmap.insert m (p, n) v)
  NoStray-insert p n v x at q k gone = grind (arith, none q k, same_name q p, fmap.get-insert (pair_total names_total t) m (p, n) v (q, k))

  pub NoStray-remove : (p : Name) (n : K) → NoStray R purses (fmap.remove m (p, n))
  NoStray-remove p n q k gone = grind (arith, none q k, fmap.get-remove (pair_total names_total t) m (p, n) (q, k))

  -- a purse more
  pub NoStray-purse : (p : Name) (y : PurseRow) → NoStray R (fmap.insert purses p y) m
  NoStray-purse p y q k gone = grind (arith, none q k, fmap.get-insert names_total purses p y q)

-- a purse's row is written
pub proper_purse : (r : Rows) (p : Name) (y : PurseRow) → IsProper r → HasNoStray (fmap.insert r.purses p y) r.inbox r.lines r.loads r.redemptions
proper_purse r p y h = record {
  inbox = NoStray-purse nat_cmp nat_cmp_total r.purses r.inbox h.inbox p y;
  lines = NoStray-purse nat_cmp nat_cmp_total r.purses r.lines h.lines p y;
  loads = NoStray-purse name_cmp names_total r.purses r.loads h.loads p y;
  redemptions = NoStray-purse name_cmp names_total r.purses r.redemptions h.redemptions p y;
}
