-- The index of the purses of each holder.
use Rattle.std.proofs.Common.{◌≡◌, Bool, true, false, not, cond, ◌&&◌, map, length, refl, sym, ◌∙◌, ap, Option, Some, None, is_some, arith}
use Rattle.std.specs.Prelude.{option_map}
use Rattle.std.specs.FinMap as fmap
use Rattle.std.specs.FinSet.{FinSet}
use Rattle.std.proofs.lemmas.List.{length-map}
use Rattle.mx_pay.specs.Names.{name_cmp, is_name}
use Rattle.mx_book.specs.declared.values.PurseRow.{PurseRow}
use Rattle.mx_book.specs.World.{Name}
use Rattle.mx_book.specs.Index.{index_cmp, stands, is_met, is_held, IsHeld, released, names_under}
use Rattle.mx_book.specs.RowReads.{purse_rows_of}
use Rattle.mx_book.proofs.IndexLemmas.{keys_under, is_key, has-added, has-dropped}
use Rattle.mx_book.proofs.NameLemmas.{names_total, names_exact, same_name}

-- the holder of a row
abbrev holder_of : Option PurseRow → Option Name
holder_of = option_map (λ (x : PurseRow). x.holder)

-- the index without a purse, which had this row or none
has-released : (held : FinSet (index_cmp name_cmp)) (n p : Name) (q : Option Name) (o : Option PurseRow) → fmap.contains_key (released held (holder_of o) p) (n, q) ≡ (fmap.contains_key held (n, q) && not (is_met (λ (x : PurseRow). is_name n x.holder) o && is_key name_cmp q p))
has-released held n p q None = grind arith
has-released held n p q (Some x) = has-dropped name_cmp names_total held n x.holder q p

-- ---- the index after a write

-- of purses and an index that are as they are wanted
pub held_as : {purses made : fmap.FinMap name_cmp PurseRow} {held index : FinSet (index_cmp name_cmp)} → made ≡ purses → index ≡ held → IsHeld purses held → IsHeld made index
held_as a b is n q = ap (λ m. fmap.contains_key m (n, q)) b ∙ is n q ∙ sym (ap (λ m. stands (is_held m) n q) a)

pub held_new : (purses : fmap.FinMap name_cmp PurseRow) (held : FinSet (index_cmp name_cmp)) → purses ≡ fmap.empty → held ≡ fmap.empty → IsHeld purses held
held_new purses held none nothing n None = ap (λ m. fmap.contains_key m (n, None)) nothing ∙ ap is_some (fmap.get-empty (index_cmp name_cmp) (n, None))
held_new purses held none nothing n (Some q) =
    ap (λ m. fmap.contains_key m (n, Some q)) nothing ∙ ap is_some (fmap.get-empty (index_cmp name_cmp) (n, Some q))
    ∙ sym (ap (λ m. is_held m n q) none ∙ ap (is_met (λ (x : PurseRow). is_name n x.holder)) (fmap.get-empty name_cmp q))

module _ (purses : fmap.FinMap name_cmp PurseRow) (held : FinSet (index_cmp name_cmp)) (p : Name) (x : PurseRow) (is : IsHeld purses held) where
  -- a purse comes under its holder, and is no longer under the one before
  pub held_put : IsHeld (fmap.insert purses p x) (fmap.insert (released held (holder_of (fmap.get purses p)) p) (x.holder, Some p) tt)
  held_put n None = has-added name_cmp names_total (released held (holder_of (fmap.get purses p)) p) n x.holder None p ∙ grind (arith, has-released held n p None (fmap.get purses p), is n None)
  held_put n (Some q) =
      has-added name_cmp names_total (released held (holder_of (fmap.get purses p)) p) n x.holder (Some q) p
      ∙ grind (arith, has-released held n p (Some q) (fmap.get purses p), is n (Some q), same_name q p, fmap.get-insert names_total purses p x q)

  -- a purse that stays with its holder
  pub held_set : option_map (λ (y : PurseRow). y.holder) (fmap.get purses p) ≡ Some x.holder → IsHeld (fmap.insert purses p x) held
  held_set same n None = is n None
  held_set same n (Some q) = is n (Some q) ∙ by_key (is_name q p) refl (fmap.get-insert names_total purses p x q)
    where
      by_holder : (o : Option PurseRow) → option_map (λ (y : PurseRow). y.holder) o ≡ Some x.holder → is_met (λ (y : PurseRow). is_name n y.holder) o ≡ is_name n x.holder
      by_holder None e = absurd (cc)
      by_holder (Some y) e = grind (arith, e)

      by_key : (b : Bool) → is_name q p ≡ b → fmap.get (fmap.insert purses p x) q ≡ cond b (Some x) (fmap.get purses q) → is_held purses n q ≡ is_held (fmap.insert purses p x) n q
      by_key true here at = ap (is_held purses n) (same_name q p here) ∙ by_holder (fmap.get purses p) same ∙ sym (ap (is_met (λ (y : PurseRow). is_name n y.holder)) at)
      by_key false here at = sym (ap (is_met (λ (y : PurseRow). is_name n y.holder)) at)

-- ---- what it gives

module _ (purses : fmap.FinMap name_cmp PurseRow) (held : FinSet (index_cmp name_cmp)) (is : IsHeld purses held) (h : Name) where
  pub held_names : names_under held h ≡ map (λ (e : Name × PurseRow). e.0) (purse_rows_of h (fmap.entries purses))
  held_names = keys_under names_total names_exact (λ p (x : PurseRow). is_name h x.holder) purses h held (λ p. is h (Some p))

  pub held_count : length (names_under held h) ≡ length (purse_rows_of h (fmap.entries purses))
  held_count = ap length held_names ∙ length-map (purse_rows_of h (fmap.entries purses)) _
