-- What the calls of a book of rows leave of the World that it shows.
use Rattle.std.proofs.Common.{◌≡◌, ◌≤◌, ◌⊎◌, refl, sym, subst, ◌∙◌, inl, inr, Result, Ok, Err}
use Rattle.std.specs.Prelude.{ℕ, IfOk, IfErr, OnOk, OnErr}
use Rattle.std.specs.Coded.{Coded-set, Unit-prop}
use Rattle.std.proofs.Props.{props}
use native.Mathlib.Bridge.{le_prop}
use mathlib.Core.Logic.{∥∥₁_elim, ∥∥₁_prop, ∥∥₁_map}
use Rattle.mx_pay.specs.Log.{Entries, coded_entries}
use Rattle.mx_purse.specs.contracts.message.Message as message
use Rattle.mx_purse.specs.declared.message.Message.{Message}
use Rattle.mx_book.specs.World.{World}
use Rattle.mx_book.specs.Keeps.{Bides as BidesRows, Explains, HasCause, Keeps as KeepsRows, Gives as GivesRows, Settles as SettlesRows}
use Rattle.mx_book.specs.declared.contract.StoreFault.{StoreFault}
use Rattle.mx_book.specs.declared.contract.StoreFault.TheVariants.{Memory, Store}
use Rattle.mx_book.specs.declared.rows.RowBook.{Ghosts}
use Rattle.mx_book.proofs.StandLemmas.{sure_before, low_before, low_sure}
use Rattle.mx_standing.specs.One.{world_set}
use Rattle.mx_standing.specs.The.{IsOfOne, so_of_the, the, world_at}
use Rattle.mx_standing.specs.Shown.{IsOne, IsKept, AreLeft, shown, world_is, for_the, world_same}
use Rattle.mx_book.specs.Views.{Answers, Bides, Changes, Keeps, Settles}

IfOk_prop : {T E : Type 0} (result : Result T E) (P : T → Type 0) → ((x : T) → IsProp (P x)) → IsProp (IfOk result P)
IfOk_prop (Ok x) P h = h x
IfOk_prop (Err e) P h = Unit-prop

caused_prop : {T : Type 0} (limited : Type 0) (before after : ℕ) (result : Result T StoreFault) → IsProp (IfErr result (HasCause limited before after))
caused_prop limited before after (Ok x) = Unit-prop
caused_prop limited before after (Err Memory) = Unit-prop
caused_prop limited before after (Err Store) = hlevel (props, le_prop)

pub entries_set : IsSet Entries
entries_set = Coded-set coded_entries

pub message_set : IsSet Message
message_set = Coded-set (message.the_row).coded

of_same : {R : Type 0} (spells : R → World → Type 0) (r s : R) → s ≡ r → IsOfOne (spells r) → IsOfOne (spells s)
of_same {R = R} spells r s is h = subst (λ (q : R). IsOfOne (spells q)) (sym is) h

module _ {B : Type 0} (g : Ghosts B) where
  module _ (rest : (b : B) → g.settled b → (g.doubt b ≡ g.harm b) × (g.harm b ≡ 0 → g.rows b ≡ g.base b)) where
    -- ---- what a call leaves that bides

    -- what is settled is of one World, where the rows are
    pub kept_settled : (b : B) → g.settled b → IsOne g b → IsKept g b
    kept_settled b still one none =
        let it = rest b still in
        of_same g.spells (g.rows b) (g.base b) (sym (it.1 none)) (one (it.0 ∙ none))

    pub kept_bides : (old new : B) → BidesRows g.harm g.base g.defers g.leaves old new → g.defers ⊎ ((b : B) → g.settled b) → IsOne g new → IsKept g old → IsKept g new
    kept_bides old new bides (inl defers) one kept none = of_same g.spells (g.base old) (g.base new) (bides.stands defers none) (kept (sure_before bides.lasts none))
    kept_bides old new bides (inr all) one kept none = kept_settled new (all new) one none

    -- ---- what a settle leaves

    module _ {T E : Type 0} (old new : B) where
      pub one_settled : (r : Result T E) → SettlesRows g.doubt g.rows g.harm g.base g.defers g.settled g.leaves old new r → IsOne g old → IsKept g old → IsOne g new
      one_settled (Ok x) done one kept sure =
          let none = sym (rest new done.ends).0 ∙ sure in
          let it = done.ok (low_sure none) in
          of_same g.spells (g.rows old) (g.rows new) it.2 (one it.0)
      one_settled (Err e) done one kept sure =
          let none = sym (rest new done.ends).0 ∙ sure in
          of_same g.spells (g.base old) (g.rows new) (done.err none).1 (kept (sure_before done.lasts none))

      pub kept_ended : (r : Result T E) → SettlesRows g.doubt g.rows g.harm g.base g.defers g.settled g.leaves old new r → IsOne g old → IsKept g old → IsKept g new
      kept_ended r done one kept = kept_settled new done.ends (one_settled r done one kept)

      pub left_settled : (r : Result T E) → SettlesRows g.doubt g.rows g.harm g.base g.defers g.settled g.leaves old new r → IsOne g old → AreLeft g old → AreLeft g new
      left_settled r done one left low s leaves = by (done.stops low s leaves)
        where
          by : g.leaves old s ⊎ ((g.doubt old ≡ 0) × (s ≡ g.rows old)) → IsOfOne (g.spells s)
          by (inl before) = left (low_before done.lasts low) s before
          by (inr (sure, is)) = of_same g.spells (g.rows old) s is (one sure)

      module _ (one : IsOne g old) (kept : IsKept g old) (one' : IsOne g new) (kept' : IsKept g new) where
        pub settles : (r : Result T E) → SettlesRows g.doubt g.rows g.harm g.base g.defers g.settled g.leaves old new r → Settles (shown g old one kept) (shown g new one' kept') r
        settles r done = record {
          lasts = done.lasts;
          ends = done.ends;
          ok = λ low. ok r (done.ok low);
          err = λ none. err r none (done.err none);
          stops = λ low w left. stop w left.0 left.2 (done.stops low left.0 left.1);
        }
          where
            sure : g.harm new ≡ 0 → g.doubt new ≡ 0
            sure none = (rest new done.ends).0 ∙ none

            ok : (q : Result T E) → OnOk q ((g.doubt old ≡ 0) × (g.harm new ≡ 0) × (g.rows new ≡ g.rows old)) → OnOk q ((g.doubt old ≡ 0) × (g.harm new ≡ 0) × (world_at (g.doubt new) one' ≡ world_at (g.doubt old) one))
            ok (Ok x) it = (it.0, it.1, world_same g.spells (g.rows old) (g.rows new) (g.doubt old) (g.doubt new) one one' it.0 (sure it.1) it.2)
            ok (Err e) it = tt

            err : (q : Result T E) → g.harm new ≡ 0 → OnErr q (g.defers × (g.rows new ≡ g.base old)) → OnErr q (g.defers × (world_at (g.doubt new) one' ≡ world_at (g.harm old) kept))
            err (Ok x) none it = tt
            err (Err e) none it = (it.0, world_same g.spells (g.base old) (g.rows new) (g.harm old) (g.doubt new) kept one' (sure_before done.lasts none) (sure none) it.1)

            stop : (w : World) (s : g.Rows) → ∥ g.spells s w ∥₁ → g.leaves old s ⊎ ((g.doubt old ≡ 0) × (s ≡ g.rows old)) → ((q : g.Rows) × g.leaves old q × ∥ g.spells q w ∥₁) ⊎ ((g.doubt old ≡ 0) × (w ≡ world_at (g.doubt old) one))
            stop w s sp (inl before) = inl (s, before, sp)
            stop w s sp (inr (calm, is)) = inr (calm, ∥∥₁_elim sp (world_set _ _) (world_is g.spells (g.rows old) s (g.doubt old) one w calm is))

  -- ---- what a read leaves

  pub one_kept : (old new : B) → KeepsRows g.doubt g.rows g.harm g.base g.defers g.settled g.leaves old new → IsOne g old → IsOne g new
  one_kept old new keeps one sure = of_same g.spells (g.rows old) (g.rows new) (keeps.same sure) (one (sure_before keeps.later sure))

  pub left_bides : (old new : B) → BidesRows g.harm g.base g.defers g.leaves old new → AreLeft g old → AreLeft g new
  left_bides old new bides left low r leaves = left (low_before bides.lasts low) r (bides.stops low r leaves)

  module _ (old new : B) (one : IsOne g old) (kept : IsKept g old) (one' : IsOne g new) (kept' : IsKept g new) where
    bides_shown : BidesRows g.harm g.base g.defers g.leaves old new → Bides (shown g old one kept) (shown g new one' kept')
    bides_shown bides = record {
      lasts = bides.lasts;
      stands = λ waits none. (world_same g.spells (g.base old) (g.base new) (g.harm old) (g.harm new) kept kept' (sure_before bides.lasts none) none (bides.stands waits none), waits);
      stops = λ low w left. (left.0, bides.stops low left.0 left.1, left.2);
    }

    keeps_shown : {T : Type 0} {result : Result T StoreFault} → KeepsRows g.doubt g.rows g.harm g.base g.defers g.settled g.leaves old new → Explains g.doubt g.rows g.spells g.faults g.limited old new result
        → Keeps (shown g old one kept) (shown g new one' kept')
    keeps_shown keeps why = record {
      later = keeps.later;
      same = λ sure. world_same g.spells (g.rows old) (g.rows new) (g.doubt old) (g.doubt new) one one' (sure_before keeps.later sure) sure (keeps.same sure);
      bides = bides_shown keeps.bides;
      rests = keeps.rests;
      counts = why.counts;
      limits = why.limits;
    }

    pub answers : {T : Type 0} (fails : StoreFault → Type 0) (result : Result T StoreFault) (said : World → T → Type 0) → ((w : World) (x : T) → IsProp (said w x))
        → KeepsRows g.doubt g.rows g.harm g.base g.defers g.settled g.leaves old new → GivesRows g.doubt g.rows g.spells old new result said → IfErr result fails → Explains g.doubt g.rows g.spells g.faults g.limited old new result
        → Answers fails (shown g old one kept) (shown g new one' kept') result said
    answers fails result said prop keeps gives fault why = record {
      keeps = keeps_shown keeps why;
      value = λ sure. for_the g.spells (g.rows old) (g.doubt old) one (λ w. IfOk result (said w)) (λ w. IfOk_prop result (said w) (prop w)) (sure_before keeps.later sure) (λ w sp. gives w sure sp);
      fault = fault;
      cause = λ sure. for_the g.spells (g.rows old) (g.doubt old) one (λ w. IfErr result (HasCause (g.limited old) (g.faults old) (g.faults new))) (λ w. caused_prop _ _ _ result) (sure_before keeps.later sure) (λ w sp. why.cause w sure sp);
    }

  -- ---- what a change leaves

  pub fits_each : (P : World → Type 0) (b : B) (one : IsOne g b) → (g.doubt b ≡ 0 → P (world_at (g.doubt b) one)) → (w : World) → g.doubt b ≡ 0 → g.spells (g.rows b) w → P w
  fits_each P b one h w sure sp = subst P (sym (world_is g.spells (g.rows b) (g.rows b) (g.doubt b) one w sure refl sp)) (h sure)

  module _ {T E : Type 0} (change : World → World) (old new : B) (later : g.doubt old ≤ g.doubt new) where
    pub one_changed : (single : (r : g.Rows) (v w : World) → g.spells r v → g.spells r w → v ≡ w) (result : Result T E)
        → ((w : World) → g.doubt new ≡ 0 → g.spells (g.rows old) w → OnOk result (g.spells (g.rows new) (change w))) → (g.doubt new ≡ 0 → OnErr result (g.rows new ≡ g.rows old)) → IsOne g old → IsOne g new
    one_changed single (Ok x) ok err one sure = ∥∥₁_map (one (sure_before later sure)) (λ x.
        let leads = ok x.0 sure x.1.0 in
        (change x.0, (leads, λ u p. single (g.rows new) u (change x.0) p leads)))
    one_changed single (Err e) ok err one sure = of_same g.spells (g.rows old) (g.rows new) (err sure) (one (sure_before later sure))

    pub changes : (fails : E → Type 0) (one : IsOne g old) (kept : IsKept g old) (one' : IsOne g new) (kept' : IsKept g new) (result : Result T E)
        → ((w : World) → g.doubt new ≡ 0 → g.spells (g.rows old) w → OnOk result (g.spells (g.rows new) (change w))) → (g.doubt new ≡ 0 → OnErr result (g.rows new ≡ g.rows old))
        → BidesRows g.harm g.base g.defers g.leaves old new → IfErr result fails → Changes fails (shown g old one kept) (shown g new one' kept') result change
    changes fails one kept one' kept' result ok err bides fault = record {
      later = later;
      ok = λ sure. made result sure (λ w. ok w sure);
      err = λ sure. undone result sure (err sure);
      bides = bides_shown old new one kept one' kept' bides;
      fault = fault;
    }
      where
        made : (q : Result T E) → g.doubt new ≡ 0 → ((w : World) → g.spells (g.rows old) w → OnOk q (g.spells (g.rows new) (change w))) → OnOk q (world_at (g.doubt new) one' ≡ change (world_at (g.doubt old) one))
        made (Ok x) sure leads = for_the g.spells (g.rows old) (g.doubt old) one (λ w. world_at (g.doubt new) one' ≡ change w) (λ w. world_set _ _) (sure_before later sure)
            (λ w sp. sym (world_is g.spells (g.rows new) (g.rows new) (g.doubt new) one' (change w) sure refl (leads w sp)))
        made (Err e) sure leads = tt

        undone : (q : Result T E) → g.doubt new ≡ 0 → OnErr q (g.rows new ≡ g.rows old) → OnErr q (world_at (g.doubt new) one' ≡ world_at (g.doubt old) one)
        undone (Ok x) sure is = tt
        undone (Err e) sure is = world_same g.spells (g.rows old) (g.rows new) (g.doubt old) (g.doubt new) one one' (sure_before later sure) sure is

  -- ---- how it begins

  pub one_first : (single : (r : g.Rows) (v w : World) → g.spells r v → g.spells r w → v ≡ w) (b : B) → (g.doubt b ≡ 0 → ∥ ((w : World) × g.spells (g.rows b) w) ∥₁) → IsOne g b
  one_first single b spelled sure = ∥∥₁_map (spelled sure) (λ x. (x.0, (x.1, λ u p. single (g.rows b) u x.0 p x.1)))

  pub left_first : (steady : (b : B) (r : g.Rows) → g.harm b ≡ 0 → g.leaves b r → r ≡ g.base b) (b : B) → (g.harm b ≤ 1 → g.harm b ≡ 0) → IsKept g b → AreLeft g b
  left_first steady b awake kept low r left = of_same g.spells (g.base b) r (steady b r (awake low) left) (kept (awake low))

-- ---- what it shows of its rows

module _ {B : Type 0} (g : Ghosts B) (b : B) (one : IsOne g b) (kept : IsKept g b) where
  -- they spell the World that it shows, where there is no doubt
  pub spelled_shown : g.doubt b ≡ 0 → ∥ g.spells (g.rows b) (shown g b one kept).world ∥₁
  spelled_shown sure = for_the g.spells (g.rows b) (g.doubt b) one (λ w. ∥ g.spells (g.rows b) w ∥₁) (λ w. ∥∥₁_prop) sure (λ w sp. ∣ sp ∣₁)

  -- a World that they spell is that
  pub shown_is : (w : World) → g.doubt b ≡ 0 → g.spells (g.rows b) w → w ≡ (shown g b one kept).world
  shown_is w sure sp = world_is g.spells (g.rows b) (g.rows b) (g.doubt b) one w sure refl sp

  -- rows that a stop leaves spell a World that it shows to be left
  pub left_shown : AreLeft g b → g.harm b ≤ 1 → (r : g.Rows) → g.leaves b r → (w : World) × (shown g b one kept).leaves w × ∥ g.spells r w ∥₁
  left_shown left low r leaves = (the (left low r leaves), (r, leaves, so_of_the (left low r leaves)), so_of_the (left low r leaves))
