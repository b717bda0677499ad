-- Worlds with the same purses are the same abstract world.
use Rattle.std.proofs.Common.{◌≡◌, ◌+◌, Bool, false, not, refl, sym, ◌∙◌, ap, Option, Some, None, option_map, ◌&&◌, ◌||◌}
use Rattle.std.specs.FinMap as fmap
use Rattle.mx_pay.specs.Details.{Details}
use Rattle.mx_pay.specs.Log.{has_logged}
use Rattle.mx_purse.specs.State.{State}
use Rattle.mx_purse.specs.Operations.{expects_val, expects_ack}
use Rattle.mx_book.specs.Reads.{from_row, of_purse, is_archived}
use Rattle.mx_book.specs.Totals.{maybe_lost, still_lost}
use Rattle.mx_book.specs.World.{World, Row, Name, set_row}
use Rattle.mx_book.proofs.NameLemmas.{names_total, names_exact}
use Rattle.mx_command.specs.declared.values.Command.{Command}
use Rattle.mx_command.specs.declared.values.Reply.{Reply}
use Rattle.mx_office.specs.Abstract.{AbstractPurse, Act, ChosenLost, IsAct, received_by, losses_of, abstract_purse, abstract_of}
use Rattle.mx_office.proofs.ActLemmas.{Simulated, get-abstract}
use Rattle.mx_office.proofs.FateLemmas.{received_same, lost_same}
use Rattle.mx_office.proofs.SeenWorldLemmas.{over_row}

-- the purse of a name, if there is one
abbrev pub purse_of : Option Row → Option State
purse_of o = option_map (λ (r : Row). r.holding.purse) o

-- the same purses, and the same archive
pub record Alike (w v : World) : Type 0 where
  pub purses : (q : Name) → purse_of (fmap.get v.rows q) ≡ purse_of (fmap.get w.rows q)
  pub archive : v.archive ≡ w.archive
  pub settled : v.settled ≡ w.settled

abbrev from_purse : (State → Bool) → Option State → Bool
from_purse g None = false
from_purse g (Some q) = g q

by_purse : (g : State → Bool) (o : Option Row) → from_row false (λ (r : Row). g r.holding.purse) o ≡ from_purse g (purse_of o)
by_purse g None = refl
by_purse g (Some r) = refl

by_state : (w : World) (c : ChosenLost) (q : Name) (o : Option Row)
    → option_map (abstract_purse w c q) o ≡ option_map (λ (s : State). let x : AbstractPurse = record { balance = s.balance + received_by w c q; lost = losses_of w c q } in x) (purse_of o)
by_state w c q None = refl
by_state w c q (Some r) = refl

module _ (w v : World) (a : Alike w v) where
  tests : (g : State → Bool) (q : Name) → of_purse false (λ (r : Row). g r.holding.purse) v q ≡ of_purse false (λ (r : Row). g r.holding.purse) w q
  tests g q = by_purse g (fmap.get v.rows q) ∙ ap (from_purse g) (a.purses q) ∙ sym (by_purse g (fmap.get w.rows q))

  archives : (q : Name) (d : Details) → is_archived v q d ≡ is_archived w q d
  archives q d = ap (λ x. fmap.contains_key x (q, d)) a.archive

  maybe_alike : (d : Details) → maybe_lost v d ≡ maybe_lost w d
  maybe_alike d =
      (λ k. (tests (λ q. expects_ack q.status d) d.from k || (tests (λ q. has_logged q.log d) d.from k || archives d.from d k)) && tests (λ q. expects_val q.status d) d.to k)

  lost_alike : (d : Details) → still_lost v d ≡ still_lost w d
  lost_alike d =
      (λ k. ((tests (λ q. has_logged q.log d) d.to k || archives d.to d k)
      && ((tests (λ q. has_logged q.log d) d.from k || archives d.from d k) || tests (λ q. expects_ack q.status d) d.from k))
      && not (fmap.contains_key (a.settled k) d))

  pub abstract_alike : (c : ChosenLost) → abstract_of v c ≡ abstract_of w c
  abstract_alike c = fmap.same_map names_total names_exact (abstract_of v c) (abstract_of w c) each
    where
      received : (q : Name) → received_by v c q ≡ received_by w c q
      received = received_same w v c c (λ d. (λ k. maybe_alike d k && not (c d)))

      lost : (q : Name) → losses_of v c q ≡ losses_of w c q
      lost = lost_same w v c c (λ d. (λ k. lost_alike d k || (maybe_alike d k && c d)))

      each : (q : Name) → fmap.get (abstract_of v c) q ≡ fmap.get (abstract_of w c) q
      each q =
          get-abstract v c q ∙ by_state v c q (fmap.get v.rows q)
          ∙ (λ k. option_map (λ (s : State). let x : AbstractPurse = record { balance = s.balance + received q k; lost = lost q k } in x) (a.purses q k))
          ∙ sym (by_state w c q (fmap.get w.rows q)) ∙ sym (get-abstract w c q)

-- ---- what leads to such a World

pub alike_itself : (w : World) → Alike w w
alike_itself w = record { purses = λ q. refl; archive = refl; settled = refl }

pub alike_simulated : (w v : World) (asked : Command) (x : Reply) (c : ChosenLost) → Alike w v → IsAct w asked x Act.Ignore → Simulated w asked v x c
alike_simulated w v asked x c a is = record { before = c; act = Act.Ignore; is = is; leads = ap Some (sym (abstract_alike w v a c)) }

pub then_alike : (w v u : World) (asked : Command) (x : Reply) (c : ChosenLost) → Simulated w asked v x c → Alike v u → Simulated w asked u x c
then_alike w v u asked x c s a = record { before = s.before; act = s.act; is = s.is; leads = s.leads ∙ ap Some (sym (abstract_alike v u a c)) }

pub row_alike : (w : World) (p : Name) (r s : Row) → fmap.get w.rows p ≡ Some r → s.holding.purse ≡ r.holding.purse → Alike w (set_row w p s)
row_alike w p r s at same = record { purses = λ q. over_row w p r s at (λ a b. purse_of b ≡ purse_of a) q (λ o. refl) (λ _. ap Some same); archive = refl; settled = refl }

-- rows, archive and what is settled stay
pub apart_alike : (w v : World) → v.rows ≡ w.rows → v.archive ≡ w.archive → v.settled ≡ w.settled → Alike w v
apart_alike w v rows archive settled = record { purses = λ q. ap (λ m. purse_of (fmap.get m q)) rows; archive = archive; settled = settled }
