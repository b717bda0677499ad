-- Each rule on a purse keeps the scheme's equation, and is an operation of the abstract world.
use Rattle.std.proofs.Common.{◌≡◌, not, refl, ap, Some, ◌&&◌}
use Rattle.std.specs.FinMap as fmap
use Rattle.mx_purse.specs.Operations.{expects_val}
use Rattle.mx_book.specs.Reads.{is_settled}
use Rattle.mx_book.specs.World.{World, Row, Holding, Name, set_row}
use Rattle.mx_command.specs.declared.values.Command.{Command}
use Rattle.mx_office.specs.Abstract.{ChosenLost}
use Rattle.mx_office.specs.Step.{Deed, Asks, asks}
use Rattle.mx_office.proofs.ActLemmas.{Simulated, still_nothing, still_redeem, request_simulated, value_simulated}
use Rattle.mx_office.proofs.DeedLemmas.{IsKept, IsDone, Rests, Redeems, Requests, Receives, with_holding}
use Rattle.mx_office.proofs.HandleLemmas.{KeptByRule, each_kept}
use Rattle.mx_office.proofs.SaneLemmas.{Sane}
use Rattle.mx_office.proofs.SeenWorldLemmas.{Invariant, seen, side_there}

module _ (w : World) (p : Name) (r : Row) (at : fmap.get w.rows p ≡ Some r) (i : Invariant w) (asked : Command) (d : Deed Holding) (k : IsKept w p r asked d) (c : ChosenLost) where
  done_act : IsDone w p r (with_holding r d.state) asked d.reply → Simulated w asked (set_row w p (with_holding r d.state)) d.reply c
  done_act (Rests flow money redeemed is) = still_nothing w p r (with_holding r d.state) at i k.invariant k.step c asked d.reply flow money is
  done_act (Redeems n flow enough money redeemed is) = still_redeem w p r (with_holding r d.state) at i k.invariant k.step c asked d.reply flow n enough money is
  done_act (Requests e other own rests due flows apart enough money redeemed moves loses) =
      request_simulated w p r (with_holding r d.state) at i k.invariant k.step c asked d.reply e other own (ap (λ b. (b && (seen w).due e) && not (is_settled w e)) rests) flows (side_there w i expects_val e.to e (fmap.get w.rows e.to) refl due) apart enough money moves loses
  done_act (Receives e other own flows waits rests money redeemed is) = value_simulated w p r (with_holding r d.state) at i k.invariant k.step c asked d.reply e other own flows waits rests money is

-- what a rule that is asked of a purse is in the abstract world
abbrev pub EachActs : World → ChosenLost → Command → Asks → Type 0
EachActs w c asked (Asks.OnPurse p f) = (r : Row) → fmap.get w.rows p ≡ Some r → Simulated w asked (set_row w p (with_holding r (f r.holding).state)) (f r.holding).reply c
EachActs w c asked x = Unit {0}

asked_acts : (w : World) → Invariant w → (c : ChosenLost) (asked : Command) (x : Asks) → KeptByRule w asked x → EachActs w c asked x
asked_acts w i c asked Asks.Names each = tt
asked_acts w i c asked (Asks.OnPurse p f) each = λ r at. done_act w p r at i asked (f r.holding) (each r at) c (each r at).done
asked_acts w i c asked Asks.NotAHolders each = tt

pub each_acts : (w : World) → Sane w → (c : ChosenLost) (asked : Command) → EachActs w c asked (asks asked)
each_acts w s c asked = asked_acts w s.invariant c asked (asks asked) (each_kept w s.invariant s.books asked).each
