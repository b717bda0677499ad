-- Each command keeps the invariant and the scheme's equation.
use Rattle.std.proofs.Common.{◌≡◌, ◌+◌, Bool, true, false, cond, refl, sym, ◌∙◌, ap, subst, None, not, ◌&&◌, is_some}
use Rattle.std.specs.FinMap as fmap
use Rattle.mx_pay.specs.Names.{name_cmp}
use Rattle.mx_pay.specs.Details.{Details, details_cmp}
use Rattle.mx_pay.proofs.LogLemmas.{details_total}
use Rattle.mx_purse.specs.declared.message.Message.{Message}
use Rattle.mx_purse.specs.declared.message.Message.TheVariants as message
use Rattle.mx_purse.specs.Operations.{expects_ack}
use Rattle.mx_book.specs.declared.values.Caller.{Caller}
use Rattle.mx_book.specs.Reads.{is_archived, is_settled}
use Rattle.mx_book.specs.Totals.{balance_row, issued_row, redeemed_row}
use Rattle.mx_book.specs.World.{World, Name, Token, result_cmp, opening}
use Rattle.mx_book.proofs.FoundLemmas.{inside}
use Rattle.mx_command.specs.declared.values.Command.{Command}
use Rattle.mx_office.specs.Reachable.{IsReachable}
use Rattle.mx_office.specs.Step.{base, step}
use Rattle.mx_office.proofs.ArchiveLemmas.{clear_means}
use Rattle.mx_office.proofs.CaseLemmas.{by_reachable}
use Rattle.mx_office.proofs.EntrySumLemmas.{number, sum-empty, sum_values-empty}
use Rattle.mx_office.proofs.MoveCaseLemmas.{by_moves}
use Rattle.mx_office.proofs.SeenLemmas.{IsTimely, clash}
use Rattle.mx_office.proofs.SeenWorldLemmas.{seen, side}
use Rattle.mx_office.proofs.DeedLemmas.{not_some}
use Rattle.mx_office.proofs.HandleLemmas.{EachKept, each_kept}
use Rattle.mx_office.proofs.SaneLemmas.{Sane, IsSaneDeed, IsNextSane, told_sane, apart_sane, row_sane, after_sane}
use Rattle.mx_office.proofs.SaneRowLemmas.{new_sane, archive_sane}
use Rattle.mx_office.proofs.SaneMoneyLemmas.{load_sane, settle_sane, collect_sane}

-- ---- each command

not_not : (b : Bool) → not b ≡ false → b ≡ true
not_not true h = refl
not_not false h = clash true refl h

base_sane : (w : World) → Sane w → (caller : Caller) (c : Command) → IsSaneDeed w (base w caller c)
base_sane w s = by_moves w (λ caller c d. IsSaneDeed w d) (record {
  told = λ caller c x is. told_sane w w x s (λ d lost. lost);
  member = λ m t none free. told_sane w _ _ (apart_sane w _ _ _ s) (λ d lost. lost);
  grant = λ m amount row there small room. told_sane w _ _ (apart_sane w _ _ _ s) (λ d lost. lost);
  holder = λ m h t row there none free. told_sane w _ _ (apart_sane w _ _ _ s) (λ d lost. lost);
  purse = λ m p h there none few. let next = new_sane w p h none s in told_sane w _ _ next.sane next.lost;
  load = λ m p amount reference l. let next = load_sane w p l.row l.at s amount reference l.fresh l.free in told_sane w _ _ (apart_sane _ _ _ _ next.sane) next.lost;
  collect = λ m row there room. let next = collect_sane w m s in told_sane w _ _ (apart_sane _ _ _ _ next.sane) next.lost;
  archive = λ p. let next = archive_sane w p s in told_sane w _ _ next.sane next.lost;
  -- what is to be cleared is archived
  clear = λ p set may. record {
    sane = s;
    lost = λ d lost. lost;
    sent = λ m h. subst (λ (y : Name × Message). IsTimely (seen w) y.0 y.1) (inside (p, message.Clear set) m h) (clear_means w p set (not_not _ may)).archived;
    read = λ result h. not_some result h;
  };
  settle = λ d m. let next = settle_sane w s d m in told_sane w _ _ next.sane next.lost;
  own = λ h c p f r e at owned. row_sane w p r c (f r.holding) at s ((subst (EachKept w c) e (each_kept w s.invariant s.books c)).each r at);
})

pub step_sane : (w : World) → Sane w → (caller : Caller) (c : Command) → IsNextSane w (step w caller c).world
unfolding step
step_sane w s caller c = after_sane w (base w caller c) (base_sane w s caller c)

-- ---- Worlds that commands lead to

pub opening_sane : (t : Token) → Sane (opening t)
opening_sane t =
    let none : (p : Name) → fmap.get (opening t).rows p ≡ None = λ p. fmap.get-empty name_cmp p in
    let never : (p : Name) (d : Details) → is_archived (opening t) p d ≡ false = λ p d. ap is_some (fmap.get-empty result_cmp (p, d)) in
    let unsettled : (d : Details) → is_settled (opening t) d ≡ false = λ d. ap is_some (fmap.get-empty details_cmp d) in
    let gone : (d : Details) → (seen (opening t)).gone d ≡ false = λ d. ap (λ o. side expects_ack o (is_archived (opening t) d.from d) d) (none d.from) ∙ never d.from d in
    record {
      invariant = record {
        named = λ p r at. not_some r (sym (none p) ∙ at);
        sound = λ p r at. not_some r (sym (none p) ∙ at);
        held = λ p d h. clash _ h (never p d);
        tray = λ p d h. clash _ h (never p d);
        shelf = λ p d h. clash _ h (never p d);
        once = λ p d h. never p d;
        settled = λ d h. clash _ h (unsettled d);
        timely = λ p r at. not_some r (sym (none p) ∙ at);
        known = λ d h. clash _ h (gone d);
      };
      books = record {
        out = fmap.empty;
        covers = λ d. ap number (fmap.get-empty details_cmp d) ∙ ap (λ b. cond b d.value 0) (sym (ap (λ b. (b && (seen (opening t)).due d) && not (is_settled (opening t) d)) (gone d)));
        equal = (λ k. (sum_values-empty balance_row k + sum-empty details_total k) + sum_values-empty redeemed_row k) ∙ sym (sum_values-empty issued_row);
      };
    }

pub reachable_sane : (w : World) → IsReachable w → Sane w
reachable_sane = by_reachable Sane (λ t bytes. opening_sane t) (λ w c asked s. (step_sane w s c.0 c.1).sane)
