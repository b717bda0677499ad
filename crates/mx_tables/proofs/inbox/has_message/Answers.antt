use Rattle.mx_tables.proofs.Common.{◌∷◌, [], arith, nat_cmp, name_cmp, number, refl, ◌∙◌}
use Rattle.std.proofs.Common.{sym, ap, is_some}
use Rattle.mx_book.specs.Under.{pair_cmp}
use Rattle.mx_book.proofs.SpellLemmas.{message_at}
use Rattle.mx_tables.proofs.CallLemmas.{asks_as, asks_ok, reads_to}
use Rattle.mx_tables.proofs.InboxLemmas.{finds_number, none_above}
use Rattle.mx_tables.proofs.ReadLemmas.{got}
use Rattle.mx_tables.proofs.SoundLemmas.{numbers_valid}
use Rattle.mx_tables.proofs.ShownLemmas.{number_one}
use Rattle.mx_tables.proofs.Texts.{select_number_is}
use Rattle.mx_tables.proofs.ThroughLemmas.{through_cache, through_read, through_stopped}
use Rattle.mx_tables.proofs.inbox.has_message.Goals as goal

pub ask_one-requires : goal.ask_one-requires
ask_one-requires g c = select_number_is.query

pub returns-then-number-gt-MOST_NUMBER : goal.returns-then-number-gt-MOST_NUMBER
returns-then-number-gt-MOST_NUMBER g c = through_cache g.S.Store (λ rows w s it. (
  it,
  sym (ap is_some (none_above rows c.args.purse.now c.args.number (numbers_valid rows w s) (omega (arith, c.if-number-gt-MOST_NUMBER.true)))) ∙ ap is_some (message_at rows w c.args.purse.now c.args.number s),
))

pub returns-then-has_message : goal.returns-then-has_message
returns-then-has_message g c = through_cache g.S.Store (λ rows w s it. (it, sym (c.has_message.ensures rows it c.if-has_message.true) ∙ ap is_some (message_at rows w c.args.purse.now c.args.number s)))

pub returns-in_err-row : goal.returns-in_err-row
returns-in_err-row g c = through_stopped g.S.Store (asks_as g.S.Store c.in_err-row.ensures
    (λ r holds it. rw (c.text.ensures, c.as_str.ensures.text, c.number.ensures) (number_one c.args.purse.now c.args.number _ _ r holds))) c.from_residual.ensures.1

pub returns : goal.returns
returns g c = through_read g.S.Store (asks_ok g.S.Store (reads_to g.S.Store c.in_ok-row.ensures.reads (λ r holds shown.
    let found = finds_number c.args.purse.now c.args.number _ _ _ (rw (c.text.ensures, c.as_str.ensures.text, c.number.ensures) at shown) r holds in
    let it = got (pair_cmp name_cmp nat_cmp) (λ _. number c.args.number ∷ []) (c.args.purse.now, c.args.number) r.inbox _ c.in_ok-row.row found refl in
    grind (arith, it, c.is_some.ensures))))
    (λ rows w s b is. is ∙ ap is_some (message_at rows w c.args.purse.now c.args.number s))
