use Rattle.mx_tables.proofs.Common.{Ok, Some, arith, refl, ◌≡◌, ◌∙◌}
use Rattle.std.proofs.Common.{ap, is_some, sym}
use Rattle.std.specs.FinMap as fmap
use Rattle.mx_cells.specs.Cells.{message_shown}
use Rattle.mx_tables.specs.Answers.{AreMessages}
use Rattle.mx_book.proofs.SpellLemmas.{message_at}
use Rattle.mx_tables.proofs.CallLemmas.{asks_as, asks_ok, reads_to}
use Rattle.mx_tables.proofs.InboxLemmas.{message_is, message_back, none_above}
use Rattle.mx_tables.proofs.ReadLemmas.{one_mapped}
use Rattle.mx_tables.proofs.SoundLemmas.{messages_valid, numbers_valid}
use Rattle.mx_tables.proofs.ShownLemmas.{message_one, message_read}
use Rattle.mx_tables.proofs.Texts.{select_message_is}
use Rattle.mx_tables.proofs.ThroughLemmas.{through_cache, through_filled, through_read, through_stopped, through_wrong}
use Rattle.mx_tables.proofs.inbox.find_message.Goals as goal

pub ask_one-requires : goal.ask_one-requires
ask_one-requires g c = select_message_is.query

pub returns-then-number-gt-MOST_NUMBER : goal.returns-then-number-gt-MOST_NUMBER
returns-then-number-gt-MOST_NUMBER g c = through_cache g.S.Store (λ rows w s it. (
  it,
  sym (none_above rows c.args.purse.now c.args.number (numbers_valid rows w s) (omega (arith, c.if-number-gt-MOST_NUMBER.true))) ∙ message_at rows w c.args.purse.now c.args.number s,
))

pub returns-in_err-row : goal.returns-in_err-row
returns-in_err-row g c = through_stopped g.S.Store (asks_as g.S.Store c.in_err-row.ensures
    (λ r holds it. rw (c.text.ensures, c.as_str.ensures.text, c.number.ensures) (message_one c.args.purse.now c.args.number _ _ r holds))) c.from_residual.ensures.1

pub returns-in_err-message : goal.returns-in_err-message
returns-in_err-message g c = through_wrong g.S.Store c.in_ok-row.ensures.reads c.from_residual-in_err-message.ensures.0 (λ r holds it shown.
    let is = message_is c.args.purse.now c.args.number _ _ _ (rw (c.text.ensures, c.as_str.ensures.text, c.number.ensures) at shown) r holds _ refl in
    let m = message_read r it.0 it.1 c.args.purse.now c.args.number c.in-Some.row (sym c.in-Some.is ∙ is) in
    absurd (let ok = c.in_err-message.ensures.there m.0 m.1 m.2 m.3 in cc))

pub returns-in_default : goal.returns-in_default
returns-in_default g c = through_read g.S.Store (asks_ok g.S.Store (reads_to g.S.Store c.in_ok-row.ensures.reads (λ r holds shown.
    let it = message_is c.args.purse.now c.args.number _ _ _ (rw (c.text.ensures, c.as_str.ensures.text, c.number.ensures) at shown) r holds _ refl in
    grind (arith, it)))) (λ rows w s v is. is ∙ message_at rows w c.args.purse.now c.args.number s)

pub returns : goal.returns
returns g c =
    through_filled g.S.Store (through_read g.S.Store (asks_ok g.S.Store (reads_to g.S.Store {r = Ok (Some c.in_ok-message.message)} {other = λ r v. AreMessages r → v ≡ fmap.get r.inbox (c.args.purse.now, c.args.number)} c.in_ok-row.ensures.reads (λ r holds shown valid.
    let it = message_is c.args.purse.now c.args.number _ _ _ (rw (c.text.ensures, c.as_str.ensures.text, c.number.ensures) at shown) r holds _ refl in
    let one = one_mapped message_shown (fmap.get r.inbox (c.args.purse.now, c.args.number)) c.in-Some.row (sym c.in-Some.is ∙ it) in
    let read = c.in_ok-message in
    ap Some (message_back one.0 read.message c.in-Some.row (valid (c.args.purse.now, c.args.number) one.0 one.1) read.ensures.valid one.2 read.ensures.shown.0 read.ensures.shown.1) ∙ sym one.1)))
    (λ rows w s v is. is (messages_valid rows w s)))
    (λ rows w s is it. c.fill_message.ensures rows (ap is_some (sym is)) it) (λ rows w s is. is ∙ message_at rows w c.args.purse.now c.args.number s)
