use Rattle.mx_tables.proofs.Common.{◌∙◌, Some}
use Rattle.std.proofs.Common.{cond, sym, ap}
use Rattle.std.specs.FinMap as fmap
use Rattle.mx_pay.specs.Tokens.{token_cmp, is_token}
use Rattle.mx_book.specs.declared.values.Caller.TheVariants.{Operator}
use Rattle.mx_tables.specs.Answers.{one_or_none}
use Rattle.mx_cells.specs.Cells.{caller_shown}
use Rattle.mx_tables.proofs.CallLemmas.{asks_as, asks_ok, asks_wrong, reads_to}
use Rattle.mx_tables.proofs.ReadLemmas.{found_none, found_one}
use Rattle.mx_tables.proofs.Texts.{select_token_is}
use Rattle.mx_tables.proofs.MemberLemmas.{book_tokens, finds_token}
use Rattle.mx_tables.proofs.ValueLemmas.{caller_back}
use Rattle.mx_tables.proofs.ToldLemmas.{tell_caller, tells_fault}
use Rattle.mx_tables.proofs.ShownLemmas.{token_one, token_read}
use Rattle.mx_tables.proofs.tokens.find_caller.Goals as goal

pub ask_one-requires : goal.ask_one-requires
ask_one-requires g c = select_token_is.query

pub returns-in_err-row : goal.returns-in_err-row
returns-in_err-row g c = tells_fault g.S.Store (asks_as g.S.Store c.in_err-row.ensures (λ r holds it. rw c.text.ensures.value (token_one r it.0 it.1 _ c.text.ensures.valid _ _ holds))) c.from_residual.ensures.1

pub returns-in-None : goal.returns-in-None
returns-in-None g c = tell_caller g.S.Store _ (asks_ok g.S.Store (reads_to g.S.Store c.in_ok-row.ensures.reads (λ rows holds shown.
    let t = c.args.token.now in
    let text = c.text.ensures in
    let found = finds_token t _ _ _ (rw text.value at shown) text.valid rows holds in
    sym (ap (cond (is_token t rows.operator) (Some Operator)) (fmap.get-entries rows.tokens t)
    ∙ found_none token_cmp caller_shown t (book_tokens rows) _ found (ap one_or_none c.in-None.is)))))

pub returns-in_ok-caller_in-in-Some : goal.returns-in_ok-caller_in-in-Some
returns-in_ok-caller_in-in-Some g c = tell_caller g.S.Store _ (asks_ok g.S.Store (reads_to g.S.Store c.in_ok-row.ensures.reads (λ rows holds shown.
    let t = c.args.token.now in
    let text = c.text.ensures in
    let found = finds_token t _ _ _ (rw text.value at shown) text.valid rows holds in
    let one = found_one token_cmp caller_shown t (book_tokens rows) _ c.in-Some.row found (ap one_or_none c.in-Some.is) in
    let read = c.in_ok-caller_in-in-Some.ensures.is in
    ap Some (caller_back one.0 c.in_ok-caller_in-in-Some.field-0 c.in-Some.row one.2 read.0 read.1) ∙ sym one.1 ∙ sym (ap (cond (is_token t rows.operator) (Some Operator)) (fmap.get-entries rows.tokens t)))))

pub returns-in_err-caller_in-in-Some : goal.returns-in_err-caller_in-in-Some
returns-in_err-caller_in-in-Some g c = tell_caller g.S.Store _ (asks_wrong g.S.Store c.in_ok-row.ensures.reads c.from_residual-in_err-caller_in-in-Some.ensures.0 (λ r holds it shown.
    let one = rw (c.text.ensures.value, c.in-Some.is) at shown in
    let read = token_read r it.0 it.1 _ c.text.ensures.valid _ _ holds c.in-Some.row one in
    let ok = c.in_err-caller_in-in-Some.ensures.there read.0 read.1 read.2 read.3 in
    absurd (cc)))
