use Rattle.mx_tables.proofs.Common.{◌≡◌, ◌∙◌, refl, Some, None, ℕ, length-map, Name}
use Rattle.std.proofs.Common.{sym, ap}
use Rattle.std.specs.FinMap as fmap
use Rattle.mx_purse.specs.declared.message.Message.{Message}
use Rattle.mx_book.specs.RowReads.{of_name}
use Rattle.mx_book.specs.declared.values.Account.{Account}
use Rattle.mx_tables.proofs.CallLemmas.{asks_ok, asks_then, reads_to, reads_then}
use Rattle.mx_tables.proofs.ToldLemmas.{tell_account, tells_fault}
use Rattle.mx_tables.proofs.purses.read_account.Goals as goal

pub returns-in_err-row : goal.returns-in_err-row
returns-in_err-row g c = tells_fault g.S.Store c.in_err-row.ensures c.from_residual.ensures.1

pub returns-in_err-member : goal.returns-in_err-member
returns-in_err-member g c =
    tells_fault g.S.Store (asks_then g.S.Store c.in_ok-row.ensures.reads c.in_err-member.ensures) c.from_residual-in_err-member.ensures.1

pub returns-in_err-count_messages : goal.returns-in_err-count_messages
returns-in_err-count_messages g c =
    tells_fault g.S.Store
    (asks_then g.S.Store (reads_then g.S.Store c.in_ok-row.ensures.reads c.in_ok-member.ensures.reads) c.in_err-count_messages.ensures)
    c.from_residual-in_err-count_messages.ensures.1

pub returns : goal.returns
returns g c = tell_account g.S.Store _ (asks_ok g.S.Store (reads_to g.S.Store (reads_then g.S.Store (reads_then g.S.Store c.in_ok-row.ensures.reads c.in_ok-member.ensures.reads) c.in_ok-count_messages.ensures.reads) (λ rows holds all sound.
    let row : fmap.get rows.purses c.args.name.now ≡ Some c.in-Some.row = sym (all.0.0 sound) ∙ c.in-Some.is in
    let member : fmap.get rows.holders c.in-Some.row.holder ≡ Some c.in-Some-2.member = sym all.0.1 ∙ c.in-Some-2.is in
    let count = all.1 ∙ length-map (of_name c.args.name.now (fmap.entries rows.inbox)) (λ (e : (Name × ℕ) × Message). (e.0.1, e.1)) in
    rw (row, member) (ap (λ n. let it : Account = record { holder = c.in-Some.row.holder; member = c.in-Some-2.member; purse = c.in-Some.row.purse; held = n; next_message = c.in-Some.row.next_message } in Some it) count))))

pub returns-in_default : goal.returns-in_default
returns-in_default g c = tell_account g.S.Store _ (asks_ok g.S.Store (reads_to g.S.Store c.in_ok-row.ensures.reads (λ rows holds is sound. rw (sym (is sound) ∙ c.in_default.is) refl)))

pub returns-in_default-2 : goal.returns-in_default-2
returns-in_default-2 g c = tell_account g.S.Store _ (asks_ok g.S.Store (reads_to g.S.Store (reads_then g.S.Store c.in_ok-row.ensures.reads c.in_ok-member.ensures.reads) (λ rows holds both sound.
    let row : fmap.get rows.purses c.args.name.now ≡ Some c.in-Some.row = sym (both.0 sound) ∙ c.in-Some.is in
    let member : fmap.get rows.holders c.in-Some.row.holder ≡ None = sym both.1 ∙ c.in_default-2.is in
    rw (row, member) refl)))
