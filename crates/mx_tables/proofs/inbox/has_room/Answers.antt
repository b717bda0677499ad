use Rattle.mx_tables.proofs.Common.{arith, length-map, Name, ◌∙◌, ℕ}
use Rattle.std.proofs.Common.{ap, nat_lt}
use Rattle.std.proofs.lemmas.Bool.Decides.{nat_tests}
use Rattle.mx_book.specs.Limits.{most_messages}
use Rattle.std.specs.FinMap as fmap
use Rattle.mx_purse.specs.declared.message.Message.{Message}
use Rattle.mx_book.specs.RowReads.{of_name}
use Rattle.mx_tables.proofs.ThroughLemmas.{through_cache, through_filled, through_read, through_stopped}
use Rattle.mx_tables.proofs.inbox.has_room.Goals as goal

pub returns-then-has_room : goal.returns-then-has_room
returns-then-has_room g c = through_cache g.S.Store (λ rows w s it. (it, let few = c.has_room.ensures rows it c.if-has_room.true in grind (arith, nat_tests, few)))

pub returns-in_err-held : goal.returns-in_err-held
returns-in_err-held g c = through_stopped g.S.Store c.in_err-held.ensures c.from_residual.ensures.1

pub returns : goal.returns
returns g c = through_filled g.S.Store (through_read g.S.Store c.in_ok-held.ensures
    (λ rows w s x is. is ∙ length-map (of_name c.args.purse.now (fmap.entries rows.inbox)) (λ (e : (Name × ℕ) × Message). (e.0.1, e.1))))
    (λ rows w s is it. c.fill_inbox.ensures rows (omega (arith, is)) it) (λ rows w s is. ap (λ n. nat_lt n most_messages) is)
