use Rattle.mx_tables.proofs.Common.{arith, ◌∙◌}
use Rattle.std.proofs.Common.{sym}
use Rattle.mx_book.proofs.SpellLemmas.{place_at}
use Rattle.mx_tables.proofs.PurseLemmas.{place_found}
use Rattle.mx_tables.proofs.ThroughLemmas.{through_fault, through_then, through_to}
use Rattle.mx_tables.proofs.purses.finds_place.Goals as goal

pub returns-in_err-row : goal.returns-in_err-row
returns-in_err-row g c = through_fault g.S.Store c.in_err-row.ensures c.from_residual.ensures.1

pub returns-in_default : goal.returns-in_default
returns-in_default g c = through_to g.S.Store c.in_ok-row.ensures (λ rows w s is. (let none = sym is ∙ c.in_default.is in grind (arith, none)) ∙ place_at rows w c.args.purse.now s)

pub returns-in_err-has_room : goal.returns-in_err-has_room
returns-in_err-has_room g c = through_fault g.S.Store (through_then g.S.Store c.in_ok-row.ensures c.in_err-has_room.ensures) c.from_residual-in_err-has_room.ensures.1

pub returns-then-has_room : goal.returns-then-has_room
returns-then-has_room g c = through_to g.S.Store (through_then g.S.Store c.in_ok-row.ensures c.in_ok-has_room.ensures) (λ rows w s both.
    place_found rows c.args.purse.now c.in-Some.row _ (sym both.0 ∙ c.in-Some.is) (sym c.if-has_room.true ∙ both.1) ∙ place_at rows w c.args.purse.now s)

pub returns-else-has_room : goal.returns-else-has_room
returns-else-has_room g c = through_to g.S.Store (through_then g.S.Store c.in_ok-row.ensures c.in_ok-has_room.ensures) (λ rows w s both.
    c.if-has_room.false ∙ place_found rows c.args.purse.now c.in-Some.row _ (sym both.0 ∙ c.in-Some.is) (sym c.if-has_room.false ∙ both.1) ∙ place_at rows w c.args.purse.now s)
