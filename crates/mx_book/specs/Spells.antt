-- Rows that spell a World.
use Rattle.std.specs.Prelude.{◌≡◌}
use Rattle.std.proofs.Common.{sym, ◌∙◌}
use Rattle.std.specs.FinMap as fmap
use Rattle.mx_book.specs.World.{World, Token}
use Rattle.mx_book.specs.Conditions.{IsWorld}
use Rattle.mx_book.specs.Rows.{Rows, Spelled}

-- the rows are exactly those of this World, which meets its conditions
pub record Spells (r : Rows) (w : World) : Type 0 where
  pub spelled : Spelled r w
  pub sound : IsWorld w

-- no rows but the operator's token
abbrev pub opening_rows : Token → Rows
opening_rows t = record { operator = t; tokens = fmap.empty; members = fmap.empty; holders = fmap.empty; purses = fmap.empty; inbox = fmap.empty; lines = fmap.empty; tray = fmap.empty; archive = fmap.empty; settled = fmap.empty; loads = fmap.empty; redemptions = fmap.empty }

-- rows spell one World at most
pub one_world : (r : Rows) (v w : World) → Spells r v → Spells r w → v ≡ w
one_world r v w h g = h.spelled.world ∙ sym g.spelled.world
