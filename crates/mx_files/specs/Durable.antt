-- Where the books in a store stand.
use Rattle.std.specs.Prelude.{List, false}
use Rattle.sqlite.specs.Effect.{Database}
use Rattle.sqlite.specs.State.{State}
use Rattle.mx_book.specs.World.{World}
use Rattle.mx_desk.specs.Durable.{Lasts}
use Rattle.mx_desk.specs.Rounds.{Round}
use Rattle.mx_tables.specs.Holds.{SpellsOneIn}
use Rattle.mx_tables.specs.States.{IsOurs, Leaves, IsSound, IsHonest}
use Rattle.mx_tables.specs.declared.making.Version.{Version}
use Rattle.mx_tables.specs.declared.making.Version.TheVariants.{Two}

-- the database is one of tables of the office of this version, whose rows spell this World, and no other
abbrev pub RepresentsIn : Version → Database → World → Type 0
RepresentsIn v db w = ∥ SpellsOneIn v db w ∥₁

-- the same of the version that the office has
abbrev pub Represents : Database → World → Type 0
Represents = RepresentsIn Two

-- a new store has the tables of the office, which represent this World
pub record IsCopy (s : State) (w : World) : Type 0 where
  pub ours : IsOurs false s
  pub stands : IsSound s → Represents s.now w

-- After these rounds, from the World w, the tables represent the World now, while the store works. While the disk told no lie,
-- what a stop leaves represents that, or it with one round more, as `Lasts` says.
pub record Endures (s : State) (w : World) (rs : List Round) (now : World) : Type 0 where
  pub stands : IsSound s → Represents s.now now
  pub lasts : IsHonest s → (db : Database) → Leaves s db → Lasts (Represents db) w rs now
