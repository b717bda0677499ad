use Rattle.std.proofs.Common.{◌≡◌, map, take, true}
use Rattle.sqlite.specs.Held.{state}
use Rattle.mx_book.specs.World.{World}
use Rattle.mx_tables.specs.Rounds.{IsSettled}
use Rattle.mx_tables.specs.States.{IsAwake, worry}
use Rattle.mx_files.specs.Durable.{Represents}
use Rattle.mx_lives.specs.Lived.{LivedTo}
use Rattle.mx_lives.proofs.lives.live_on.Given as goal

-- where the books are sure, the lives so far led to what they represent
abbrev pub invariant-inputs : goal.invariant-inputs
invariant-inputs g l = record {
  awake : IsAwake (state g.S.Store l.book.book.0);
  settled : IsSettled g.S.Store l.book.book;
  calm : worry (state g.S.Store l.book.book.0) ≡ 0 → worry (state g.S.Store l.fn.store) ≡ 0;
  led : worry (state g.S.Store l.book.book.0) ≡ 0 → (w : World) × Represents (state g.S.Store l.fn.store).now w
      × LivedTo (λ _. Unit {0}) true (Represents (state g.S.Store l.book.book.0).now) (take l.input-index (map (λ input. input.now) l.fn.inputs)) l.lives.items w;
}
