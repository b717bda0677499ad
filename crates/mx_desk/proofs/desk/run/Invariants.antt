use Rattle.std.proofs.Common.{◌≡◌, ◌+◌, ◌*◌, ◌≤◌, ℕ, [], length}
use Rattle.mx_book.specs.Views.{RestsAt}
use Rattle.mx_book.specs.World.{World}
use Rattle.mx_desk.specs.Devices.{capped}
use Rattle.mx_desk.specs.Knows.{Knows}
use Rattle.mx_desk.specs.Rounds.{Leads, Moves}
use Rattle.mx_desk.specs.Steps.{state, Ran}
use Rattle.mx_desk.proofs.desk.run.Given as goal

abbrev pub invariant-requests : goal.invariant-requests
invariant-requests g l = let b = g.B.Book in record {
  still : (b.view l.fn.office.book).IsSettled → (b.view l.office.book).IsSettled;
  later : (b.view l.fn.office.book).IsSettled → (b.view l.fn.office.book).doubt ≤ (b.view l.office.book).doubt;
  ran : (w : World) → (b.view l.office.book).doubt ≤ 1 → RestsAt (b.view l.fn.office.book) w
      → Leads (λ ms v. Ran b.fails (state [] (g.R.Read.remaining l.fn.reader.device) (g.W.Write.contents l.fn.writer.device) w) ms
      (state l.input (g.R.Read.remaining l.reader.device) (g.W.Write.contents l.writer.device) v)
      × (l.count ≡ length ms))
      (λ rs v. Moves (b.view l.fn.office.book) (b.view l.office.book) w rs v × Knows v l.workspace.callers);
  reads : (reads : ℕ) × (1000000000 ≡ l.turns + reads) × (l.reader.calls ≡ capped (l.fn.reader.calls + reads));
  small : l.count + (12289 * l.turns + length l.input) ≤ 12289 * 1000000000;
  read_failures : l.reader.failures ≡ l.fn.reader.failures;
  write_failures : l.writer.failures ≡ l.fn.writer.failures;
}

abbrev pub decreases-requests : goal.decreases-requests
decreases-requests g l = 12289 * l.turns + length l.input
