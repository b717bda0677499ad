-- What was read so far is in the writer.
use Rattle.std.proofs.Common.{ℕ, ◌<◌, List, vec_len}
use Rattle.std.specs.Io.KnownBytes.{Appends, Consumes}
use Rattle.mx_files.proofs.bytes.copy_rest.Given as goal

abbrev pub invariant-pieces : goal.invariant-pieces
invariant-pieces g l = (0 < vec_len l.piece) × ((moved : List ℕ)
    × Consumes (g.R.Read.remaining l.initial.reader) (g.R.Read.remaining l.reader) moved
    × Appends (g.W.Write.contents l.initial.writer) (g.W.Write.contents l.writer) moved)
