use Rattle.std.proofs.Common.{◌≤◌, arith}
use Rattle.mx_tables.specs.Rounds.{doubt_of}
use Rattle.mx_tables.specs.Steady.{rest_of}
use Rattle.mx_files.proofs.RowLemmas.{rests_shown}
use Rattle.mx_files.proofs.TableLemmas.{endures_moved, tables}
use Rattle.mx_lives.proofs.lives.live.Goals as goal

pub returns-clause-calm : goal.returns-clause-calm
returns-clause-calm g c = λ still h.
    let first = (rest_of g.S.Store c.args.book.book still).0 in
    let last = (rest_of g.S.Store c.answered-left.result.0.book (c.answered-left.ensures.still still)).0 in
    let later = c.answered-left.ensures.later still in
    let less = c.in_ok-stopped.ensures.calm h in
    omega (arith, first, last, later, less)

pub returns-clause-lives : goal.returns-clause-lives
returns-clause-lives g c = λ w still sure stands h.
    let book = c.args.book in
    let left = c.answered-left.result.0 in
    let ends = c.answered-left.ensures.still still in
    let last = (rest_of g.S.Store left.book ends).0 in
    let less = c.in_ok-stopped.ensures.calm h in
    let low : doubt_of g.S.Store left.book ≤ 1 = omega (arith, less, last) in
    let led = c.answered-left.ensures.runs w low (rests_shown (tables g.S.Store) book.book book.one book.kept w still stands) in
    let endures = endures_moved g.S.Store book.book left.book book.one book.kept left.one left.kept left.left (g.met.S.Store.settled book.book.0.store) still sure ends w led.end led.rounds stands led.moves in
    record { end = led.end; rounds = led.rounds; holds = led.holds; moves = endures.lasts less _ (c.in_ok-stopped.ensures.left ends h) }
