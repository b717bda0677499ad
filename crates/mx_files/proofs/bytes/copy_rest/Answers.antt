use Rattle.std.proofs.Common.{[], ◌++◌}
use Rattle.std.specs.Io.KnownBytes.{Appends}
use Rattle.std.proofs.KnownBytes.{Appends-nil, Appends-trans, Consumes-nil, Consumes-trans, Consumes-whole}
use Rattle.mx_files.proofs.bytes.copy_rest.Goals as goal

pub pieces-init : goal.pieces-init
pieces-init g c = (c.in_ok-piece.ensures, ([], Consumes-nil _, Appends-nil _))

pub pieces-preserved : goal.pieces-preserved
pieces-preserved g c =
    let (moved, read, written) = c.pieces.invariant.1 in
    let (more, read', written') = c.in_ok-count.ensures.moved in
    (c.pieces.invariant.0, (moved ++ more, Consumes-trans _ _ _ _ _ read read', Appends-trans _ _ _ _ _ written written'))

pub returns-then-count-eq0 : goal.returns-then-count-eq0
returns-then-count-eq0 g c =
    let (moved, read, written) = c.pieces.invariant.1 in
    let (more, read', written') = c.in_ok-count.ensures.moved in
    Consumes-whole _ _ _ (Appends (g.W.Write.contents c.args.writer.now) (g.W.Write.contents c.copy_piece.new.writer)) (Consumes-trans _ _ _ _ _ read read')
    (c.in_ok-count.ensures.end c.if-count-eq0.true) (Appends-trans _ _ _ _ _ written written')
