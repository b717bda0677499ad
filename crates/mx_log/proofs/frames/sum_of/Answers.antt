use Rattle.std.proofs.Common.{◌∙◌, sym, ap, ap₂}
use Rattle.std.proofs.lemmas.List.{take_rest}
use Rattle.sqlite_wal.specs.Format.{checksum}
use Rattle.sqlite_wal.proofs.FormatLemmas.{part_front}
use Rattle.mx_log.proofs.frames.sum_of.Goals as goal

pub returns : goal.returns
returns c =
    let front = c.checksum_of-front.ensures ∙ sym (ap (checksum c.args.is_big c.args.before) (part_front c.args.frame.now 8)) in
    c.checksum_of.ensures ∙ ap₂ (checksum c.args.is_big) front (take_rest c.args.frame.now 24)
