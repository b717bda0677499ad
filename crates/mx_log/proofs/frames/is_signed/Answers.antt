use Rattle.std.proofs.Common.{sym, ◌∙◌, ap, rules}
use Rattle.sqlite_wal.specs.Format.{checksum, is_big}
use Rattle.sqlite_wal.proofs.FormatLemmas.{part_front}
use Rattle.mx_log.proofs.frames.is_signed.Goals as goal

pub returns : goal.returns
returns c =
    let head = c.args.head.now in
    let ours = ap (checksum (is_big head) (0, 0)) (part_front head 24) ∙ sym c.checksum_of-sum.ensures in (
      λ same. record {
        first = c.if-head-ne55.false;
        second = c.if-head-ne127.false;
        third = c.if-head-ne6.false;
        fourth = search rules;
        sum = ours ∙ c.is_same.ensures.0 same ∙ c.sum_at.ensures;
      },
      λ signed. c.is_same.ensures.1 (sym ours ∙ signed.sum ∙ sym c.sum_at.ensures),
    )
