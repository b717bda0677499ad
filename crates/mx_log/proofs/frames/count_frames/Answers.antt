use Rattle.std.proofs.Common.{length}
use Rattle.mx_log.proofs.FrameLemmas.{in_below}
use Rattle.mx_log.proofs.frames.count_frames.Goals as goal

pub returns-clause-count : goal.returns-clause-count
returns-clause-count c i = in_below c.args.size i (length c.args.log.now) _ c.saturating_sub.ensures
