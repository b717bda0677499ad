use Rattle.mx_tables.proofs.ThroughLemmas.{edits_follow}
use Rattle.mx_tables.proofs.edits.edit_next.Goals as goal

pub returns-in-AddRedemption : goal.returns-in-AddRedemption
returns-in-AddRedemption g c = rw c.in-AddRedemption.is c.redeem.ensures

pub returns-in-Collect : goal.returns-in-Collect
returns-in-Collect g c = rw c.in-Collect.is c.collect.ensures

pub returns-in_ok-edit_one-in_default : goal.returns-in_ok-edit_one-in_default
returns-in_ok-edit_one-in_default g c = edits_follow g.S.Store c.in_ok-edit_one-in_default.ensures c.follow.ensures
