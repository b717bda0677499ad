use Rattle.mx_tables.proofs.Common.{refl}
use Rattle.std.specs.FinMap as fmap
use Rattle.mx_tables.proofs.CacheLemmas.{agrees_dropped, agrees_message, agrees_rest, agrees_set, agrees_undue}
use Rattle.mx_tables.proofs.cache.Cache.follow.Goals as goal

pub returns-in-SetPurse : goal.returns-in-SetPurse
returns-in-SetPurse c r fresh it =
    let q = c.in-SetPurse.purse in
    rw c.in-SetPurse.is (agrees_set r c.args.self.now it q.name (λ x. record x { purse = q }) (λ x. refl) c.set_purse.new.purses c.set_purse.ensures (fmap.get r.purses q.name) refl)

pub returns-in-AddMessage : goal.returns-in-AddMessage
returns-in-AddMessage c r fresh it =
    let p = c.in-AddMessage.purse in
    rw c.in-AddMessage.is (agrees_message r c.args.self.now it p c.in-AddMessage.message c.raise_next.new.purses c.count_more.new.inboxes c.raise_next.ensures c.count_more.ensures (fmap.get r.purses p) refl)

pub returns-in-DropMessage : goal.returns-in-DropMessage
returns-in-DropMessage c r fresh it = rw c.in-DropMessage.is (agrees_dropped r c.args.self.now it c.in-DropMessage.purse c.in-DropMessage.number c.remove.new.self c.remove.ensures.map)

pub returns-in-AddRedemption : goal.returns-in-AddRedemption
returns-in-AddRedemption c r fit it = rw c.in-AddRedemption.is (agrees_undue r c.args.self.now it _ refl _)

pub returns-in-Collect : goal.returns-in-Collect
returns-in-Collect c r fit it = rw c.in-Collect.is (agrees_undue r c.args.self.now it _ refl _)

pub returns-in_default : goal.returns-in_default
returns-in_default c r fit it =
    agrees_rest r c.args.self.now c.args.edit.now fit c.in_default.not-NewPurse c.in_default.not-SetPurse c.in_default.not-AddMessage c.in_default.not-DropMessage
    c.in_default.not-AddRedemption c.in_default.not-Collect it
