use Rattle.mx_tables.proofs.Common.{refl}
use Rattle.mx_tables.proofs.CallLemmas.{finds_then}
use Rattle.mx_tables.proofs.edits.edit_one.Goals as goal

pub returns-in-NewMember : goal.returns-in-NewMember
returns-in-NewMember g c = rw c.in-NewMember.is c.add_member.ensures

pub returns-in-SetMember : goal.returns-in-SetMember
returns-in-SetMember g c = rw c.in-SetMember.is c.update_member.ensures

pub returns-in-NewHolder : goal.returns-in-NewHolder
returns-in-NewHolder g c = rw c.in-NewHolder.is c.add_holder.ensures

pub returns-in-NewPurse : goal.returns-in-NewPurse
returns-in-NewPurse g c = rw c.in-NewPurse.is c.insert_purse.ensures

pub returns-in-DropMessage : goal.returns-in-DropMessage
returns-in-DropMessage g c = rw c.in-DropMessage.is c.drop_message.ensures

pub returns-in-SetPurse : goal.returns-in-SetPurse
returns-in-SetPurse g c = rw c.in-SetPurse.is c.set_purse.ensures

pub returns-in_ok-number-in-AddMessage : goal.returns-in_ok-number-in-AddMessage
returns-in_ok-number-in-AddMessage g c = rw c.in-AddMessage.is (finds_then g.S.Store c.in_ok-number-in-AddMessage.ensures c.add_message.ensures (λ r holds it. refl))

pub returns-in-AddLine : goal.returns-in-AddLine
returns-in-AddLine g c = rw c.in-AddLine.is c.insert_line.ensures

pub returns-in-AddTray : goal.returns-in-AddTray
returns-in-AddTray g c = rw c.in-AddTray.is c.insert_tray.ensures

pub returns-in-ArchiveTray : goal.returns-in-ArchiveTray
returns-in-ArchiveTray g c = rw c.in-ArchiveTray.is c.archive_tray.ensures

pub returns-in-AddLoad : goal.returns-in-AddLoad
returns-in-AddLoad g c = rw c.in-AddLoad.is c.insert_load.ensures

pub returns-in-AddRedemption : goal.returns-in-AddRedemption
returns-in-AddRedemption g c = rw c.in-AddRedemption.is c.insert_redemption.ensures

pub returns-in-Collect : goal.returns-in-Collect
returns-in-Collect g c = rw c.in-Collect.is c.collect_all.ensures

pub returns-in-AddSettled : goal.returns-in-AddSettled
returns-in-AddSettled g c = rw c.in-AddSettled.is c.insert_settled.ensures
