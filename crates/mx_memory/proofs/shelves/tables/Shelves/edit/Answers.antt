use Rattle.std.proofs.Common.{refl}
use Rattle.mx_memory.proofs.EditLemmas.{edited_as}
use Rattle.mx_memory.proofs.shelves.tables.Shelves.edit.Goals as goal

pub returns-in-NewMember : goal.returns-in-NewMember
returns-in-NewMember c = edited_as c.in-NewMember.is refl c.add_member.ensures.edited c.add_member.ensures.room

pub returns-in-NewHolder : goal.returns-in-NewHolder
returns-in-NewHolder c = edited_as c.in-NewHolder.is refl c.add_holder.ensures.edited c.add_holder.ensures.room

pub returns-in-NewPurse : goal.returns-in-NewPurse
returns-in-NewPurse c = edited_as c.in-NewPurse.is refl c.add_purse.ensures.edited c.add_purse.ensures.room

pub returns-in-SetPurse : goal.returns-in-SetPurse
returns-in-SetPurse c = edited_as c.in-SetPurse.is refl c.set_purse.ensures.edited c.set_purse.ensures.room

pub returns-in-AddMessage : goal.returns-in-AddMessage
returns-in-AddMessage c = edited_as c.in-AddMessage.is refl c.add_message.ensures.edited c.add_message.ensures.room

pub returns-in-AddLine : goal.returns-in-AddLine
returns-in-AddLine c = edited_as c.in-AddLine.is refl c.add_line.ensures.edited c.add_line.ensures.room

pub returns-in-AddRedemption : goal.returns-in-AddRedemption
returns-in-AddRedemption c = edited_as c.in-AddRedemption.is refl c.add_redemption.ensures.edited c.add_redemption.ensures.room

pub returns-in-ArchiveTray : goal.returns-in-ArchiveTray
returns-in-ArchiveTray c = edited_as c.in-ArchiveTray.is refl c.archive_tray.ensures.edited c.archive_tray.ensures.room

pub returns-in-Collect : goal.returns-in-Collect
returns-in-Collect c = edited_as c.in-Collect.is refl c.collect.ensures.edited c.collect.ensures.room
