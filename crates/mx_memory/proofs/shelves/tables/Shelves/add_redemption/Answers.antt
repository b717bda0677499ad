use Rattle.std.proofs.Common.{refl, ◌∙◌, ap}
use Rattle.std.specs.FinMap as fmap
use Rattle.mx_pay.specs.Names.{name_cmp}
use Rattle.mx_memory.specs.Due.{due_cmp, owed}
use Rattle.mx_sorted.specs.Slots.{map_of}
use Rattle.mx_memory.proofs.DueLemmas.{tied_as, tied_redemption}
use Rattle.mx_book.proofs.FoundLemmas.{value_found}
use Rattle.mx_memory.proofs.shelves.tables.Shelves.add_redemption.Goals as goal

pub invariant_of-self : goal.invariant_of-self
invariant_of-self c =
    let y = value_found (fmap.get (map_of name_cmp c.args.self.now.purses) c.args.purse) c.requires.fit in
    record { tied = tied_as refl refl c.put.ensures.map (c.owe.ensures.map ∙ ap (λ o. owed (map_of due_cmp c.args.self.now.due) o (c.args.purse, c.args.reference)) c.member_of-member.ensures) (tied_redemption _ _ _ _ c.args.self.now.tied (c.args.purse, c.args.reference) _ refl y.0 y.1) }
