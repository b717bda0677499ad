use Rattle.std.proofs.Common.{refl}
use Rattle.std.specs.FinMap as fmap
use Rattle.mx_pay.specs.Names.{name_cmp}
use Rattle.mx_sorted.specs.Slots.{map_of}
use Rattle.mx_memory.proofs.DueLemmas.{tied_as, tied_purse, not_but}
use Rattle.mx_book.proofs.FoundLemmas.{none_is}
use Rattle.mx_memory.proofs.shelves.tables.Shelves.add_purse.Goals as goal

pub invariant_of-self : goal.invariant_of-self
invariant_of-self c =
    let purses = map_of name_cmp c.args.self.now.purses in
    let fit = not_but (fmap.contains_key purses c.args.purse) (fmap.contains_key (map_of name_cmp c.args.self.now.holders) c.args.holder) c.requires.fit in
    record { tied = tied_as c.put.ensures.map refl refl refl (tied_purse _ _ _ _ c.args.self.now.tied c.args.purse _ (none_is (fmap.get purses c.args.purse) fit.0) fit.1) }
