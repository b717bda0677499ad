use Rattle.std.proofs.Common.{refl}
use Rattle.std.specs.FinMap as fmap
use Rattle.mx_pay.specs.Names.{name_cmp}
use Rattle.mx_sorted.specs.Slots.{map_of}
use Rattle.std.proofs.lemmas.Bool.{not-true}
use Rattle.mx_memory.proofs.DueLemmas.{tied_as, tied_holder}
use Rattle.mx_memory.proofs.shelves.tables.Shelves.add_holder.Goals as goal

pub invariant_of-self : goal.invariant_of-self
invariant_of-self c =
    let new = not-true (fmap.contains_key (map_of name_cmp c.args.self.now.holders) c.args.holder) c.requires.fit in
    record { tied = tied_as refl c.put.ensures.map refl refl (tied_holder _ _ _ _ c.args.self.now.tied c.args.holder c.args.member new) }
