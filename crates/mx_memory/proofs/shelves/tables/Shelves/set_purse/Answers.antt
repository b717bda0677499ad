use Rattle.std.proofs.Common.{◌≡◌, refl, sym, subst, IfSome}
use Rattle.std.specs.FinMap as fmap
use Rattle.mx_pay.specs.Names.{name_cmp}
use Rattle.mx_sorted.specs.Slots.{map_of}
use Rattle.mx_book.specs.declared.values.PurseRow.{PurseRow}
use Rattle.mx_memory.proofs.DueLemmas.{tied_as, tied_set}
use Rattle.mx_memory.proofs.JoinLemmas.{row_found}
use Rattle.mx_memory.proofs.shelves.tables.Shelves.set_purse.Goals as goal

pub invariant_of-self : goal.invariant_of-self
invariant_of-self c =
    let purses = map_of name_cmp c.args.self.now.purses in
    let name = c.name-name.result in
    let found = row_found (fmap.get purses name) c.in-Some.row.now (sym c.in-Some.ensures) in
    let x : PurseRow = record found.0 { purse = c.args.purse.now } in
    let made : map_of name_cmp c.set.new.self ≡ fmap.insert purses name x = subst (λ o. IfSome o (λ (y : PurseRow). map_of name_cmp c.set.new.self ≡ fmap.insert purses name (record y { purse = c.args.purse.now }))) found.1 c.set.ensures.map in
    record { tied = tied_as made refl refl refl (tied_set _ _ _ _ c.args.self.now.tied name x found.0 found.1 refl) }
