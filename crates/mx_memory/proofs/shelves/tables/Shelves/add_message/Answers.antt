use Rattle.std.proofs.Common.{◌≡◌, ◌+◌, refl, sym, subst, IfSome}
use Rattle.std.specs.FinMap as fmap
use Rattle.mx_pay.specs.Names.{name_cmp}
use Rattle.mx_sorted.specs.Slots.{map_of}
use Rattle.mx_book.specs.declared.values.PurseRow.{PurseRow}
use Rattle.mx_memory.proofs.DueLemmas.{tied_as, tied_set}
use Rattle.mx_memory.proofs.JoinLemmas.{row_found}
use Rattle.mx_memory.proofs.shelves.tables.Shelves.add_message.Goals as goal

pub invariant_of-self : goal.invariant_of-self
invariant_of-self c =
    let purses = map_of name_cmp c.args.self.now.purses in
    let found = row_found (fmap.get purses c.args.purse) c.in-Some.row.now (sym c.in-Some.ensures) in
    let x : PurseRow = record found.0 { next_message = c.in-Some.row.now.next_message + 1 } in
    let made : map_of name_cmp c.set_next.new.self ≡ fmap.insert purses c.args.purse x = subst (λ o. IfSome o (λ (y : PurseRow). map_of name_cmp c.set_next.new.self ≡ fmap.insert purses c.args.purse (record y { next_message = c.in-Some.row.now.next_message + 1 }))) found.1 c.set_next.ensures.map in
    record { tied = tied_as made refl refl refl (tied_set _ _ _ _ c.args.self.now.tied c.args.purse x found.0 found.1 refl) }
