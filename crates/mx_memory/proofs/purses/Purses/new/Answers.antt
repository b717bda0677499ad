use Rattle.std.proofs.Common.{◌∙◌, ap, sym}
use Rattle.std.specs.FinMap as fmap
use Rattle.mx_pay.specs.Names.{name_cmp}
use Rattle.mx_sorted.specs.Slots.{map_of}
use Rattle.mx_book.proofs.FoundLemmas.{none_found}
use Rattle.mx_book.proofs.HeldLemmas.{held_new}
use Rattle.mx_memory.proofs.JoinLemmas.{none_joined}
use Rattle.mx_memory.proofs.purses.Purses.new.Goals as goal

pub invariant_of-result : goal.invariant_of-result
invariant_of-result c =
    let none = none_joined (map_of name_cmp c.new.result) (map_of name_cmp c.new-2.result) c.new.ensures in
    record {
      whole = λ p x at. none_found _ x (fmap.get-empty name_cmp p) (sym (ap (λ m. fmap.get m p) none) ∙ at);
      held = held_new _ _ none c.new-3.ensures;
    }

pub returns : goal.returns
returns c = none_joined (map_of name_cmp c.new.result) (map_of name_cmp c.new-2.result) c.new.ensures
