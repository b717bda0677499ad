use Rattle.std.proofs.Common.{sym, ◌∙◌, ap, option_map}
use Rattle.std.specs.FinMap as fmap
use Rattle.mx_pay.specs.Names.{name_cmp}
use Rattle.mx_sorted.specs.Slots.{map_of}
use Rattle.mx_book.specs.Under.{pair_cmp}
use Rattle.mx_memory.proofs.DueLemmas.{marked_one, marked_none}
use Rattle.mx_memory.proofs.redemptions.collect_one.Goals as goal

pub returns-in-Some-clause-made : goal.returns-in-Some-clause-made
returns-in-Some-clause-made c k = ap (λ m. fmap.get m k) c.put.ensures.map ∙ marked_one (map_of (pair_cmp name_cmp name_cmp) c.args.redemptions.now) (c.args.purse, c.args.reference) c.in-Some.row.now (sym c.in-Some.ensures) k

pub returns-in_default-clause-made : goal.returns-in_default-clause-made
returns-in_default-clause-made c k = marked_none (map_of (pair_cmp name_cmp name_cmp) c.args.redemptions.now) (c.args.purse, c.args.reference) (sym c.get.ensures ∙ ap (option_map (λ v. v.now)) c.in_default.is) k
