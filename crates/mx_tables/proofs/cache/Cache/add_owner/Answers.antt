use Rattle.mx_tables.proofs.Common.{Some, ◌∙◌}
use Rattle.std.proofs.Common.{ap, subst, sym}
use Rattle.std.specs.FinMap as fmap
use Rattle.std.specs.Prelude.{IfSome}
use Rattle.mx_book.specs.Index.{IsHeld}
use Rattle.mx_tables.specs.Cached.{index_of}
use Rattle.mx_tables.proofs.CacheLemmas.{agrees_new, held_new_purse}
use Rattle.mx_tables.proofs.cache.Cache.add_owner.Goals as goal

pub returns-in_default : goal.returns-in_default
returns-in_default c r fresh it = agrees_new r c.args.self.now it c.args.purse c.args.holder fresh _ (rw c.take.ensures.after tt)

pub returns-then-is_ok : goal.returns-then-is_ok
returns-then-is_ok c r fresh it =
    let was = subst (λ o. IfSome o (λ held. IsHeld r.purses (index_of held))) (sym c.take.ensures.value ∙ c.in-Some.is) it.owners in
    agrees_new r c.args.self.now it c.args.purse c.args.holder fresh _
    (held_new_purse r (index_of c.put.new.self) (index_of c.in-Some.owners) c.args.purse c.args.holder fresh was (c.put.ensures.map ∙ ap (λ m. fmap.insert m (c.args.holder, Some c.args.purse) tt) c.reserve.ensures.map))

pub returns-else-is_ok : goal.returns-else-is_ok
returns-else-is_ok c r fresh it = agrees_new r c.args.self.now it c.args.purse c.args.holder fresh _ (rw c.take.ensures.after tt)
