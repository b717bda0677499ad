use Rattle.std.proofs.Common.{subst, sym}
use Rattle.std.specs.Prelude.{IfSome}
use Rattle.mx_tables.specs.Cached.{IsDue, due_of}
use Rattle.mx_tables.proofs.CacheLemmas.{agrees_undue}
use Rattle.mx_tables.proofs.cache.Cache.take_due.Goals as goal

pub returns : goal.returns
returns c r it = (λ redemptions. agrees_undue r c.args.self.now it _ c.take.ensures.after redemptions, subst (λ o. IfSome o (λ due. IsDue r (due_of due))) (sym c.take.ensures.value) it.due)
