use Rattle.std.proofs.Common.{◌∙◌, sym, subst}
use Rattle.sqlite_store.specs.Laws.{settled_at}
use Rattle.mx_files.specs.Durable.{Represents}
use Rattle.mx_files.proofs.CopiedLemmas.{answered, before_close, if_answered, is_answered}
use Rattle.mx_files.proofs.FileLemmas.{fault_closed, kept_so}
use Rattle.mx_files.proofs.closing.copy_from_files.Goals as goal

pub returns-in-Ok-clause-keeps : goal.returns-in-Ok-clause-keeps
returns-in-Ok-clause-keeps g c = λ honest. kept_so c.args.store c.in-Ok.left c.close_behind.result.1 (settled_at c.args.store.store g.met.D.Disk.seen_may_stay) c.in-Ok.ensures.rests c.close_behind.ensures.closes honest

pub returns-in-Ok-clause-copies : goal.returns-in-Ok-clause-copies
returns-in-Ok-clause-copies g c = if_answered c.close_behind.result.0 _ (λ x is.
    let closes = c.close_behind.ensures.closes in
    let it = answered c.in-Ok.answer _ x (before_close c.close_behind.result.1 c.in-Ok.answer _ x c.close_behind.ensures.answer is) c.in-Ok.ensures.copies in
    λ honest.
    let found = it.1 (closes.sound honest (c.close_behind.ensures.shut (is_answered _ x is))) in
    (found.0, found.1, closes.world honest found.0 it.0 (λ sound. subst (λ db. Represents db found.0) (sym (c.in-Ok.ensures.rests.same sound)) found.1), found.2))

pub returns-in-Err-clause-keeps : goal.returns-in-Err-clause-keeps
returns-in-Err-clause-keeps g c = λ honest.
    kept_so c.args.store c.in-Err.refused.store c.close_behind-in-Err.result.1 (settled_at c.args.store.store g.met.D.Disk.seen_may_stay) c.in-Err.ensures.refused.rests c.close_behind-in-Err.ensures.closes honest

pub returns-in-Err-clause-copies : goal.returns-in-Err-clause-copies
returns-in-Err-clause-copies g c = rw (c.close_behind-in-Err.ensures.answer ∙ fault_closed c.close_behind-in-Err.result.1 c.unmade.result) tt
