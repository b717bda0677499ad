use Rattle.sqlite_store.specs.Laws.{settled_at}
use Rattle.mx_files.proofs.CopiedLemmas.{answered, before_close, if_answered, is_answered}
use Rattle.mx_files.proofs.FileLemmas.{kept_so}
use Rattle.mx_files.proofs.closing.raise_from_files.Goals as goal

pub returns-clause-keeps : goal.returns-clause-keeps
returns-clause-keeps g c = λ honest. kept_so c.args.store c.raise_in_store-answer.result.1 c.close_behind.result.1 (settled_at c.args.store.store g.met.D.Disk.seen_may_stay) c.raise_in_store-answer.ensures.rests c.close_behind.ensures.closes honest

pub returns-clause-ours : goal.returns-clause-ours
returns-clause-ours g c = if_answered c.close_behind.result.0 _ (λ made is.
    answered c.raise_in_store-answer.result.0 _ made (before_close c.close_behind.result.1 c.raise_in_store-answer.result.0 _ made c.close_behind.ensures.answer is) c.raise_in_store-answer.ensures.ours)

pub returns-clause-raises : goal.returns-clause-raises
returns-clause-raises g c = if_answered c.close_behind.result.0 _ (λ made is honest sound.
    let was = before_close c.close_behind.result.1 c.raise_in_store-answer.result.0 _ made c.close_behind.ensures.answer is in
    answered c.raise_in_store-answer.result.0 _ made was (c.raise_in_store-answer.ensures.raises (c.close_behind.ensures.closes.sound honest (c.close_behind.ensures.shut (is_answered _ made is))) sound))
