use Rattle.std.proofs.Common.{◌∙◌}
use Rattle.sqlite_store.specs.Laws.{settled_at}
use Rattle.sqlite.specs.Files.{file_state}
use Rattle.mx_files.proofs.FileLemmas.{fault_closed, kept_so, rests_none}
use Rattle.mx_files.proofs.closing.close_idle.Goals as goal

pub returns-clause-fault : goal.returns-clause-fault
returns-clause-fault g c = c.close.ensures.answer ∙ fault_closed c.close.result.left c.args.fault

pub returns-clause-keeps : goal.returns-clause-keeps
returns-clause-keeps g c = λ honest. kept_so c.args.store c.args.store c.close.result.left (settled_at c.args.store.store g.met.D.Disk.seen_may_stay) (rests_none (file_state c.args.store)) c.close.ensures.closes honest
