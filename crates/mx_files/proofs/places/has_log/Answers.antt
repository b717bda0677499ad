use Rattle.std.proofs.Common.{rules}
use Rattle.mx_files.proofs.FolderLemmas.{head-log_at}
use Rattle.mx_files.proofs.places.has_log.Goals as goal

pub returns-clause-log : goal.returns-clause-log
returns-clause-log g c = head-log_at (g.F.Folder.paths c.args.folder.now) c.args.path.now c.as_str.result.now c.in_ok-head.head.items c.len.result (search rules) c.in_ok-head.ensures (search rules) (search rules)
