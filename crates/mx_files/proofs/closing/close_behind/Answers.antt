use Rattle.mx_files.proofs.FileLemmas.{closes_so, shut_so}
use Rattle.mx_files.proofs.closing.close_behind.Goals as goal

pub returns-clause-shut : goal.returns-clause-shut
returns-clause-shut g c = λ ok. shut_so c.args.store c.closed-left.result c.args.answer c.closed-left.ensures.left (rw c.told.ensures at ok)

pub returns-clause-closes : goal.returns-clause-closes
returns-clause-closes g c = closes_so c.args.store c.closed-left.result c.closed-left.ensures.listed c.closed-left.ensures.settled c.closed-left.ensures.left
