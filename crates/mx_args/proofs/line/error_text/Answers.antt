-- The pieces are joined in another order.
use Rattle.std.proofs.Common.{rules, append_assoc}
use Rattle.mx_args.proofs.line.error_text.Goals as goal

pub returns : goal.returns
returns c = search (rules, append_assoc)
