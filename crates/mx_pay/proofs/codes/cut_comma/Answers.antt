use Rattle.mx_pay.proofs.EntryLemmas.{cut_is}
use Rattle.std.proofs.Common.{lit<}
use Rattle.mx_pay.proofs.codes.cut_comma.Goals as goal

pub returns : goal.returns
returns c = cut_is 44 c.args.text.now c.split_once.result c.split_once.ensures.cases (lit< tt)
