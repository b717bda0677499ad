-- `get_str` speaks of clap's own list of matches, of which the rows are a view.
use Rattle.std.proofs.Common.{◌∙◌}
use Rattle.clap.specs.Words.{found_of}
use Rattle.clap.proofs.WalkLemmas.{first_value-rows}
use Rattle.mx_args.proofs.line.text_of.Goals as goal

pub returns : goal.returns
returns c = c.get_str.ensures ∙ first_value-rows (found_of c.args.matches.now) c.args.id.now
