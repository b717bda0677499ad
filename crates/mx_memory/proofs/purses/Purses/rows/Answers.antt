use Rattle.std.proofs.Common.{◌∙◌, sym}
use Rattle.mx_pay.specs.Names.{name_cmp}
use Rattle.mx_sorted.specs.Slots.{map_of}
use Rattle.mx_memory.proofs.JoinLemmas.{bare_listed}
use Rattle.mx_memory.proofs.purses.Purses.rows.Goals as goal

pub returns : goal.returns
returns c = rw (← c.self.view_is) (c.rows.ensures ∙ sym (bare_listed (map_of name_cmp c.self.inside.rows) (map_of name_cmp c.self.inside.logs)))
