use Rattle.std.proofs.Common.{◌∙◌, sym, ap, option_map}
use Rattle.mx_pay.specs.Names.{name_cmp}
use Rattle.mx_sorted.specs.Slots.{map_of}
use Rattle.mx_memory.proofs.JoinLemmas.{log_there, log_nowhere}
use Rattle.mx_memory.proofs.purses.Purses.log_of.Goals as goal

pub returns-in-None : goal.returns-in-None
returns-in-None c =
    rw (← c.self.view_is) (
    c.new.ensures ∙ sym (log_nowhere (map_of name_cmp c.self.inside.rows) (map_of name_cmp c.self.inside.logs) c.args.name (sym c.get.ensures ∙ ap (option_map (λ v. v.now)) c.in-None.is)))

pub returns-in-Some : goal.returns-in-Some
returns-in-Some c =
    rw (← c.self.view_is) (
    c.log_kept.ensures ∙ sym (log_there (map_of name_cmp c.self.inside.rows) (map_of name_cmp c.self.inside.logs) c.args.name _ (sym c.get.ensures ∙ ap (option_map (λ v. v.now)) c.in-Some.is)))
