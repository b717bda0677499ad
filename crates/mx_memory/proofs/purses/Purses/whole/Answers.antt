use Rattle.std.proofs.Common.{◌≡◌, ◌∙◌, sym, ap, Some, option_map}
use Rattle.std.specs.FinMap as fmap
use Rattle.mx_pay.specs.Names.{name_cmp}
use Rattle.mx_memory.specs.Logs.{kept_log}
use Rattle.mx_sorted.specs.Slots.{map_of}
use Rattle.mx_book.specs.declared.values.PurseRow.{PurseRow}
use Rattle.mx_memory.proofs.JoinLemmas.{found_there}
use Rattle.mx_memory.proofs.purses.Purses.whole.Goals as goal

pub with_log-requires : goal.with_log-requires
with_log-requires c =
    let rows = map_of name_cmp c.self.inside.rows in
    let logs = map_of name_cmp c.self.inside.logs in
    let log : kept_log (fmap.get logs c.args.name) ≡ c.new.result = ap kept_log (sym c.get.ensures ∙ ap (option_map (λ v. v.now)) c.in-None.is) ∙ sym c.new.ensures in
    c.self.invariant.whole c.args.name _ (found_there rows logs c.args.name c.args.row.now c.new.result (rw (← c.self.view_is) at c.requires) log)

pub with_log-requires-in-Some : goal.with_log-requires-in-Some
with_log-requires-in-Some c =
    let rows = map_of name_cmp c.self.inside.rows in
    let logs = map_of name_cmp c.self.inside.logs in
    let log : kept_log (fmap.get logs c.args.name) ≡ c.in-Some.log.now = ap kept_log (sym c.get.ensures ∙ ap (option_map (λ v. v.now)) c.in-Some.is) in
    c.self.invariant.whole c.args.name _ (found_there rows logs c.args.name c.args.row.now c.in-Some.log.now (rw (← c.self.view_is) at c.requires) log)

pub returns-in-None : goal.returns-in-None
returns-in-None c =
    let rows = map_of name_cmp c.self.inside.rows in
    let logs = map_of name_cmp c.self.inside.logs in
    let log : kept_log (fmap.get logs c.args.name) ≡ c.new.result = ap kept_log (sym c.get.ensures ∙ ap (option_map (λ v. v.now)) c.in-None.is) ∙ sym c.new.ensures in
    rw (← c.self.view_is) (ap (option_map (λ (x : PurseRow). x.purse)) (found_there rows logs c.args.name c.args.row.now c.new.result (rw (← c.self.view_is) at c.requires) log) ∙ ap Some (sym c.with_log.ensures))

pub returns-in-Some : goal.returns-in-Some
returns-in-Some c =
    let rows = map_of name_cmp c.self.inside.rows in
    let logs = map_of name_cmp c.self.inside.logs in
    let log : kept_log (fmap.get logs c.args.name) ≡ c.in-Some.log.now = ap kept_log (sym c.get.ensures ∙ ap (option_map (λ v. v.now)) c.in-Some.is) in
    rw (← c.self.view_is) (ap (option_map (λ (x : PurseRow). x.purse)) (found_there rows logs c.args.name c.args.row.now c.in-Some.log.now (rw (← c.self.view_is) at c.requires) log) ∙ ap Some (sym c.with_log-in-Some.ensures))
