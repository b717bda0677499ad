use Rattle.std.proofs.Common.{◌∙◌, sym, ap, cond, Some, None}
use Rattle.std.specs.FinMap as fmap
use Rattle.mx_pay.specs.Names.{name_cmp}
use Rattle.mx_memory.specs.Logs.{kept_log}
use Rattle.mx_sorted.specs.Slots.{map_of}
use Rattle.mx_memory.proofs.JoinLemmas.{no_first}
use Rattle.mx_book.proofs.NameLemmas.{names_total, get-inserted, name_itself}
use Rattle.mx_memory.proofs.purses.keep_log.Goals as goal

pub returns-then-has_log-clause-kept : goal.returns-then-has_log-clause-kept
returns-then-has_log-clause-kept c =
    ap (λ m. kept_log (fmap.get m c.args.name)) c.put.ensures.map ∙ ap kept_log (get-inserted (map_of name_cmp c.args.logs.now) c.args.name c.log.result) ∙ c.log.ensures

pub returns-then-has_log-clause-others : goal.returns-then-has_log-clause-others
returns-then-has_log-clause-others c q apart =
    let logs = map_of name_cmp c.args.logs.now in
    ap (λ m. fmap.get m q) c.put.ensures.map ∙ fmap.get-insert names_total logs c.args.name c.log.result q ∙ ap (λ b. cond b (Some c.log.result) (fmap.get logs q)) apart

pub returns-else-has_log-clause-kept : goal.returns-else-has_log-clause-kept
returns-else-has_log-clause-kept c =
    let logs = map_of name_cmp c.args.logs.now in
    ap (λ m. kept_log (fmap.get m c.args.name)) c.remove.ensures.map ∙ ap kept_log (fmap.get-remove names_total logs c.args.name c.args.name ∙ ap (λ b. cond b None (fmap.get logs c.args.name)) (name_itself c.args.name))
    ∙ no_first c.args.purse.now.log (sym c.has_log.ensures ∙ c.if-has_log.false)

pub returns-else-has_log-clause-others : goal.returns-else-has_log-clause-others
returns-else-has_log-clause-others c q apart =
    let logs = map_of name_cmp c.args.logs.now in
    ap (λ m. fmap.get m q) c.remove.ensures.map ∙ fmap.get-remove names_total logs c.args.name q ∙ ap (λ b. cond b None (fmap.get logs q)) apart
