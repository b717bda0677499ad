use Rattle.std.proofs.Common.{◌≡◌, ◌∙◌, ap, Some}
use Rattle.std.specs.FinMap as fmap
use Rattle.mx_pay.specs.Names.{name_cmp}
use Rattle.mx_purse.specs.declared.purse.bare.BarePurse.{BarePurse}
use Rattle.mx_book.specs.Index.{index_cmp, released}
use Rattle.mx_memory.specs.Logs.{all_joined}
use Rattle.mx_sorted.specs.Slots.{map_of}
use Rattle.mx_memory.specs.declared.purses.BareRow.{BareRow}
use Rattle.mx_book.specs.declared.values.PurseRow.{PurseRow}
use Rattle.mx_book.proofs.HeldLemmas.{held_put}
use Rattle.mx_memory.proofs.JoinLemmas.{joined-insert, kept_as, kept_insert, owner_found}
use Rattle.mx_memory.proofs.purses.Purses.put.Goals as goal

pub invariant_of-self : goal.invariant_of-self
invariant_of-self c =
    let rows = map_of name_cmp c.self.inside.rows in
    let logs = map_of name_cmp c.self.inside.logs in
    let held = map_of (index_cmp name_cmp) c.self.inside.held in
    let x : PurseRow = record { holder = c.args.holder; purse = c.args.purse.now; next_message = 0 } in
    let row : BarePurse → BareRow = λ b. record { holder = c.args.holder; purse = b; next_message = 0 } in
    let put = c.put-2.ensures.map ∙ ap (λ b. fmap.insert rows c.args.name (row b)) c.bare.ensures.value in
    let kept = map_of name_cmp c.keep_log.new.logs in
    let made : all_joined (map_of name_cmp c.put-2.new.self) kept ≡ fmap.insert (all_joined rows logs) c.args.name x = ap (λ m. all_joined m kept) put ∙ joined-insert rows logs kept c.args.name x c.keep_log.ensures.kept c.keep_log.ensures.others in
    let index = c.put.ensures.map ∙ ap (λ i. fmap.insert i (c.args.holder, Some c.args.name) tt) (c.release.ensures.map ∙ ap (λ o. released held o c.args.name) (owner_found rows logs c.args.name (λ v. v.now) c.get.result c.get.ensures)) in
    kept_as made index (kept_insert (all_joined rows logs) held _ c.args.name x c.self.invariant c.bare.ensures.whole (held_put (all_joined rows logs) held c.args.name x c.self.invariant.held))

pub returns-clause-map : goal.returns-clause-map
returns-clause-map c =
    let rows = map_of name_cmp c.self.inside.rows in
    let logs = map_of name_cmp c.self.inside.logs in
    let x : PurseRow = record { holder = c.args.holder; purse = c.args.purse.now; next_message = 0 } in
    let row : BarePurse → BareRow = λ b. record { holder = c.args.holder; purse = b; next_message = 0 } in
    let put = c.put-2.ensures.map ∙ ap (λ b. fmap.insert rows c.args.name (row b)) c.bare.ensures.value in
    let kept = map_of name_cmp c.keep_log.new.logs in
    rw (← c.self.view_is) (ap (λ m. all_joined m kept) put ∙ joined-insert rows logs kept c.args.name x c.keep_log.ensures.kept c.keep_log.ensures.others)
