use Rattle.std.proofs.Common.{◌≡◌, refl, sym, ◌∙◌, ap, subst, IfSome, Some, option_map}
use Rattle.std.specs.FinMap as fmap
use Rattle.mx_pay.specs.Names.{name_cmp}
use Rattle.mx_book.specs.Index.{index_cmp}
use Rattle.mx_memory.specs.Logs.{all_joined, bare_row, kept_log, row_with}
use Rattle.mx_sorted.specs.Slots.{map_of}
use Rattle.mx_book.specs.declared.values.PurseRow.{PurseRow}
use Rattle.mx_memory.proofs.JoinLemmas.{found_there, joined-insert, kept_set}
use Rattle.mx_memory.proofs.purses.Purses.set_next.Goals as goal

pub invariant_of-self : goal.invariant_of-self
invariant_of-self c =
    let rows = map_of name_cmp c.self.inside.rows in
    let logs = map_of name_cmp c.self.inside.logs in
    let old = row_with c.args.row.now (kept_log (fmap.get logs c.args.name)) in
    let x : PurseRow = record old { next_message = c.args.next_message } in
    let there : option_map bare_row (fmap.get (all_joined rows logs) c.args.name) ≡ Some c.args.row.now = rw (← c.self.view_is) at c.requires.there in
    let made : all_joined (map_of name_cmp c.put.new.self) logs ≡ fmap.insert (all_joined rows logs) c.args.name x = ap (λ m. all_joined m logs) c.put.ensures.map ∙ joined-insert rows logs logs c.args.name x refl (λ q apart. refl) in
    kept_set rows _ logs logs (map_of (index_cmp name_cmp) c.self.inside.held) c.args.name c.args.row.now x c.self.invariant there refl
    (c.self.invariant.whole c.args.name old (found_there rows logs c.args.name c.args.row.now _ there refl)) made

pub returns-clause-map : goal.returns-clause-map
returns-clause-map c =
    let rows = map_of name_cmp c.self.inside.rows in
    let logs = map_of name_cmp c.self.inside.logs in
    let old = row_with c.args.row.now (kept_log (fmap.get logs c.args.name)) in
    let x : PurseRow = record old { next_message = c.args.next_message } in
    let there : option_map bare_row (fmap.get (all_joined rows logs) c.args.name) ≡ Some c.args.row.now = rw (← c.self.view_is) at c.requires.there in
    let made : all_joined (map_of name_cmp c.put.new.self) logs ≡ fmap.insert (all_joined rows logs) c.args.name x = ap (λ m. all_joined m logs) c.put.ensures.map ∙ joined-insert rows logs logs c.args.name x refl (λ q apart. refl) in
    rw (← c.self.view_is) (
    subst (λ o. IfSome o (λ (y : PurseRow). all_joined (map_of name_cmp c.put.new.self) logs ≡ fmap.insert (all_joined rows logs) c.args.name (record y { next_message = c.args.next_message })))
    (sym (found_there rows logs c.args.name c.args.row.now _ there refl)) made)
