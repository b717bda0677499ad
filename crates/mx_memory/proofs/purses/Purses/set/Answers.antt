use Rattle.std.proofs.Common.{◌≡◌, refl, sym, ◌∙◌, ap, subst, IfSome, Some, option_map}
use Rattle.std.specs.FinMap as fmap
use Rattle.mx_pay.specs.Names.{name_cmp}
use Rattle.mx_purse.specs.declared.purse.bare.BarePurse.{BarePurse}
use Rattle.mx_book.specs.Index.{index_cmp}
use Rattle.mx_memory.specs.Logs.{all_joined, bare_row}
use Rattle.mx_sorted.specs.Slots.{map_of}
use Rattle.mx_memory.specs.declared.purses.BareRow.{BareRow}
use Rattle.mx_book.specs.declared.values.PurseRow.{PurseRow}
use Rattle.mx_memory.proofs.JoinLemmas.{found_there, joined-insert, kept_set}
use Rattle.mx_memory.proofs.purses.Purses.set.Goals as goal

pub invariant_of-self : goal.invariant_of-self
invariant_of-self c =
    let rows = map_of name_cmp c.self.inside.rows in
    let logs = map_of name_cmp c.self.inside.logs in
    let x : PurseRow = record { holder = c.args.row.now.holder; purse = c.args.purse.now; next_message = c.args.row.now.next_message } in
    let there : option_map bare_row (fmap.get (all_joined rows logs) c.args.name) ≡ Some c.args.row.now = rw (← c.self.view_is) at c.requires.there in
    let row : BarePurse → BareRow = λ b. record { holder = c.args.row.now.holder; purse = b; next_message = c.args.row.now.next_message } in
    let put = c.put.ensures.map ∙ ap (λ b. fmap.insert rows c.args.name (row b)) c.bare.ensures.value in
    let kept = map_of name_cmp c.keep_log.new.logs in
    let made : all_joined (map_of name_cmp c.put.new.self) kept ≡ fmap.insert (all_joined rows logs) c.args.name x = ap (λ m. all_joined m kept) put ∙ joined-insert rows logs kept c.args.name x c.keep_log.ensures.kept c.keep_log.ensures.others in
    kept_set rows _ logs _ (map_of (index_cmp name_cmp) c.self.inside.held) c.args.name c.args.row.now x c.self.invariant there refl c.bare.ensures.whole made

pub returns-clause-map : goal.returns-clause-map
returns-clause-map c =
    let rows = map_of name_cmp c.self.inside.rows in
    let logs = map_of name_cmp c.self.inside.logs in
    let x : PurseRow = record { holder = c.args.row.now.holder; purse = c.args.purse.now; next_message = c.args.row.now.next_message } in
    let there : option_map bare_row (fmap.get (all_joined rows logs) c.args.name) ≡ Some c.args.row.now = rw (← c.self.view_is) at c.requires.there in
    let row : BarePurse → BareRow = λ b. record { holder = c.args.row.now.holder; purse = b; next_message = c.args.row.now.next_message } in
    let put = c.put.ensures.map ∙ ap (λ b. fmap.insert rows c.args.name (row b)) c.bare.ensures.value in
    let kept = map_of name_cmp c.keep_log.new.logs in
    let made : all_joined (map_of name_cmp c.put.new.self) kept ≡ fmap.insert (all_joined rows logs) c.args.name x = ap (λ m. all_joined m kept) put ∙ joined-insert rows logs kept c.args.name x c.keep_log.ensures.kept c.keep_log.ensures.others in
    rw (← c.self.view_is) (
    subst (λ o. IfSome o (λ (y : PurseRow). all_joined (map_of name_cmp c.put.new.self) (map_of name_cmp c.keep_log.new.logs) ≡ fmap.insert (all_joined rows logs) c.args.name (record y { purse = c.args.purse.now })))
    (sym (found_there rows logs c.args.name c.args.row.now _ there refl)) made)
