use Rattle.mx_tables.proofs.Common.{Name, [], ◌++◌, ◌<◌, ◌≡◌, ◌≤◌, ◌∙◌, ◌∷◌, length, rules}
use Rattle.std.proofs.Common.{ap, map, sym}
use Rattle.std.proofs.lemmas.List.{take_all}
use Rattle.mx_tables.specs.Counted.{key_in, text_of}
use Rattle.mx_tables.proofs.MapLists.{grown}
use Rattle.mx_tables.proofs.due.read_keys.Goals as goal

pub loop-row-preserved : goal.loop-row-preserved
loop-row-preserved c =
    let within : c.loop-row.row-index < length c.args.rows.now = search rules in
    let key : Name × Name = (c.in_ok-name_at.field-0, c.in_ok-name_at-2.field-0) in
    let pushed : c.push.new.self.items ≡ c.loop-row.keys.items ++ key ∷ [] = search rules in
    pushed ∙ grown key_in c.args.rows.now c.loop-row.row-index c.row-item.result within c.row-item.is c.loop-row.keys.items key c.loop-row.invariant
    (λ i. (sym (ap text_of c.in_ok-name_at.ensures.is) i, sym (ap text_of c.in_ok-name_at-2.ensures.is) i))

pub returns-clause-is : goal.returns-clause-is
returns-clause-is c =
    let past : length c.args.rows.now ≤ c.loop-row.row-index = search rules in
    c.loop-row.invariant ∙ ap (map key_in) (take_all c.loop-row.row-index c.args.rows.now past)
