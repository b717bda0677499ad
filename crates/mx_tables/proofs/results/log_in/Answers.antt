use Rattle.mx_tables.proofs.Common.{◌≡◌, ◌<◌, ◌≤◌, ◌∙◌, arith, length, rules}
use Rattle.std.proofs.Common.{ap, subst}
use Rattle.std.proofs.lemmas.List.{take_all}
use Rattle.mx_pay.specs.Log.{log_len, with_entry}
use Rattle.mx_pay.proofs.SameLemmas.{len-none_logged}
use Rattle.mx_tables.specs.Results.{Shows}
use Rattle.mx_tables.proofs.ResultLemmas.{shows_none, shows_more, added_is}
use Rattle.mx_tables.proofs.TrayLemmas.{len_added, never_full, row_details}
use Rattle.mx_tables.proofs.results.log_in.Goals as goal

pub loop-row-init : goal.loop-row-init
loop-row-init c = (shows_none c.args.rows.now c.new-log.result c.new-log.ensures, ap log_len c.new-log.ensures ∙ len-none_logged)

pub loop-row-preserved : goal.loop-row-preserved
loop-row-preserved c =
    let within : c.loop-row.row-index < length c.args.rows.now = search rules in
    let made : c.add.new.self ≡ with_entry c.loop-row.log c.in_ok-details.details = added_is c.add.result c.add.new.self c.loop-row.log c.in_ok-details.details c.if-not-add.false c.add.ensures.new in
    let longer = len_added c.add.result c.add.new.self c.loop-row.log c.in_ok-details.details c.if-not-add.false c.add.ensures.answer made in (
      shows_more c.args.rows.now c.loop-row.row-index c.row-item.result c.loop-row.log c.add.new.self c.in_ok-details.details within c.row-item.is c.in_ok-details.ensures.shown c.in_ok-details.ensures.valid made c.loop-row.invariant.0,
      omega (arith, longer, c.loop-row.invariant.1),
    )

pub returns-clause-is : goal.returns-clause-is
returns-clause-is c =
    let past : length c.args.rows.now ≤ c.loop-row.row-index = search rules in
    subst (Shows c.loop-row.log) (take_all c.loop-row.row-index c.args.rows.now past) c.loop-row.invariant.0

pub returns-in_err-details-clause-there : goal.returns-in_err-details-clause-there
returns-in_err-details-clause-there c log once =
    let within : c.loop-row.row-index < length c.args.rows.now = search rules in
    let d = row_details c.args.rows.now once.shows.details c.loop-row.row-index c.row-item.result within c.row-item.is once.shows.shown once.shows.valid in
    absurd (let ok = c.in_err-details.ensures.there d.0 d.1 d.2 in cc)

pub returns-then-not-add-clause-there : goal.returns-then-not-add-clause-there
returns-then-not-add-clause-there c log once =
    let within : c.loop-row.row-index < length c.args.rows.now = search rules in
    absurd (never_full c.args.rows.now c.loop-row.row-index c.row-item.result c.loop-row.log log c.in_ok-details.details c.add.result within c.row-item.is c.in_ok-details.ensures.shown c.in_ok-details.ensures.valid
    c.loop-row.invariant.0 c.loop-row.invariant.1 once c.if-not-add.true c.add.ensures.answer)
