use Rattle.std.proofs.Common.{◌≡◌, ◌∙◌, ap, rules, string_bytes}
use Rattle.mx_files.specs.Folders.{log_of}
use Rattle.mx_files.proofs.copier.make_copy.Goals as goal

pub returns-clause-others : goal.returns-clause-others
returns-clause-others g c = λ q one other.
    let log : c.as_str.result.now ≡ string_bytes c.args.making.now.log = search rules in
    let place : c.as_str-2.result.now ≡ string_bytes c.args.making.now.place = search rules in
    c.clear_log.ensures.others q (λ e. other (e ∙ ap log_of place)) ∙ c.remove.ensures.others q (λ e. one (e ∙ log))
