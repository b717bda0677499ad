use Rattle.std.proofs.Common.{rules, ◌∙◌}
use Rattle.sqlite_store.specs.Laws.{settled_at}
use Rattle.sqlite.specs.Files.{file_state}
use Rattle.mx_tables.specs.Made.{IsUnknown}
use Rattle.mx_files.proofs.FileLemmas.{fault_closed, kept_so, refusal_of}
use Rattle.mx_files.proofs.closing.close_refused.Goals as goal

pub returns-clause-fault : goal.returns-clause-fault
returns-clause-fault g c = rw (c.close.ensures.answer ∙ fault_closed c.close.result.left c.unmade.result) (search rules)

pub returns-clause-refused : goal.returns-clause-refused
returns-clause-refused g c = λ store refuses honest.
    let closes = c.close.ensures.closes in record {
      kept = kept_so store c.args.refused.store c.close.result.left (settled_at store.store g.met.D.Disk.seen_may_stay) refuses.rests closes honest;
      fault = rw (c.close.ensures.answer ∙ fault_closed c.close.result.left c.unmade.result, c.unmade.ensures)
          (refusal_of (IsUnknown (λ _. 2) (file_state store).now) c.args.refused.fault (λ is. refuses.unknown is (closes.honest honest)));
    }
