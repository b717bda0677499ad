use Rattle.mx_tables.proofs.Common.{◌<◌, ◌≤◌, ◌∙◌, length, rules}
use Rattle.std.proofs.Common.{ap, subst}
use Rattle.std.proofs.lemmas.List.{take_all}
use Rattle.mx_memory.specs.Due.{owed}
use Rattle.mx_tables.specs.Cached.{due_of}
use Rattle.mx_tables.proofs.CollectLemmas.{Tells, tells_more, tells_none}
use Rattle.mx_tables.proofs.ThroughLemmas.{through_cache, through_more, through_read, through_short, through_stopped, through_then, through_to}
use Rattle.mx_tables.proofs.due.index_keys.Goals as goal

pub loop-key-init : goal.loop-key-init
loop-key-init g c k = through_cache g.S.Store (λ r w s it. (it, tells_none r _ c.new-due.ensures))

pub loop-key-preserved : goal.loop-key-preserved
loop-key-preserved g c k =
    let within : c.loop-key.key-index < length c.args.keys.now = search rules in
    through_to g.S.Store (through_then g.S.Store (c.loop-key.invariant k) (through_read g.S.Store {k = k} c.in_ok-member.ensures (λ r w s x is. is))) (λ r w s both.
    tells_more r c.args.keys.now c.loop-key.key-index c.key-item.result within c.key-item.is _ both.0 _
    (c.in_ok-owe.ensures ∙ ap (λ o. owed (due_of c.loop-key.due) o c.key-item.result) both.1))

pub returns-in_err-member : goal.returns-in_err-member
returns-in_err-member g c k =
    through_more g.S.Store (through_then g.S.Store (c.loop-key.invariant k) (through_stopped g.S.Store {k = k} c.in_err-member.ensures c.from_residual.ensures.1)) (λ r w s x both. both.1)

pub returns-in_err-owe : goal.returns-in_err-owe
returns-in_err-owe g c k =
    through_short g.S.Store (through_then g.S.Store (c.loop-key.invariant k) (through_read g.S.Store {k = k} c.in_ok-member.ensures (λ r w s x is. is))) c.from_residual-in_err-owe.ensures.1

pub returns : goal.returns
returns g c k =
    let past : length c.args.keys.now ≤ c.loop-key.key-index = search rules in
    through_to g.S.Store (c.loop-key.invariant k) (λ r w s it. subst (λ keys. Tells r keys (due_of c.loop-key.due)) (take_all c.loop-key.key-index c.args.keys.now past) it)
