use Rattle.std.proofs.Common.{refl}
use Rattle.mx_office.proofs.DecisionLemmas.{of_command, tells_write, tells_read, tells_list}
use Rattle.mx_office.proofs.office.decide_operator.Goals as goal

pub returns-in-NewMember : goal.returns-in-NewMember
returns-in-NewMember g c = of_command c.in-NewMember.is (tells_write _ refl c.new_member.ensures (λ w t so valid. so valid) (λ w t so none. absurd (cc none)))

pub returns-in-Grant : goal.returns-in-Grant
returns-in-Grant g c = of_command c.in-Grant.is (tells_list _ refl refl (λ w. refl) c.grant.ensures.tells (λ w t so valid. so) c.grant.ensures.memory)

pub returns-in-Archive : goal.returns-in-Archive
returns-in-Archive g c = of_command c.in-Archive.is (tells_write _ refl c.archive.ensures (λ w t so valid. so.0) (λ w t so none. so.1 none))

pub returns-in-Clear : goal.returns-in-Clear
returns-in-Clear g c = of_command c.in-Clear.is (tells_write _ refl c.clear.ensures (λ w t so valid. so.0 valid) (λ w t so none. so.1 none))

pub returns-in-Reconcile : goal.returns-in-Reconcile
returns-in-Reconcile g c = of_command c.in-Reconcile.is (tells_read _ c.reconcile.ensures.tells (λ w t so valid. so) c.reconcile.ensures.edits)

pub returns-in-Settle : goal.returns-in-Settle
returns-in-Settle g c = of_command c.in-Settle.is (tells_write _ refl c.settle.ensures (λ w t so valid. so valid) (λ w t so none. absurd (cc none)))
