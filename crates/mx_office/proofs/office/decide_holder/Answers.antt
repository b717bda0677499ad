use Rattle.std.proofs.Common.{refl, ap, is_some}
use Rattle.mx_office.proofs.DecisionLemmas.{of_command, tells_write, tells_read, tells_listed, list_fails}
use Rattle.mx_office.proofs.OwnLemmas.{present}
use Rattle.mx_office.proofs.office.decide_holder.Goals as goal

pub returns-in-Purses : goal.returns-in-Purses
returns-in-Purses g c = of_command c.in-Purses.is (tells_listed _ refl c.purses.ensures.tells (λ w t so valid. so) c.purses.ensures.edits (λ sure. list_fails g.B.Book.fails c.purses.result c.purses.ensures.tells.fault))

pub returns-in-Show : goal.returns-in-Show
returns-in-Show g c = of_command c.in-Show.is (tells_read _ c.show.ensures.tells (λ w t so valid. so) c.show.ensures.edits)

pub returns-in-StartFrom : goal.returns-in-StartFrom
returns-in-StartFrom g c = of_command c.in-StartFrom.is (tells_write _ refl c.start_from.ensures (λ w t so valid. so) (λ w t so none. absurd (cc none)))

pub returns-in-StartTo : goal.returns-in-StartTo
returns-in-StartTo g c = of_command c.in-StartTo.is (tells_write _ refl c.start_to.ensures (λ w t so valid. so) (λ w t so none. absurd (cc none)))

pub returns-in-Handle : goal.returns-in-Handle
returns-in-Handle g c = of_command c.in-Handle.is (tells_write _ refl c.handle.ensures (λ w t so valid. so) (λ w t so none. absurd (cc none)))

pub returns-in-Discard : goal.returns-in-Discard
returns-in-Discard g c = of_command c.in-Discard.is (tells_write _ refl c.discard.ensures (λ w t so valid. so) (λ w t so none. absurd (cc none)))

pub returns-in-Abort : goal.returns-in-Abort
returns-in-Abort g c = of_command c.in-Abort.is (tells_write _ refl c.abort.ensures (λ w t so valid. so) (λ w t so none. absurd (cc none)))

pub returns-in-ReadLog : goal.returns-in-ReadLog
returns-in-ReadLog g c = of_command c.in-ReadLog.is (tells_write _ refl c.read_log.ensures (λ w t so valid. so) (λ w t so none. absurd (cc none)))

pub returns-in-Redeem : goal.returns-in-Redeem
returns-in-Redeem g c = of_command c.in-Redeem.is (tells_write _ refl c.redeem.ensures (λ w t so valid. so.0 valid) (λ w t so none. so.1 (ap is_some (present _ none).1)))

pub returns-in-Inbox : goal.returns-in-Inbox
returns-in-Inbox g c = of_command c.in-Inbox.is (tells_listed _ refl c.inbox.ensures.tells (λ w t so valid. so) c.inbox.ensures.edits c.inbox.ensures.memory)

pub returns-in-Statement : goal.returns-in-Statement
returns-in-Statement g c = of_command c.in-Statement.is (tells_listed _ refl c.statement.ensures.tells (λ w t so valid. so) c.statement.ensures.edits c.statement.ensures.memory)
