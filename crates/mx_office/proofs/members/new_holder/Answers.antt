use Rattle.std.proofs.Common.{rules}
use Rattle.mx_command.specs.declared.values.Refusal.TheVariants.{NoSuchMember, NameTaken, TokenTaken}
use Rattle.mx_office.proofs.CallLemmas.{keeps_then, so_far, so_more, tells_so, tells_fault, tells_fault_then}
use Rattle.mx_office.proofs.OwnLemmas.{first, next}
use Rattle.mx_office.proofs.DecideLemmas.{refused_decides, holder_given, new_holder_decides}
use Rattle.mx_office.proofs.members.new_holder.Goals as goal

pub returns-in_err-member : goal.returns-in_err-member
returns-in_err-member g c = tells_fault c.in_err-member.ensures c.from_residual.ensures.1

pub returns-then-is_none : goal.returns-then-is_none
returns-then-is_none g c =
    let member = so_far c.in_ok-member.ensures in
    tells_so (g.met.B.Book.lawful _) member (λ w world known. λ valid. refused_decides w _ _ NoSuchMember _ world (first _ _ _ (search rules)) c.refuse.ensures.reply c.refuse.ensures.edits)

pub returns-in_err-holder : goal.returns-in_err-holder
returns-in_err-holder g c =
    tells_fault_then c.in_ok-member.ensures.keeps c.in_err-holder.ensures c.from_residual-in_err-holder.ensures.1

pub returns-then-is_some : goal.returns-then-is_some
returns-then-is_some g c =
    let member = so_far c.in_ok-member.ensures in
    let holder = so_more member c.in_ok-holder.ensures in
    tells_so (g.met.B.Book.lawful _) holder (λ w world known. λ valid. refused_decides w _ _ NameTaken _ world (next _ _ _ _ (search rules) (first _ _ _ (holder_given w _ _ (search rules)))) c.refuse-then-is_some.ensures.reply c.refuse-then-is_some.ensures.edits)

pub returns-in_err-who : goal.returns-in_err-who
returns-in_err-who g c =
    tells_fault_then (keeps_then c.in_ok-member.ensures.keeps c.in_ok-holder.ensures.keeps) c.in_err-who.ensures c.from_residual-in_err-who.ensures.1

pub returns-then-is_some-2 : goal.returns-then-is_some-2
returns-then-is_some-2 g c =
    let member = so_far c.in_ok-member.ensures in
    let holder = so_more member c.in_ok-holder.ensures in
    let who = so_more holder c.in_ok-who.ensures in
    tells_so (g.met.B.Book.lawful _) who (λ w world known. λ valid. refused_decides w _ _ TokenTaken _ world (next _ _ _ _ (search rules) (next _ _ _ _ (holder_given w _ _ (search rules)) (first _ _ _ (search rules)))) c.refuse-then-is_some-2.ensures.reply c.refuse-then-is_some-2.ensures.edits)

pub returns : goal.returns
returns g c =
    let member = so_far c.in_ok-member.ensures in
    let holder = so_more member c.in_ok-holder.ensures in
    let who = so_more holder c.in_ok-who.ensures in
    tells_so (g.met.B.Book.lawful _) who (λ w world known. λ valid. new_holder_decides w _ _ _ _ world valid.0 valid.1 (search rules) (holder_given w _ _ (search rules)) (search rules) c.make.ensures.reply c.make.ensures.edits)
