use Rattle.std.proofs.Common.{inr, refl, rules}
use Rattle.mx_book.proofs.StandLemmas.{sure_before}
use Rattle.mx_office.proofs.CallLemmas.{so_far, so_more, tells_so, tells_fault, tells_fault_then, for_memory}
use Rattle.mx_office.proofs.GrantedLemmas.{granted_more, granted_all}
use Rattle.mx_office.proofs.money.all_granted.Goals as goal

pub returns-in_err-members : goal.returns-in_err-members
returns-in_err-members g c = tells_fault c.in_err-members.ensures c.from_residual.ensures.1

pub returns-in_err-granted_of : goal.returns-in_err-granted_of
returns-in_err-granted_of g c =
    tells_fault_then c.loop-member.invariant.far.keeps (for_memory c.in_err-granted_of.ensures) c.from_residual-in_err-granted_of.ensures.1

pub loop-member-init : goal.loop-member-init
loop-member-init g c =
    let members = so_far c.in_ok-members.ensures in
    record { far = record { keeps = members.keeps; value = λ sure. (let known = members.value sure in (search rules, refl)) } }

pub loop-member-preserved : goal.loop-member-preserved
loop-member-preserved g c =
    let more = so_more c.loop-member.invariant.far c.in_ok-granted_of.ensures in
    record {
      far = record {
        keeps = more.keeps;
        value = λ sure.
            let known = more.value sure in (
              known.0.0,
              granted_more _ c.loop-member.member-index c.member-item.result _ c.loop-member.sum c.in_ok-granted_of.field-0 _ ((g.met.B.Book.lawful _).sound (sure_before more.keeps.later sure))
                  known.0.0 c.loop-member-test.true c.member-item.is known.0.1 known.1 c.saturating_add-sum.ensures,
            );
      };
    }

pub returns : goal.returns
returns g c =
    tells_so (g.met.B.Book.lawful _) c.loop-member.invariant.far (λ w world known. granted_all w c.loop-member.member-index _ c.loop-member.sum known.0 c.loop-member-test.false known.1)
