use Rattle.std.proofs.Common.{◌≡◌, false, true}
use Rattle.mx_pay.specs.Names.{is_name}
use Rattle.mx_pay.proofs.SameLemmas.{same_name, names_differ}
use Rattle.mx_pay.proofs.details.PayDetails.new.Goals as goal

pub returns-then-same_name-clause-none : goal.returns-then-same_name-clause-none
returns-then-same_name-clause-none c =
    let same : is_name c.args.from c.args.to ≡ true = cc in (λ _. same_name _ _ same, λ _. cc)

pub invariant_of-result : goal.invariant_of-result
invariant_of-result c =
    let differ : is_name c.args.from c.args.to ≡ false = cc in record {
      from = c.same_name.ensures.first;
      to = c.same_name.ensures.second;
      value = c.get.ensures.limit;
      from_seq = c.get-2.ensures.limit;
      to_seq = c.get-3.ensures.limit;
      apart = names_differ _ _ differ;
    }

pub returns-clause-none : goal.returns-clause-none
returns-clause-none c =
    let differ : is_name c.args.from c.args.to ≡ false = cc in (λ some. cc, λ same. absurd (names_differ _ _ differ same))

pub returns-clause-valid : goal.returns-clause-valid
returns-clause-valid c =
    let differ : is_name c.args.from c.args.to ≡ false = cc in record {
      from = c.same_name.ensures.first;
      to = c.same_name.ensures.second;
      value = c.get.ensures.limit;
      from_seq = c.get-2.ensures.limit;
      to_seq = c.get-3.ensures.limit;
      apart = names_differ _ _ differ;
    }
