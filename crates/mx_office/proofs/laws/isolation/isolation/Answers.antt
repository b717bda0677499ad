use Rattle.std.proofs.Common.{sym, ◌∙◌, ap}
use Rattle.mx_office.specs.Isolation.{local}
use Rattle.mx_office.proofs.LawLemmas.{one_law, run_law}
use Rattle.mx_office.proofs.ViewLemmas.{view_own}
use Rattle.mx_office.proofs.laws.isolation.isolation.Goals as goal

pub returns : goal.returns
returns c = record {
  accounts = λ w h caller command. sym (ap (λ x. x.end) (one_law w h caller command));
  answer = λ w h caller command. sym (ap (λ x. x.replies) (one_law w h caller command));
  run_accounts = λ w h list. sym (ap (λ x. x.end) (run_law w h list));
  run_answers = λ w h list. sym (ap (λ x. x.replies) (run_law w h list));
  own = λ w h caller command. view_own w caller command h;
  alike = λ h v w list others same views. ap (λ x. x.replies) (sym (run_law v h list) ∙ (λ i. local (same i) (views i)) ∙ run_law w h others);
}
