use Rattle.std.proofs.Common.{◌∙◌, ap, sym, arith, length}
use Rattle.mx_pay.proofs.token.Token.as_bytes.Goals as goal

pub returns-clause-valid : goal.returns-clause-valid
returns-clause-valid c = record {
  count = ap length (sym c.self.view_is) ∙ c.self.told;
  bytes = λ place. grind arith;
}
