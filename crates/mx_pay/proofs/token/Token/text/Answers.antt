use Rattle.std.proofs.Common.{rules, ◌≡◌, ◌∙◌, ap, arith}
use Rattle.std.specs.Result.{result_ok}
use Rattle.hex.specs.Hex.{encode_lower}
use Rattle.hex.proofs.HexLemmas.{decode_sized-encode_lower}
use Rattle.mx_pay.specs.Limits.{token_bytes}
use Rattle.mx_pay.specs.Tokens.{token_of}
use Rattle.mx_pay.proofs.TokenLemmas.{IsAscii-encode_lower}
use Rattle.mx_pay.proofs.token.Token.text.Goals as goal

pub returns-clause-ascii : goal.returns-clause-ascii
returns-clause-ascii c = λ i. grind (arith, IsAscii-encode_lower c.args.self.now i)

pub returns-clause-back : goal.returns-clause-back
returns-clause-back c =
    let valid = c.as_bytes.ensures.valid in
    let written : c.encode_to_slice-done.new.output ≡ encode_lower c.args.self.now = search rules in
    ap token_of written ∙ ap result_ok (decode_sized-encode_lower c.args.self.now token_bytes valid.count valid.bytes)
