use Rattle.std.proofs.Common.{refl}
use Rattle.mx_pay.proofs.TokenLemmas.{IfSome-token_of, IsSome-token_of, token_of-refused, token_of-written}
use Rattle.mx_pay.proofs.token.Token.read_bytes.Goals as goal

pub returns-in-Ok-clause-accepted : goal.returns-in-Ok-clause-accepted
returns-in-Ok-clause-accepted c =
    let accepted = IsSome-token_of c.args.text.now in
    rw (token_of-written c.args.text.now _ _ c.in-Ok.ensures.value refl) at accepted

pub returns-in-Ok-clause-text : goal.returns-in-Ok-clause-text
returns-in-Ok-clause-text c =
    let lower = IfSome-token_of c.args.text.now in
    rw (token_of-written c.args.text.now _ _ c.in-Ok.ensures.value refl) at lower

pub returns-in-Err-clause-accepted : goal.returns-in-Err-clause-accepted
returns-in-Err-clause-accepted c =
    let accepted = IsSome-token_of c.args.text.now in
    rw (token_of-refused c.args.text.now c.decode_to_slice.new.out _ c.in-Err.ensures.value refl) at accepted
