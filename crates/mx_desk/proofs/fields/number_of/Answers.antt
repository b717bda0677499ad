use Rattle.std.proofs.Common.{◌≡◌, ℕ, ◌+◌, ◌-◌, ◌*◌, min, take, get_or, arith, refl}
use Rattle.std.proofs.lemmas.Int.Digits.{digits_value_more}
use Rattle.std.proofs.lemmas.List.Folds.{list_all_more}
use Rattle.std.proofs.lemmas.Str.{digit_value_digit}
use Rattle.std.specs.Str.Parse.{digits_value}
use Rattle.std.specs.Char.{is_ascii_digit, digit_value}
use Rattle.mx_desk.proofs.fields.number_of.Goals as goal

-- one digit more, where both sides stop at 4,097
capped_digit : (n old more c d : ℕ) → old ≡ min n 4097 → more ≡ min (old * 10 + (c - 48)) 4097 → d + 48 ≡ c → more ≡ min (n * 10 + d) 4097
capped_digit n old more c d e f g = omega arith

pub loop-digit-preserved : goal.loop-digit-preserved
loop-digit-preserved c =
    let v = c.args.value.now in
    let i = c.loop-digit.digit-index in
    let value = digits_value_more 10 v i c.loop-digit-test.true in
    let is = digit_value_digit (get_or v i 0) c.if-not-is_ascii_digit.ensures.cases in
    record {
      digits = rw (list_all_more is_ascii_digit v i 0 c.loop-digit-test.true, c.loop-digit.invariant.digits, ← c.if-not-is_ascii_digit.ensures.value) refl;
      number = rw value (capped_digit (digits_value 10 (take i v)) c.loop-digit.number _ (get_or v i 0) (digit_value (get_or v i 0)) c.loop-digit.invariant.number c.min-number.ensures is);
    }
