use Rattle.std.proofs.Common.{◌≡◌, ◌<◌, ◌^◌, sym, ap, ◌∙◌, arith, true, false}
use Rattle.std.specs.Prelude.{decimal}
use Rattle.std.proofs.lemmas.Fmt.{parse-decimal}
use Rattle.mx_pay.specs.Reading.{number_of}
use Rattle.mx_pay.proofs.EntryLemmas.{number_none, number_again, texts_same, texts_itself}
use Rattle.std.proofs.Math.Dec.{eqb}
use Rattle.std.specs.Cmp.Lexicographic.{pointwise}
use Rattle.mx_pay.proofs.codes.read_number.Goals as goal

pub returns-in-Err : goal.returns-in-Err
returns-in-Err c = sym (number_none c.args.text.now (λ n low e. (let ok = parse-decimal 64 n c.args.text.now c.parse.result low low e c.parse.ensures.value.0 in let is = c.in-Err.is in cc)))

pub returns-then-eq : goal.returns-then-eq
returns-then-eq c =
    let w = c.in-Ok.ensures in
    let small : c.in-Ok.number < 2 ^ 64 = omega (arith, w.value.0.0.1, w.value.0.1) in
    let text : c.args.text.now ≡ decimal c.in-Ok.number = sym (texts_same _ _ (sym c.eq.ensures ∙ c.if-eq.true)) ∙ c.format.ensures.text in
    sym (ap number_of text ∙ number_again c.in-Ok.number small)

pub returns-else-eq : goal.returns-else-eq
returns-else-eq c =
    sym (number_none c.args.text.now (λ n low e.
    (let ok = parse-decimal 64 n c.args.text.now c.parse.result low low e c.parse.ensures.value.0 in
    let is = c.in-Ok.is in
    let same : c.in-Ok.number ≡ n = cc in
    let text : c.format.result.now ≡ c.args.text.now = c.format.ensures.text ∙ ap decimal same ∙ sym e in
    let yes : c.eq.result ≡ true = c.eq.ensures ∙ ap (λ t. pointwise eqb t c.args.text.now) text ∙ texts_itself c.args.text.now in
    let no = c.if-eq.false in
    let t : true ≡ false = sym yes ∙ no in cc)))
