use Rattle.std.proofs.Common.{rules, ◌≡◌, ◌∙◌, true, sym, ap, subst}
use Rattle.std.specs.Cmp.Lexicographic.{pointwise}
use Rattle.std.proofs.Math.Dec.{eqb}
use Rattle.hex.specs.Hex.{encode_lower}
use Rattle.mx_pay.proofs.EntryLemmas.{texts_itself}
use Rattle.mx_cells.proofs.TextLemmas.{token_back, same_words, both_ways}
use Rattle.mx_cells.proofs.cells.token_at.Goals as goal

pub returns-then-ne-clause-there : goal.returns-then-ne-clause-there
returns-then-ne-clause-there c t one is =
    let text = c.as_bytes.result.now in
    let shown : text ≡ encode_lower t = c.as_bytes.ensures.value ∙ same_words _ _ (sym c.in-Some.ensures.is ∙ is) in
    let same : c.in_ok-token.token ≡ t = (let back = token_back t one in search rules) in
    let equal : c.as_slice.result.now ≡ text = c.as_slice.ensures ∙ c.text-digits.ensures.value ∙ ap encode_lower same ∙ sym shown in
    let itself : pointwise eqb c.as_slice.result.now text ≡ true = subst (λ s. pointwise eqb s text ≡ true) (sym equal) (texts_itself text) in
    absurd (both_ways _ itself c.if-ne.ensures)
