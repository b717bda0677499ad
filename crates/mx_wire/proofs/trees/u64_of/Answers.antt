use Rattle.std.proofs.Common.{◌≡◌, drop, get_or, true, false, ◌==◌, option_and_then, sym, ap, ◌∙◌}
use Rattle.fast_float.specs.Text.{scan}
use Rattle.serde_json.specs.Find.{as_u64}
use Rattle.serde_json.specs.Read.{number_of, number_from}
use Rattle.mx_wire.proofs.TreeLemmas.{u64_of_negative, u64_of_unsigned}
use Rattle.mx_wire.proofs.trees.u64_of.Goals as goal

pub returns-then-has_minus : goal.returns-then-has_minus
unfolding number_of
returns-then-has_minus c =
    let s = c.as_bytes-bytes.result.now in
    let signed : (get_or s 0 0 == 45) ≡ true = sym c.if-has_minus.ensures.value in
    let read : number_from true (scan (drop 1 s)) ≡ number_of s = rw signed in
    sym (u64_of_negative (scan (drop 1 s))) ∙ ap (option_and_then as_u64) read ∙ ap (λ t. option_and_then as_u64 (number_of t)) c.as_bytes-bytes.ensures.value

pub returns-else-has_minus : goal.returns-else-has_minus
unfolding number_of
returns-else-has_minus c =
    let s = c.as_bytes-bytes.result.now in
    let unsigned : (get_or s 0 0 == 45) ≡ false = sym c.if-has_minus.ensures.value in
    let read : number_from false (scan s) ≡ number_of s = rw unsigned in
    u64_of_unsigned c.scan.result c.to_u64.result c.to_u64.ensures ∙ ap (λ p. option_and_then as_u64 (number_from false p)) c.scan.ensures.parts
    ∙ ap (option_and_then as_u64) read ∙ ap (λ t. option_and_then as_u64 (number_of t)) c.as_bytes-bytes.ensures.value
