-- A line more of a statement that is looked through.
use Rattle.std.proofs.Common.{◌≡◌, ◌∙◌, ◌<◌, ◌≤◌, ◌+◌, ◌∷◌, ℕ, List, ap, sym, drop, get_or, length}
use Rattle.std.specs.Prelude.{◌==◌, ◌&&◌}
use Rattle.std.proofs.lemmas.List.{at_drop_more, at_drop_all}
use Rattle.mx_book.specs.declared.values.Line.{Line}
use Rattle.mx_report.specs.Even.{ends_at}

pub ends_more : (lines : List Line) (i n before last : ℕ) (l : Line) → i < length lines → l ≡ get_or lines i l
    → ends_at n before (drop i lines) last ≡ ((l.number == n) && ends_at (n + 1) l.balance (drop (i + 1) lines) last)
ends_more lines i n before last l within is =
    at_drop_more (λ ls. ends_at n before ls last) lines i l within
    ∙ ap (λ (k : Line). ends_at n before (k ∷ drop (i + 1) lines) last) (sym is)

pub ends_all : (lines : List Line) (i n before last : ℕ) → length lines ≤ i
    → ends_at n before (drop i lines) last ≡ (before == last)
ends_all lines i n before last past = at_drop_all (λ ls. ends_at n before ls last) lines i past
