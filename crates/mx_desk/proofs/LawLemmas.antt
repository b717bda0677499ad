-- What is told of requests one after the other, and of two lists of them that look the same.
use Rattle.std.proofs.Common.{◌≡◌, List, [], ◌∷◌, ◌++◌, refl, sym, ap, ◌∙◌, append_assoc}
use Rattle.mx_book.specs.World.{World, Name}
use Rattle.mx_office.specs.Step.{ends}
use Rattle.mx_office.specs.Isolation.{cut}
use Rattle.mx_book.specs.declared.contract.StoreFault.{StoreFault}
use Rattle.mx_desk.specs.Serve.{Marked, AllMayBeMarked, outputs, response_to, world_after, world_after_one}
use Rattle.mx_desk.specs.Isolation.{alone, seen_of, seen, told_one, told, IsApart}

pub world_after-append : (w : World) (xs ys : List Marked) → world_after w (xs ++ ys) ≡ world_after (world_after w xs) ys
world_after-append w [] ys = refl
world_after-append w (x ∷ xs) ys = world_after-append (world_after_one w x) xs ys

pub outputs-append : (w : World) (xs ys : List Marked) → outputs w (xs ++ ys) ≡ outputs w xs ++ outputs (world_after w xs) ys
outputs-append w [] ys = refl
outputs-append w (x ∷ xs) ys = ap (λ l. response_to w x ++ l) (outputs-append (world_after_one w x) xs ys) ∙ sym (append_assoc (response_to w x) (outputs (world_after_one w x) xs) _)

pub marks-append : (fails : StoreFault → Type 0) (w : World) (xs ys : List Marked) → AllMayBeMarked fails w xs → AllMayBeMarked fails (world_after w xs) ys → AllMayBeMarked fails w (xs ++ ys)
marks-append fails w [] ys one two = two
marks-append fails w (x ∷ xs) ys one two = (one.0, marks-append fails (world_after_one w x) xs ys one.1 two)

seen-append : (h : Name) (w : World) (xs ys : List Marked) → seen h w (xs ++ ys) ≡ seen h w xs ++ seen h (world_after w xs) ys
seen-append h w [] ys = refl
seen-append h w (x ∷ xs) ys = ap (λ l. seen_of w h x ++ l) (seen-append h (world_after_one w x) xs ys) ∙ sym (append_assoc (seen_of w h x) (seen h (world_after_one w x) xs) _)

told-append : (h : Name) (w : World) (xs ys : List Marked) → told h w (xs ++ ys) ≡ told h w xs ++ told h (world_after w xs) ys
told-append h w [] ys = refl
told-append h w (x ∷ xs) ys = ap (λ l. told_one h w x ++ l) (told-append h (world_after_one w x) xs ys) ∙ sym (append_assoc (told_one h w x) (told h (world_after_one w x) xs) _)

-- what keeps a holder apart, as one equation
together : (w : World) (h : Name) (xs : List Marked) → IsApart w h xs → alone (cut w h) (seen h w xs) ≡ ends (cut (world_after w xs) h) (told h w xs)
together w h xs x = λ i. ends (sym x.accounts i) (sym x.told i)

-- two lists of requests that look the same to a holder
pub told_alike : (h : Name) (v w : World) (xs ys : List Marked) → IsApart v h xs → IsApart w h ys → cut v h ≡ cut w h → seen h v xs ≡ seen h w ys
    → (told h v xs ≡ told h w ys) × (cut (world_after v xs) h ≡ cut (world_after w ys) h)
told_alike h v w xs ys x y same views =
    let both = sym (together v h xs x) ∙ (λ i. alone (same i) (views i)) ∙ together w h ys y in
    (ap (λ c. c.replies) both, ap (λ c. c.end) both)
