-- A text has one list of requests and one end.
use Rattle.std.proofs.Common.{◌≡◌, ℕ, List, ◌∷◌, refl, sym, subst}
use Rattle.mx_desk.specs.Requests.{Request, Next, Whole, First, IsEnd, Begins, none, more, Requests}
use Rattle.mx_desk.proofs.RequestLemmas.{First-unique}

no_end : (b : List ℕ) (e : Next) (r : Request) (mid : List ℕ) → First b e → IsEnd e → First b (Whole r mid) → ⊥
no_end b e r mid first is_end whole = subst IsEnd (First-unique b e (Whole r mid) first whole) is_end

whole_parts : (r q : Request) (x y : List ℕ) → Whole r x ≡ Whole q y → (r ≡ q) × (x ≡ y)
whole_parts r q x y e = (cc, cc)

unique : (b : List ℕ) (rs qs : List Request) (rest last : List ℕ) (e f : Next)
    → Begins b rs rest → First rest e → IsEnd e → Begins b qs last → First last f → IsEnd f → (rs ≡ qs) × (e ≡ f)
unique b rs qs rest last e f none a x none c y = (refl, First-unique b e f a c)
unique b rs (q ∷ qs) rest last e f none a x (more {mid = mid} first begins) c y = absurd (no_end b e q mid a x first)
unique b (r ∷ rs) qs rest last e f (more {mid = mid} first begins) a x none c y = absurd (no_end b f r mid c y first)
unique b (r ∷ rs) (q ∷ qs) rest last e f (more {mid = mid} first begins) a x (more {mid = mid'} first' begins') c y =
    let same = whole_parts r q mid mid' (First-unique b (Whole r mid) (Whole q mid') first first') in
    let others = unique mid rs qs rest last e f begins a x (subst (λ (m : List ℕ). Begins m qs last) (sym same.1) begins') c y in
    (cc, others.1)

pub Requests-unique : (b : List ℕ) (rs qs : List Request) (e f : Next) → Requests b rs e → Requests b qs f → (rs ≡ qs) × (e ≡ f)
Requests-unique b rs qs e f x y = unique b rs qs x.rest y.rest e f x.begins x.first x.is_end y.begins y.first y.is_end
