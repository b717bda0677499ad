-- To put details in their place is to insert them into the set.
use Rattle.std.proofs.Common.{◌≡◌, List, [], ◌∷◌, ◌++◌, refl, Option, Some, None, T, map, length, suc, arith}
use Rattle.std.specs.List.{AllByRecursion}
use Rattle.std.specs.FinMap.Entries.{put, find, is_sorted, below_all, by_order}
use Rattle.mx_pay.specs.Details.{Details, details_cmp}
use Rattle.mx_pay.specs.Log.{marks}
use Rattle.mx_pay.specs.Places.{put_in}

-- the details in order, with one more
abbrev pub put_list : Details → List Details → List Details
put_list d [] = d ∷ []
put_list d (e ∷ es) = by_order (details_cmp d e) (d ∷ e ∷ es) (d ∷ es) (e ∷ put_list d es)

-- what is below all goes first
put_first : (d : Details) (es : List Details) → T (below_all details_cmp d (marks es)) → put_list d es ≡ d ∷ es
put_first d [] h = refl
put_first d (e ∷ es) h = grind arith

nothing_below : (d : Details) (es : List Details) → T (below_all details_cmp d (marks es)) → find details_cmp d (marks es) ≡ None
nothing_below d [] h = refl
nothing_below d (e ∷ es) h = grind (arith, nothing_below d es)

pub put_in-places : (d : Details) (es : List Details) (rest : List (Option Details)) → T (is_sorted details_cmp (marks es)) → find details_cmp d (marks es) ≡ None
    → put_in d (map Some es ++ None ∷ rest) ≡ map Some (put_list d es) ++ rest
put_in-places d [] rest h none = refl
put_in-places d (e ∷ es) rest h none = grind (arith, put_in-places d es rest, put_in-places e es rest, nothing_below e es, put_first e es)

-- the same as to put into the entries of the map
pub put-marks : (d : Details) (es : List Details) → find details_cmp d (marks es) ≡ None → put details_cmp d tt (marks es) ≡ marks (put_list d es)
put-marks d [] none = refl
put-marks d (e ∷ es) none = grind (arith, put-marks d es)

pub length-put_list : (d : Details) (es : List Details) → find details_cmp d (marks es) ≡ None → length (put_list d es) ≡ suc (length es)
length-put_list d [] none = refl
length-put_list d (e ∷ es) none = grind (arith, length-put_list d es)

-- what holds of details and of each of a list holds of each of the list with the details
pub put_all : (P : Details → Type 0) (d : Details) (es : List Details) → P d → AllByRecursion P es → AllByRecursion P (put_list d es)
put_all P d [] one all = (one, tt)
put_all P d (e ∷ es) one all = grind (arith, put_all P d es one all.1)
