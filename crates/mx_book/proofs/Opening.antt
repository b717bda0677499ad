-- The opening rows spell the opening World.
use Rattle.std.proofs.Common.{◌≡◌, sym, ◌∙◌, ap, subst, arith, length, map}
use Rattle.std.specs.Prelude.{option_map, filter}
use Rattle.std.specs.Ordering.{nat_cmp}
use Rattle.std.specs.FinMap as fmap
use Rattle.std.specs.List.{sum_by}
use Rattle.mx_pay.specs.Names.{name_cmp, is_name}
use Rattle.mx_pay.specs.Tokens.{token_cmp, IsToken}
use Rattle.mx_book.specs.declared.values.MemberRow.{MemberRow}
use Rattle.mx_book.specs.Sums.{sum_values}
use Rattle.mx_book.specs.Under.{pair_cmp, remake}
use Rattle.mx_pay.specs.Details.{details_cmp}
use Rattle.mx_book.specs.World.{World, Row, Name, Token, opening, result_cmp}
use Rattle.mx_book.specs.Conditions.{IsWorld, all_granted}
use Rattle.mx_book.specs.Rows.{Rows, world_of, row_of}
use Rattle.mx_book.specs.Spells.{Spells, opening_rows}
use Rattle.mx_book.proofs.FoundLemmas.{none_found, none_some}
use Rattle.mx_book.proofs.NameLemmas.{names_total, names_exact}
use Rattle.mx_book.proofs.UnderLemmas.{get-remake, entries_empty}

remake-empty : {X Y : Type 0} (f : Name → X → Y) → remake f (fmap.empty {X = X} {R = name_cmp}) ≡ fmap.empty
remake-empty f = fmap.same_map names_total names_exact _ _ (λ q. get-remake name_cmp f names_exact fmap.empty q ∙ ap (option_map (f q)) (fmap.get-empty name_cmp q) ∙ sym (fmap.get-empty name_cmp q))

none_granted : (t : Token) → all_granted (opening t) ≡ 0
unfolding sum_values
none_granted t = ap (sum_by (λ (e : Name × MemberRow). e.1.granted)) (entries_empty name_cmp)

pub none_held : (t : Token) (h : Name) → length (map (λ (e : Name × Row). e.0) (filter (λ (e : Name × Row). is_name h e.1.holder) (fmap.entries (opening t).rows))) ≡ 0
none_held t h = ap (λ es. length (map (λ (e : Name × Row). e.0) (filter (λ (e : Name × Row). is_name h e.1.holder) es))) (entries_empty name_cmp)

pub opening_is : (t : Token) → IsToken t → IsWorld (opening t)
opening_is t whole = record {
  tokens = record {
    operator_bytes = whole;
    bytes = λ q c. none_found _ c (fmap.get-empty token_cmp q);
    operator = fmap.get-empty token_cmp t;
    owners = λ q c. none_found _ c (fmap.get-empty token_cmp q);
    clerks = λ m. none_some _ (fmap.get-empty name_cmp m);
    holders = λ h. none_some _ (fmap.get-empty name_cmp h);
    single = λ p q c at. none_found _ c (fmap.get-empty token_cmp p) at;
  };
  members = record {
    named = λ m. none_some _ (fmap.get-empty name_cmp m);
    granted = omega (arith, none_granted t);
    floats = λ m row. none_found _ row (fmap.get-empty name_cmp m);
    holders = λ h m. none_found _ m (fmap.get-empty name_cmp h);
  };
  purses = record {
    each = λ p r. none_found _ r (fmap.get-empty name_cmp p);
    few = λ h. omega (arith, none_held t h);
  };
  inboxes = record { each = λ p r. none_found _ r (fmap.get-empty name_cmp p) };
  lines = record { each = λ p r. none_found _ r (fmap.get-empty name_cmp p) };
  results = record {
    archived = λ p d. none_some _ (fmap.get-empty result_cmp (p, d));
    details = λ p d. none_some _ (fmap.get-empty result_cmp (p, d));
    logged = λ p d. none_some _ (fmap.get-empty result_cmp (p, d));
    apart = λ p d. none_some _ (fmap.get-empty result_cmp (p, d));
  };
  settled = λ d. none_some _ (fmap.get-empty details_cmp d);
  clears = record { each = λ p r n m. none_found _ r (fmap.get-empty name_cmp p) };
  payments = record { each = λ p r. none_found _ r (fmap.get-empty name_cmp p) };
}

pub opening_spelled : (t : Token) → IsToken t → Spells (opening_rows t) (opening t)
opening_spelled t whole = record {
  spelled = record {
    world = ap (λ rows. record (opening t) { rows = rows }) (sym (remake-empty (row_of (opening_rows t))));
    proper = record {
      inbox = λ p k gone. fmap.get-empty (pair_cmp name_cmp nat_cmp) (p, k);
      lines = λ p k gone. fmap.get-empty (pair_cmp name_cmp nat_cmp) (p, k);
      loads = λ p k gone. fmap.get-empty (pair_cmp name_cmp name_cmp) (p, k);
      redemptions = λ p k gone. fmap.get-empty (pair_cmp name_cmp name_cmp) (p, k);
    };
  };
  sound = opening_is t whole;
}

pub opening_own : (t : Token) (r : Rows) → IsToken t → r ≡ opening_rows t → ∥ Spells r (world_of r) ∥₁
opening_own t r whole is =
    let own : Spells (opening_rows t) (world_of (opening_rows t)) = subst (λ (w : World). Spells (opening_rows t) w) (opening_spelled t whole).spelled.world (opening_spelled t whole) in
    ∣ subst (λ (z : Rows). Spells z (world_of z)) (sym is) own ∣₁
