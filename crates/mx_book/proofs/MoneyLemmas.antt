-- What grants, loads, redemptions and collects make of the World.
use Rattle.std.proofs.Common.{◌≡◌, ℕ, ◌+◌, ◌≤◌, Bool, true, false, cond, List, [], ◌∷◌, ◌++◌, length, refl, sym, ◌∙◌, ap, subst, arith, Some, None, IsSome, IsTrue, option_map, map}
use Rattle.std.specs.Prelude.{filter}
use Rattle.std.specs.List.{AllByRecursion}
use Rattle.std.specs.FinMap as fmap
use Rattle.mx_pay.specs.Limits.{most_amount, most_number}
use Rattle.mx_pay.specs.Names.{name_cmp, is_name, is_name_text}
use Rattle.mx_pay.specs.Details.{Details}
use Rattle.mx_pay.specs.Log.{has_logged}
use Rattle.mx_purse.specs.State.{State, IsPurse}
use Rattle.mx_book.specs.declared.values.Line.{Line}
use Rattle.mx_book.specs.declared.values.MemberRow.{MemberRow}
use Rattle.mx_book.specs.declared.edits.Edit.TheVariants.{SetMember, SetPurse, AddLoad, AddRedemption}
use Rattle.mx_book.specs.World.{World, Row, Name, is_of_member, with_collected, all_collected, set_row}
use Rattle.mx_book.specs.Reads.{purses_of}
use Rattle.mx_book.specs.Conditions.{IsWorld, IsLine, AreNumbered, all_granted}
use Rattle.mx_book.specs.Edits.{edited, all_edited, AllSuit}
use Rattle.mx_book.proofs.NameLemmas.{names_total, names_exact, same_name, get-inserted}
use Rattle.mx_book.proofs.UnderLemmas.{get-remake, entries-remake}
use Rattle.mx_book.specs.Under.{remade}
use Rattle.mx_book.proofs.MapLemmas.{get-pick}
use Rattle.mx_book.proofs.SumLemmas.{sum_values-insert, value_of}
use Rattle.mx_book.proofs.FoundLemmas.{each_inserted, still_some}
use Rattle.mx_book.proofs.KeepLemmas.{owner_stays, heads_stay, IsRow, is_row, rows_stay}
use Rattle.mx_book.proofs.PurseLemmas.{paid_stays, with_lines, line_edits, change_set, edits_append, suits_append, purse_leads, purse_suits}

-- ---- rows with more

-- a row with a load more, and with a redemption more
abbrev pub with_load : Row → Name → ℕ → Row
with_load r reference amount = record r { loads = fmap.insert r.loads reference amount }

abbrev pub with_redemption : Row → Name → ℕ → Row
with_redemption r reference amount = record r { holding = record r.holding { redemptions = fmap.insert r.holding.redemptions reference amount } }

-- ---- a member's row

module _ (w : World) (m : Name) (granted float : ℕ) (there : IsSome (fmap.get w.members m)) where
  abbrev row : MemberRow
  row = record { granted = granted; float = float }

  abbrev with_row : World
  with_row = edited w (SetMember m granted float)

  known : (n : Name) → IsSome (fmap.get with_row.members n) → IsSome (fmap.get w.members n)
  known n some = grind (arith, fmap.gets, names_total, same_name n m)

  -- another row of a member that is there
  pub set_member_stays : float ≤ most_number → all_granted with_row ≤ most_number → IsWorld w → IsWorld with_row
  set_member_stays room most h =
      let tokens = h.tokens in
      heads_stay w w.tokens with_row.members w.holders (λ g there. there)
      (record {
        operator_bytes = tokens.operator_bytes;
        bytes = tokens.bytes;
        operator = tokens.operator;
        owners = λ t c at. owner_stays w with_row m row refl refl c (tokens.owners t c at);
        clerks = λ n some. tokens.clerks n (known n some);
        holders = tokens.holders;
        single = tokens.single;
      })
      (record {
        named = λ n some. h.members.named n (known n some);
        granted = most;
        floats = each_inserted w.members m row (λ n x. x.float ≤ most_number) room h.members.floats;
        holders = λ g n at. let x = h.members.holders g n at in (x.0, still_some w.members m row n x.1);
      })
      h

-- the sum of all grants where a member's row is another
pub granted_after : (w : World) (m : Name) (granted float : ℕ) (old : MemberRow) → fmap.get w.members m ≡ Some old → all_granted (edited w (SetMember m granted float)) + old.granted ≡ all_granted w + granted
granted_after w m granted float old at =
    let row : MemberRow = record { granted = granted; float = float } in
    let sums = sum_values-insert names_total (λ (x : MemberRow). x.granted) w.members m row in
    let here : value_of (λ (x : MemberRow). x.granted) (fmap.get w.members m) ≡ old.granted = ap (value_of (λ (x : MemberRow). x.granted)) at in
    omega (arith, sums, here)

-- ---- a purse with loads or redemptions more

-- what is kept of loads
pub loads_stay : (w : World) (p : Name) (r : Row) (q : State) (ls : List Line) (reference : Name) (amount : ℕ) → fmap.get w.rows p ≡ Some r → q.name ≡ p → IsPurse q → AreNumbered 1 (r.holding.lines ++ ls) → length (r.holding.lines ++ ls) ≡ q.lines → AllByRecursion IsLine ls
    → ((d : Details) → fmap.contains_key w.tray (p, d) ≡ true → has_logged r.holding.purse.log d ≡ true → has_logged q.log d ≡ true) → IsTrue (is_name_text reference) → amount ≤ most_amount
    → IsWorld w → IsWorld (set_row w p (with_load (with_lines r q ls) reference amount))
loads_stay w p r q ls reference amount at name purse numbered counted valid logged text small h =
    paid_stays w p r q ls (fmap.insert r.loads reference amount) r.holding.redemptions at name purse numbered counted valid logged
    (λ paid. record { loads = each_inserted r.loads reference amount (λ k n. IsTrue (is_name_text k) × (n ≤ most_amount)) (text, small) paid.loads; redemptions = paid.redemptions; collected = paid.collected })
    h

-- what is kept of redemptions
pub redemptions_stay : (w : World) (p : Name) (r : Row) (q : State) (ls : List Line) (reference : Name) (amount : ℕ) → fmap.get w.rows p ≡ Some r → q.name ≡ p → IsPurse q → AreNumbered 1 (r.holding.lines ++ ls) → length (r.holding.lines ++ ls) ≡ q.lines → AllByRecursion IsLine ls
    → ((d : Details) → fmap.contains_key w.tray (p, d) ≡ true → has_logged r.holding.purse.log d ≡ true → has_logged q.log d ≡ true) → IsTrue (is_name_text reference) → amount ≤ most_amount
    → IsWorld w → IsWorld (set_row w p (with_redemption (with_lines r q ls) reference amount))
redemptions_stay w p r q ls reference amount at name purse numbered counted valid logged text small h =
    paid_stays w p r q ls r.loads (fmap.insert r.holding.redemptions reference amount) at name purse numbered counted valid logged
    (λ paid. record {
      loads = paid.loads;
      redemptions = each_inserted r.holding.redemptions reference amount (λ k n. IsTrue (is_name_text k) × (n ≤ most_amount)) (text, small) paid.redemptions;
      collected = λ k there. still_some r.holding.redemptions reference amount k (paid.collected k there);
    })
    h

-- the edits that lead there
pub load_leads : (w : World) (p : Name) (r : Row) (q : State) (ls : List Line) (reference : Name) (amount : ℕ) → fmap.get w.rows p ≡ Some r → q.name ≡ p
    → all_edited w ((SetPurse q ∷ line_edits p ls) ++ AddLoad p reference amount ∷ []) ≡ set_row w p (with_load (with_lines r q ls) reference amount)
load_leads w p r q ls reference amount at name =
    edits_append w (SetPurse q ∷ line_edits p ls) (AddLoad p reference amount ∷ [])
    ∙ ap (λ z. edited z (AddLoad p reference amount)) (purse_leads w p r q ls at name)
    ∙ change_set w p (with_lines r q ls) (λ x. with_load x reference amount)

pub load_suits : (w : World) (p : Name) (r : Row) (q : State) (ls : List Line) (reference : Name) (amount : ℕ) → fmap.get w.rows p ≡ Some r → q.name ≡ p → AreNumbered 1 (r.holding.lines ++ ls) → fmap.get r.loads reference ≡ None
    → AllSuit w ((SetPurse q ∷ line_edits p ls) ++ AddLoad p reference amount ∷ [])
load_suits w p r q ls reference amount at name numbered new =
    suits_append w (SetPurse q ∷ line_edits p ls) (AddLoad p reference amount ∷ []) (purse_suits w p r q ls at name numbered)
    (subst (λ (z : World). AllSuit z (AddLoad p reference amount ∷ [])) (sym (purse_leads w p r q ls at name))
    (grind (arith, new, get-inserted w.rows p (with_lines r q ls)), tt))

pub redemption_leads : (w : World) (p : Name) (r : Row) (q : State) (ls : List Line) (reference : Name) (amount : ℕ) → fmap.get w.rows p ≡ Some r → q.name ≡ p
    → all_edited w ((SetPurse q ∷ line_edits p ls) ++ AddRedemption p reference amount ∷ []) ≡ set_row w p (with_redemption (with_lines r q ls) reference amount)
redemption_leads w p r q ls reference amount at name =
    edits_append w (SetPurse q ∷ line_edits p ls) (AddRedemption p reference amount ∷ [])
    ∙ ap (λ z. edited z (AddRedemption p reference amount)) (purse_leads w p r q ls at name)
    ∙ change_set w p (with_lines r q ls) (λ x. with_redemption x reference amount)

pub redemption_suits : (w : World) (p : Name) (r : Row) (q : State) (ls : List Line) (reference : Name) (amount : ℕ) → fmap.get w.rows p ≡ Some r → q.name ≡ p → AreNumbered 1 (r.holding.lines ++ ls) → fmap.get r.holding.redemptions reference ≡ None
    → AllSuit w ((SetPurse q ∷ line_edits p ls) ++ AddRedemption p reference amount ∷ [])
redemption_suits w p r q ls reference amount at name numbered new =
    suits_append w (SetPurse q ∷ line_edits p ls) (AddRedemption p reference amount ∷ []) (purse_suits w p r q ls at name numbered)
    (subst (λ (z : World). AllSuit z (AddRedemption p reference amount ∷ [])) (sym (purse_leads w p r q ls at name))
    (grind (arith, new, get-inserted w.rows p (with_lines r q ls)), tt))

-- ---- a collect

-- the row of a purse when the member's redemptions are collected
abbrev collect_row : World → Name → Row → Row
collect_row w m r = cond (is_of_member w m r) (with_collected r) r

get_collected : (w : World) (m p : Name) → fmap.get (all_collected w m).rows p ≡ option_map (collect_row w m) (fmap.get w.rows p)
get_collected w m p = get-remake name_cmp (λ q r. collect_row w m r) names_exact w.rows p

-- a row that is collected, or isn't, holds what it held
collected_row_is : (w : World) (m p : Name) (r : Row) → IsRow w p r → IsRow w p (collect_row w m r)
collected_row_is w m p r x = by_case (is_of_member w m r)
  where
    by_case : (b : Bool) → IsRow w p (cond b (with_collected r) r)
    by_case true = record {
      purse = record { text = x.purse.text; named = x.purse.named; holder = x.purse.holder; purse = x.purse.purse };
      inbox = record { few = x.inbox.few; below = x.inbox.below; next = x.inbox.next; messages = x.inbox.messages };
      lines = record { numbered = x.lines.numbered; counted = x.lines.counted; each = x.lines.each };
      clears = x.clears;
      paid = record {
        loads = x.paid.loads;
        redemptions = x.paid.redemptions;
        collected = λ k there. let at = get-pick names_total (λ (n : ℕ). Some (let mark : Unit {0} = tt in mark)) r.holding.redemptions k in grind arith;
      };
    }
    by_case false = x

-- the names of a holder's purses are as they were
names_remade : (w : World) (m g : Name) (es : List (Name × Row)) → map (λ (e : Name × Row). e.0) (filter (λ (e : Name × Row). is_name g e.1.holder) (remade (λ p r. collect_row w m r) es)) ≡ map (λ (e : Name × Row). e.0) (filter (λ (e : Name × Row). is_name g e.1.holder) es)
names_remade w m g [] = refl
names_remade w m g (e ∷ es) = grind (arith, names_remade w m g es)

same_purses : (w : World) (m g : Name) → purses_of (all_collected w m) g ≡ purses_of w g
same_purses w m g = ap (λ es. map (λ (e : Name × Row). e.0) (filter (λ (e : Name × Row). is_name g e.1.holder) es)) (entries-remake name_cmp (λ p r. collect_row w m r) w.rows) ∙ names_remade w m g (fmap.entries w.rows)

pub collect_stays : (w : World) (m : Name) → IsWorld w → IsWorld (all_collected w m)
collect_stays w m h = rows_stay w (all_collected w m).rows
    (λ g. let same : length (purses_of (all_collected w m) g) ≡ length (purses_of w g) = ap length (same_purses w m g) in omega (arith, same, h.purses.few g))
    (λ p x at. grind (arith, get_collected w m p, λ (r : Row) (was : fmap.get w.rows p ≡ Some r). collected_row_is w m p r (is_row w p r was h)))
    (λ p r at. (collect_row w m r, get_collected w m p ∙ ap (option_map (collect_row w m)) at, λ d there logged. grind arith))
    h
