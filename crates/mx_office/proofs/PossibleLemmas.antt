-- A payment can be made after a member, a holder, two purses and a load.
use Rattle.std.proofs.Common.{◌≡◌, ℕ, ◌+◌, ◌-◌, ◌<◌, ◌≤◌, false, cond, not, [], ◌∷◌, length, map, replicate, refl, ◌∙◌, ap, Option, Some, None, option_map, is_some, is_none, nat_cmp, arith}
use Rattle.std.specs.Prelude.{nat_le, nat_lt, filter, unwrap_or}
use Rattle.std.proofs.lemmas.Bool.Decides.{nat_tests}
use Rattle.std.specs.FinMap as fmap
use Rattle.std.specs.FinMap.Entries.{put}
use Rattle.mx_pay.specs.Limits.{most_amount, most_number}
use Rattle.mx_pay.specs.Names.{name_cmp, is_name, is_name_text}
use Rattle.mx_pay.specs.Tokens.{IsToken, token_cmp}
use Rattle.mx_pay.proofs.SameLemmas.{len-none_logged, names_differ}
use Rattle.mx_purse.specs.State.{State, new_purse}
use Rattle.mx_purse.specs.declared.message.Message.{Message}
use Rattle.mx_purse.specs.Operations.{loaded, load_refusal}
use Rattle.mx_book.specs.Limits.{most_purses}
use Rattle.mx_book.specs.declared.values.Caller.{Caller}
use Rattle.mx_book.specs.declared.values.Caller.TheVariants.{Operator, Clerk, Holder}
use Rattle.mx_book.specs.declared.values.LineKind.TheVariants as kind
use Rattle.mx_book.specs.declared.values.MemberRow.{MemberRow}
use Rattle.mx_book.specs.Conditions.{all_granted}
use Rattle.mx_book.specs.World.{World, Row, Name, Token, opening, new_row, new_holding, set_row, is_of}
use Rattle.mx_book.proofs.NameLemmas.{names_total, get-inserted}
use Rattle.mx_book.proofs.Opening.{none_held}
use Rattle.mx_book.proofs.PurseLemmas.{change_there}
use Rattle.mx_book.proofs.UnderLemmas.{entries_empty}
use Rattle.mx_command.specs.Commands.{IsNamed}
use Rattle.mx_command.specs.declared.values.Command.{Command}
use Rattle.mx_command.specs.declared.values.Command.TheVariants.{NewMember, Grant, NewHolder, NewPurse, Load}
use Rattle.mx_command.specs.declared.values.Refusal.{Refusal}
use Rattle.mx_command.specs.declared.values.Reply.{Reply}
use Rattle.mx_command.specs.declared.values.Reply.TheVariants as reply
use Rattle.mx_office.specs.Step.{Deed, Answered, Course, tell, unless, unless_told, with_purse, money_line, float_of, change_member, loaded_holding, loaded_row, loaded_world, idle_load, idle_load_at, base, world_after, step}
use Rattle.mx_office.specs.Arrival.{IsPossible}
use Rattle.mx_office.proofs.ArrivalLemmas.{LeadsTo, and_then}
use Rattle.mx_office.proofs.EntrySumLemmas.{sum_values-new, sum_values-empty}
use Rattle.mx_office.proofs.OwnLemmas.{next, none_left, change_to}

-- ---- names and tokens

-- the member, the holder, the purse that pays and the reference of its load are called x, the other purse y
abbrev x : Name
x = 120 ∷ []

abbrev y : Name
y = 121 ∷ []

is_named : IsNamed x × IsNamed y
unfolding is_name_text
is_named = (refl, refl)

abbrev token : ℕ → Token
token n = replicate 16 n

is_bytes : (n : ℕ) → n < 256 → IsToken (token n)
is_bytes n small = record { count = refl; bytes = λ place. grind arith }

-- ---- a command that tells

told_step : (w v : World) (caller : Caller) (c : Command) (r : Reply) → base w caller c ≡ tell v r → step w caller c ≡ record { world = v; reply = r }
unfolding step
told_step w v caller c r is = ap (λ (d : Deed World). let a : Answered = record { world = world_after d; reply = d.reply } in a) is

free : (w : World) (o : Option Refusal) (d : Deed World) → o ≡ None → unless w o d ≡ d
free w o d is = ap (λ a. unless w a d) is

-- ---- the six commands

module _ (value : ℕ) (small : value ≤ most_amount) where
  abbrev member : ℕ → ℕ → MemberRow
  member granted float = record { granted = granted; float = float }

  abbrev w1 : World
  w1 = record (opening (token 0)) { members = fmap.insert fmap.empty x (member 0 0); tokens = fmap.insert fmap.empty (token 1) (Clerk x) }

  abbrev w2 : World
  w2 = record w1 { members = fmap.insert w1.members x (member (0 + value) (0 + value)) }

  abbrev w3 : World
  w3 = record w2 { holders = fmap.insert fmap.empty x x; tokens = fmap.insert w1.tokens (token 2) (Holder x) }

  abbrev w4 : World
  w4 = set_row w3 x (new_row x x)

  abbrev w5 : World
  w5 = set_row w4 y (new_row x y)

  abbrev payer : Row
  payer =
      let q : State = loaded (new_purse x) value in
      record (new_row x x) { holding = with_purse (new_holding x) q (Some (money_line q kind.Loaded value x)); loads = fmap.insert fmap.empty x value }

  abbrev w6 : World
  w6 = record (set_row w5 x payer) { members = fmap.insert w2.members x (member (0 + value) ((0 + value) - value)) }

  first : step (opening (token 0)) Operator (NewMember x (token 1)) ≡ record { world = w1; reply = reply.Added }
  first = told_step _ w1 _ _ _ (free _ _ _ (next _ _ _ _ (ap is_some (fmap.get-empty name_cmp x)) (next _ _ _ _ (ap is_some (fmap.get-empty token_cmp (token 1))) none_left)))

  second : step w1 Operator (Grant x value) ≡ record { world = w2; reply = reply.Granted }
  second =
      let at : fmap.get w1.members x ≡ Some (member 0 0) = get-inserted _ x _ in
      let none : all_granted w1 ≡ 0 = sum_values-new (λ (r : MemberRow). r.granted) fmap.empty x (member 0 0) (fmap.get-empty name_cmp x) ∙ ap (λ n. n + 0) (sum_values-empty (λ (r : MemberRow). r.granted)) in
      let float : float_of w1 x ≡ 0 = ap (λ o. unwrap_or (option_map (λ (r : MemberRow). r.float) o) 0) at in
      let fits : nat_lt most_number (0 + value) ≡ false = grind (arith, nat_tests) in
      told_step _ w2 _ _ _
      (free _ _ _ (next _ _ _ _ (ap is_none at) (next _ _ _ _ (ap (λ n. nat_lt most_number (n + value)) none ∙ fits) (next _ _ _ _ (ap (λ n. nat_lt most_number (n + value)) float ∙ fits) none_left)))
      ∙ ap (λ v. tell v reply.Granted) (change_to w1 x _ (member 0 0) at))

  third : step w2 (Clerk x) (NewHolder x (token 2)) ≡ record { world = w3; reply = reply.Added }
  third = told_step _ w3 _ _ _ (free _ _ _ (next _ _ _ _ (ap is_none (get-inserted _ x _)) (next _ _ _ _ (ap is_some (fmap.get-empty name_cmp x))
      (next _ _ _ _ (ap is_some (fmap.get-insert names_total _ (token 1) _ (token 2) ∙ fmap.get-empty token_cmp (token 2))) none_left))))

  held : not (is_of x (fmap.get w3.holders x)) ≡ false
  held = ap (λ o. not (is_of x o)) (get-inserted _ x x)

  fourth : step w3 (Clerk x) (NewPurse x x) ≡ record { world = w4; reply = reply.Added }
  fourth = told_step _ w4 _ _ _ (free _ _ _ (next _ _ _ _ held (next _ _ _ _ (ap is_some (fmap.get-empty name_cmp x)) (next _ _ _ _ (ap (nat_le most_purses) (none_held (token 0) x)) none_left))))

  fifth : step w4 (Clerk x) (NewPurse y x) ≡ record { world = w5; reply = reply.Added }
  fifth =
      let one : fmap.entries w4.rows ≡ (x, new_row x x) ∷ [] = fmap.entries-insert names_total w3.rows x (new_row x x) ∙ ap (put name_cmp x (new_row x x)) (entries_empty name_cmp) in
      told_step _ w5 _ _ _ (free _ _ _ (next _ _ _ _ held (next _ _ _ _ (ap is_some (fmap.get-insert names_total w3.rows x (new_row x x) y ∙ fmap.get-empty name_cmp y))
      (next _ _ _ _ (ap (λ es. nat_le most_purses (length (map (λ (e : Name × Row). e.0) (filter (λ (e : Name × Row). is_name x e.1.holder) es)))) one) none_left))))

  there : fmap.get w5.rows x ≡ Some (new_row x x)
  there = fmap.get-insert names_total w4.rows y (new_row x y) x ∙ get-inserted _ x _

  fits_one : load_refusal (new_purse x) value ≡ None
  fits_one = grind (arith, nat_tests)

  idle_none : idle_load w5 x x value x ≡ None
  unfolding idle_load
  idle_none =
      let enough : nat_lt (0 + value) value ≡ false = grind (arith, nat_tests) in
      (λ i. idle_load_at w5 x value x (there i) (get-inserted w1.members x (member (0 + value) (0 + value)) i))
      ∙ grind (arith, fmap.gets, enough, fits_one, held)

  loads_one : loaded_row value x (new_row x x) ≡ payer
  unfolding loaded_holding
  loads_one =
      let q : State = loaded (new_purse x) value in
      ap (λ b. let r : Row = record (new_row x x) { holding = cond (is_none b) (with_purse (new_holding x) q (Some (money_line q kind.Loaded value x))) (new_holding x); loads = fmap.insert fmap.empty x value } in r) fits_one

  sixth : step w5 (Clerk x) (Load x value x) ≡ record { world = w6; reply = reply.Loaded }
  sixth = told_step _ w6 _ _ _
      (ap (λ o. unless_told w5 o (tell (loaded_world w5 x x value x) reply.Loaded)) idle_none
      ∙ ap (λ v. tell v reply.Loaded)
      (ap (λ v. change_member v x (λ row. record row { float = row.float - value })) (change_there w5 x (loaded_row value x) (new_row x x) there ∙ ap (set_row w5 x) loads_one)
      ∙ change_to (set_row w5 x payer) x (λ row. record row { float = row.float - value }) (member (0 + value) (0 + value)) (get-inserted w1.members x _)))

  all_six : LeadsTo (opening (token 0)) ((Operator, NewMember x (token 1)) ∷ (Operator, Grant x value) ∷ (Clerk x, NewHolder x (token 2)) ∷ (Clerk x, NewPurse x x) ∷ (Clerk x, NewPurse y x) ∷ (Clerk x, Load x value x) ∷ []) w6
      ((Operator, reply.Added) ∷ (Operator, reply.Granted) ∷ (Clerk x, reply.Added) ∷ (Clerk x, reply.Added) ∷ (Clerk x, reply.Added) ∷ (Clerk x, reply.Loaded) ∷ [])
  all_six = and_then first (and_then second (and_then third (and_then fourth (and_then fifth (and_then sixth (record { is = refl }))))))

pub possible : (value : ℕ) → value ≤ most_amount → IsPossible value
possible value small =
    let named : IsNamed x = is_named.0 in
    let log = len-none_logged in
    let none = fmap.len-empty nat_cmp Message in
    record {
      world = w6 value small;
      payer = payer value small;
      payee = new_row x y;
      reachable = record {
        operator = token 0;
        bytes = is_bytes 0 (omega arith);
        commands = (Operator, NewMember x (token 1)) ∷ (Operator, Grant x value) ∷ (Clerk x, NewHolder x (token 2)) ∷ (Clerk x, NewPurse x x) ∷ (Clerk x, NewPurse y x) ∷ (Clerk x, Load x value x) ∷ [];
        values = ((tt, (named, is_bytes 1 (omega arith))), ((tt, (named, small)), ((named, (named, is_bytes 2 (omega arith))), ((named, (named, named)), ((named, (is_named.1, named)), ((named, (named, small, named)), tt))))));
        leads = ap (λ (c : Course World (Caller × Reply)). c.end) (all_six value small).is;
      };
      can = record {
        payer_there = get-inserted _ x _;
        payee_there = fmap.get-insert names_total (w5 value small).rows x _ y ∙ get-inserted _ y _;
        apart = names_differ x y refl;
        covered = omega arith;
        payer_ready = record { log = omega (arith, log); next = omega arith; lines = omega arith; places = omega (arith, none); numbers = omega arith };
        payee_ready = record { log = omega (arith, log); next = omega arith; lines = omega arith; places = omega (arith, none); numbers = omega arith };
      };
    }
