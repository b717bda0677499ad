-- What a request asks is a value.
use Rattle.std.proofs.Common.{◌≡◌, ℕ, ◌≤◌, Bool, true, false, cond, List, [], ◌∷◌, refl, subst, Option, Some, None, option_map, arith}
use Rattle.std.specs.Prelude.{IfSome, nat_le, option_and_then, codes}
use Rattle.std.specs.List.{list_all}
use Rattle.std.specs.Char.{is_ascii}
use Rattle.std.proofs.lemmas.Bool.Decides.{nat_tests}
use Rattle.matchit.specs.Router.{RouteOf}
use Rattle.matchit.specs.Seek.{first}
use Rattle.matchit.specs.Params.{named}
use Rattle.serde_json.specs.Data.{Data}
use Rattle.mx_pay.specs.Limits.{most_amount, most_number}
use Rattle.mx_pay.specs.Names.{is_name_text}
use Rattle.mx_pay.specs.Details.{IsDetails}
use Rattle.mx_pay.specs.Log.{IsLogValue}
use Rattle.mx_pay.specs.Reading.{limited, number_of, entry_of}
use Rattle.mx_pay.specs.Tokens.{IsToken, token_of}
use Rattle.mx_pay.proofs.CodeLemmas.{valid_in}
use Rattle.mx_pay.proofs.EntryLemmas.{entry_valid}
use Rattle.mx_pay.proofs.TokenLemmas.{token_of-is}
use Rattle.mx_pay.proofs.SameLemmas.{none_valid}
use Rattle.mx_command.specs.declared.values.Command.{Command}
use Rattle.mx_command.specs.declared.values.Command.TheVariants as command
use Rattle.mx_command.specs.Commands.{IsNamed, IsCommand}
use Rattle.mx_wire.specs.declared.routes.Method.{Method}
use Rattle.mx_wire.specs.declared.routes.Method.TheVariants as method
use Rattle.mx_wire.specs.declared.routes.Pattern.{Pattern}
use Rattle.mx_wire.specs.declared.routes.Pattern.TheVariants as pattern
use Rattle.mx_wire.specs.declared.routes.Route.{Route}
use Rattle.mx_wire.specs.declared.routes.Route.TheVariants as route
use Rattle.mx_wire.specs.Routes.{name_of, taken, after, got, posted, asked, table_rows, route_of}
use Rattle.mx_wire.specs.Bodies.{text_at, name_at, token_at, at_most, number_at, amount_at, seq_at, log_of_code, log_at, details_at, bare, bare_or, of_two, of_three, said, value_of, command_of}

-- ---- what holds of what is found

either : {A : Type 0} (P : A → Type 0) (b : Bool) (x y : Option A) → IfSome x P → IfSome y P → IfSome (cond b x y) P
either P true x y h k = h
either P false x y h k = k

pub found : {A B : Type 0} (P : B → Type 0) (f : A → Option B) (o : Option A) → ((a : A) → IfSome (f a) P) → IfSome (option_and_then f o) P
found P f None each = tt
found P f (Some a) each = each a

made : {A B : Type 0} (P : A → Type 0) (Q : B → Type 0) (f : A → B) (o : Option A) → IfSome o P → ((a : A) → P a → Q (f a)) → IfSome (option_map f o) Q
made P Q f None h each = tt
made P Q f (Some a) h each = each a h

-- a command of two values, and of three
two : {A B : Type 0} (P : A → Type 0) (Q : B → Type 0) (make : A → B → Command) (a : Option A) (b : Option B)
    → IfSome a P → IfSome b Q → ((x : A) (y : B) → P x → Q y → IsCommand (make x y)) → IfSome (of_two a b make) IsCommand
two P Q make None b p q each = tt
two P Q make (Some x) b p q each = made Q IsCommand (make x) b q (λ y is. each x y p is)

three : {A B C : Type 0} (P : A → Type 0) (Q : B → Type 0) (R : C → Type 0) (make : A → B → C → Command) (a : Option A) (b : Option B) (c : Option C)
    → IfSome a P → IfSome b Q → IfSome c R → ((x : A) (y : B) (z : C) → P x → Q y → R z → IsCommand (make x y z)) → IfSome (of_three a b c make) IsCommand
three P Q R make None b c p q r each = tt
three P Q R make (Some x) b c p q r each = two Q R (make x) b c q r (λ y z is so. each x y z p is so)

-- ---- the kinds of values

abbrev IsAmount : ℕ → Type 0
IsAmount n = n ≤ most_amount

abbrev IsNumber : ℕ → Type 0
IsNumber n = n ≤ most_number

abbrev IsAny : ℕ → Type 0
IsAny n = Unit {0}

name_is : (t : List ℕ) → IfSome (name_of t) IsNamed
name_is t = by (is_name_text t) refl
  where
    by : (b : Bool) → is_name_text t ≡ b → IfSome (cond b (Some t) None) IsNamed
    by true is = is
    by false is = tt

within : (most n : ℕ) → IfSome (at_most most n) (λ m. m ≤ most)
within most n = by (nat_le n most) refl
  where
    by : (b : Bool) → nat_le n most ≡ b → IfSome (cond b (Some n) None) (λ m. m ≤ most)
    by true is = grind (arith, nat_tests)
    by false is = tt

token_is : (t : List ℕ) → IfSome (token_of t) IsToken
token_is t = by (token_of t) refl
  where
    by : (o : Option (List ℕ)) → token_of t ≡ o → IfSome o IsToken
    by None is = tt
    by (Some token) is = token_of-is t token is

log_is : (t : List ℕ) → IfSome (log_of_code t) IsLogValue
log_is [] = none_valid
log_is (b ∷ bs) = valid_in (b ∷ bs) _ refl

any_is : (o : Option ℕ) → IfSome o IsAny
any_is None = tt
any_is (Some n) = tt

module _ (key : List ℕ) (d : Data) where
  name_at_is : IfSome (name_at key d) IsNamed
  name_at_is = found IsNamed name_of (text_at key d) name_is

  token_at_is : IfSome (token_at key d) IsToken
  token_at_is = found IsToken token_of (text_at key d) token_is

  amount_at_is : IfSome (amount_at key d) IsAmount
  amount_at_is = found IsAmount (at_most most_amount) (number_at key d) (within most_amount)

  seq_at_is : IfSome (seq_at key d) IsNumber
  seq_at_is = found IsNumber (at_most most_number) (number_at key d) (within most_number)

  log_at_is : IfSome (log_at key d) IsLogValue
  log_at_is = found IsLogValue log_of_code (text_at key d) log_is

  details_at_is : IfSome (details_at key d) IsDetails
  details_at_is = found IsDetails entry_of (text_at key d) (λ t. entry_valid t _ refl)

-- ---- the route

-- the names of a route are names, and its number is within its limit
abbrev HasValues : Route → Type 0
HasValues (route.Grant m) = IsNamed m
HasValues (route.Archive p) = IsNamed p
HasValues (route.Clear p) = IsNamed p
HasValues (route.Load p) = IsNamed p
HasValues (route.Show p) = IsNamed p
HasValues (route.StartFrom p) = IsNamed p
HasValues (route.StartTo p) = IsNamed p
HasValues (route.Handle p) = IsNamed p
HasValues (route.Discard p) = IsNamed p
HasValues (route.Abort p) = IsNamed p
HasValues (route.ReadLog p) = IsNamed p
HasValues (route.Redeem p) = IsNamed p
HasValues (route.Inbox p) = IsNamed p
HasValues (route.Statement p after) = IsNamed p × (after ≤ most_number)
HasValues r = Unit {0}

named_route : (make : List ℕ → Route) (name : Option (List ℕ)) → ((p : List ℕ) → IsNamed p → HasValues (make p)) → IfSome name IsNamed → IfSome (option_map make name) HasValues
named_route make name each is = made IsNamed HasValues make name is each

statement_route : (name : Option (List ℕ)) (n : Option ℕ) → IfSome name IsNamed → IfSome n IsNumber → IfSome (option_and_then (λ p. option_map (route.Statement p) n) name) HasValues
statement_route None n is small = tt
statement_route (Some p) n is small = made IsNumber HasValues (route.Statement p) n small (λ after low. (is, low))

got_is : (p : Pattern) (name : Option (List ℕ)) (n : Option ℕ) → IfSome name IsNamed → IfSome n IsNumber → IfSome (got p name n) HasValues
got_is pattern.Purse name n is small = named_route route.Show name (λ p h. h) is
got_is pattern.Inbox name n is small = named_route route.Inbox name (λ p h. h) is
got_is pattern.Statement name n is small = statement_route name n is small
got_is p name n is small = tt

posted_is : (p : Pattern) (name : Option (List ℕ)) → IfSome name IsNamed → IfSome (posted p name) HasValues
posted_is pattern.Grant name is = named_route route.Grant name (λ p h. h) is
posted_is pattern.Archive name is = named_route route.Archive name (λ p h. h) is
posted_is pattern.Clear name is = named_route route.Clear name (λ p h. h) is
posted_is pattern.Load name is = named_route route.Load name (λ p h. h) is
posted_is pattern.StartFrom name is = named_route route.StartFrom name (λ p h. h) is
posted_is pattern.StartTo name is = named_route route.StartTo name (λ p h. h) is
posted_is pattern.Handle name is = named_route route.Handle name (λ p h. h) is
posted_is pattern.Discard name is = named_route route.Discard name (λ p h. h) is
posted_is pattern.Abort name is = named_route route.Abort name (λ p h. h) is
posted_is pattern.ReadLog name is = named_route route.ReadLog name (λ p h. h) is
posted_is pattern.Redeem name is = named_route route.Redeem name (λ p h. h) is
posted_is p name is = tt

taken_is : (p : Pattern) (parts : List (List ℕ × List ℕ)) → IfSome (taken p parts) IsNamed
taken_is pattern.Grant parts = found IsNamed name_of (named (codes "m") parts) name_is
taken_is p parts = found IsNamed name_of (named (codes "p") parts) name_is

after_is : (p : Pattern) (parts : List (List ℕ × List ℕ)) → IfSome (after p parts) IsNumber
after_is pattern.Statement parts = found IsNumber (limited most_number) (named (codes "after") parts) (λ t. found IsNumber (at_most most_number) (number_of t) (within most_number))
after_is p parts = tt

asked_is : (m : Method) (path : List ℕ) (r : RouteOf Pattern) → IfSome (asked m path r) HasValues
asked_is method.Post path r = posted_is r.value _ (taken_is r.value _)
asked_is method.Other path r = tt
asked_is _ path r = got_is r.value _ _ (taken_is r.value _) (after_is r.value _)

route_is : (method : Method) (path : List ℕ) → IfSome (route_of method path) HasValues
unfolding route_of
route_is method path = either HasValues (list_all is_ascii path) (option_and_then (asked method path) (first table_rows path)) None (found HasValues (asked method path) (first table_rows path) (asked_is method path)) tt

-- ---- the command

bare_is : (r : Route) → HasValues r → IfSome (bare r) IsCommand
bare_is route.Collect h = tt
bare_is (route.Archive p) h = h
bare_is route.Purses h = tt
bare_is (route.Show p) h = h
bare_is (route.Abort p) h = h
bare_is (route.Inbox p) h = h
bare_is (route.Statement p after) h = h
bare_is route.Reconcile h = tt
bare_is r h = tt

said_is : (r : Route) (d : Data) → HasValues r → IfSome (said r d) IsCommand
said_is route.NewMember d h = two IsNamed IsToken command.NewMember _ _ (name_at_is (codes "member") d) (token_at_is (codes "token") d) (λ x y p q. (p, q))
said_is (route.Grant m) d h = made IsAmount IsCommand (command.Grant m) _ (amount_at_is (codes "amount") d) (λ x p. (h, p))
said_is (route.Clear p) d h = made IsLogValue IsCommand (command.Clear p) _ (log_at_is (codes "details") d) (λ x q. (h, q))
said_is route.Settle d h = made IsDetails IsCommand command.Settle _ (details_at_is (codes "details") d) (λ x q. q)
said_is route.NewHolder d h = two IsNamed IsToken command.NewHolder _ _ (name_at_is (codes "holder") d) (token_at_is (codes "token") d) (λ x y p q. (p, q))
said_is route.NewPurse d h = two IsNamed IsNamed command.NewPurse _ _ (name_at_is (codes "purse") d) (name_at_is (codes "holder") d) (λ x y p q. (p, q))
said_is (route.Load p) d h = two IsAmount IsNamed (command.Load p) _ _ (amount_at_is (codes "amount") d) (name_at_is (codes "ref") d) (λ x y q r. (h, q, r))
said_is (route.StartFrom p) d h = three IsNamed IsAmount IsNumber (command.StartFrom p) _ _ _ (name_at_is (codes "peer") d) (amount_at_is (codes "value") d) (seq_at_is (codes "seq") d) (λ x y z q r s. (h, q, r, s))
said_is (route.StartTo p) d h = three IsNamed IsAmount IsNumber (command.StartTo p) _ _ _ (name_at_is (codes "peer") d) (amount_at_is (codes "value") d) (seq_at_is (codes "seq") d) (λ x y z q r s. (h, q, r, s))
said_is (route.Handle p) d h = made IsNumber IsCommand (command.Handle p) _ (seq_at_is (codes "number") d) (λ x q. (h, q))
said_is (route.Discard p) d h = made IsNumber IsCommand (command.Discard p) _ (seq_at_is (codes "number") d) (λ x q. (h, q))
said_is (route.ReadLog p) d h = made IsAny IsCommand (command.ReadLog p) _ (any_is (number_at (codes "place") d)) (λ x q. h)
said_is (route.Redeem p) d h = two IsAmount IsNamed (command.Redeem p) _ _ (amount_at_is (codes "amount") d) (name_at_is (codes "ref") d) (λ x y q r. (h, q, r))
said_is r d h = tt

or_is : (o p : Option Command) → IfSome o IsCommand → IfSome p IsCommand → IfSome (bare_or o p) IsCommand
or_is None p h k = k
or_is (Some c) p h k = h

command_is : (r : Route) (body : List ℕ) → HasValues r → IfSome (command_of r body) IsCommand
unfolding command_of
command_is r body h = or_is (bare r) _ (bare_is r h) (found IsCommand (said r) (value_of body) (λ d. said_is r d h))

-- what a request's method, path and body ask is a command that is a value
pub request_is : (method : Method) (path body : List ℕ) (r : Route) → route_of method path ≡ Some r → IfSome (command_of r body) IsCommand
request_is method path body r at = command_is r body (subst (λ o. IfSome o HasValues) at (route_is method path))
