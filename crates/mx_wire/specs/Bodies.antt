-- What a body says: one JSON object with the keys that the route needs, each with a value of its kind and range.
-- Other keys don't count, and of a key that stands twice the value that serde_json's map keeps does, the last.
use Rattle.std.specs.Prelude.{ℕ, List, [], ◌∷◌, Bool, if◌then◌else◌, nat_le, Option, Some, None, is_none, option_and_then, option_map, codes}
use Rattle.std.specs.Str.{is_utf8}
use Rattle.serde_json.specs.Data.{Data}
use Rattle.serde_json.specs.Read.{read}
use Rattle.serde_json.specs.Find.{get, as_str, as_number, as_u64}
use Rattle.mx_pay.specs.Limits.{most_amount, most_number, most_entries}
use Rattle.mx_pay.specs.Details.{Details}
use Rattle.mx_pay.specs.Log.{Entries, none_logged}
use Rattle.mx_pay.specs.Reading.{entry_of, entries_of}
use Rattle.mx_pay.specs.Tokens.{token_of}
use Rattle.mx_command.specs.declared.values.Command.{Command}
use Rattle.mx_command.specs.declared.values.Command.TheVariants as command
use Rattle.mx_wire.specs.declared.routes.Method.{Method}
use Rattle.mx_wire.specs.declared.routes.Route.{Route}
use Rattle.mx_wire.specs.declared.routes.Route.TheVariants as route
use Rattle.mx_wire.specs.Routes.{name_of, route_of}

-- the text, the name and the token of that key
abbrev pub text_at : List ℕ → Data → Option (List ℕ)
text_at key d = option_and_then as_str (get key d)

abbrev pub name_at : List ℕ → Data → Option (List ℕ)
name_at key d = option_and_then name_of (text_at key d)

abbrev pub token_at : List ℕ → Data → Option (List ℕ)
token_at key d = option_and_then token_of (text_at key d)

-- a number up to a limit
abbrev pub at_most : ℕ → ℕ → Option ℕ
at_most most n = if nat_le n most then Some n else None

-- the number, the amount and the sequence number of that key
abbrev pub number_at : List ℕ → Data → Option ℕ
number_at key d = option_and_then as_u64 (option_and_then as_number (get key d))

abbrev pub amount_at : List ℕ → Data → Option ℕ
amount_at key d = option_and_then (at_most most_amount) (number_at key d)

abbrev pub seq_at : List ℕ → Data → Option ℕ
seq_at key d = option_and_then (at_most most_number) (number_at key d)

-- the log that has a text as its code text: the empty one has the empty text
abbrev pub log_of_code : List ℕ → Option Entries
log_of_code [] = Some none_logged
log_of_code (b ∷ bs) = entries_of most_entries (b ∷ bs) none_logged

-- the log of that key
abbrev pub log_at : List ℕ → Data → Option Entries
log_at key d = option_and_then log_of_code (text_at key d)

-- the details of that key: its text is the code text of one entry
abbrev pub details_at : List ℕ → Data → Option Details
details_at key d = option_and_then entry_of (text_at key d)

-- the command of a route that needs no body
abbrev pub bare : Route → Option Command
bare route.Collect = Some command.Collect
bare (route.Archive p) = Some (command.Archive p)
bare route.Purses = Some command.Purses
bare (route.Show p) = Some (command.Show p)
bare (route.Abort p) = Some (command.Abort p)
bare (route.Inbox p) = Some (command.Inbox p)
bare (route.Statement p after) = Some (command.Statement p after)
bare route.Reconcile = Some command.Reconcile
bare _ = None

-- a command of two values, where both are there, and of three
abbrev pub of_two : {A B : Type 0} → Option A → Option B → (A → B → Command) → Option Command
of_two a b make = option_and_then (λ x. option_map (make x) b) a

abbrev pub of_three : {A B C : Type 0} → Option A → Option B → Option C → (A → B → C → Command) → Option Command
of_three a b c make = option_and_then (λ x. of_two b c (make x)) a

-- the command that a route and a JSON value say
abbrev pub said : Route → Data → Option Command
said route.NewMember d = of_two (name_at (codes "member") d) (token_at (codes "token") d) command.NewMember
said (route.Grant m) d = option_map (command.Grant m) (amount_at (codes "amount") d)
said (route.Clear p) d = option_map (command.Clear p) (log_at (codes "details") d)
said route.Settle d = option_map command.Settle (details_at (codes "details") d)
said route.NewHolder d = of_two (name_at (codes "holder") d) (token_at (codes "token") d) command.NewHolder
said route.NewPurse d = of_two (name_at (codes "purse") d) (name_at (codes "holder") d) command.NewPurse
said (route.Load p) d = of_two (amount_at (codes "amount") d) (name_at (codes "ref") d) (command.Load p)
said (route.StartFrom p) d = of_three (name_at (codes "peer") d) (amount_at (codes "value") d)
    (seq_at (codes "seq") d) (command.StartFrom p)
said (route.StartTo p) d = of_three (name_at (codes "peer") d) (amount_at (codes "value") d)
    (seq_at (codes "seq") d) (command.StartTo p)
said (route.Handle p) d = option_map (command.Handle p) (seq_at (codes "number") d)
said (route.Discard p) d = option_map (command.Discard p) (seq_at (codes "number") d)
said (route.ReadLog p) d = option_map (command.ReadLog p) (number_at (codes "place") d)
said (route.Redeem p) d = of_two (amount_at (codes "amount") d) (name_at (codes "ref") d)
    (command.Redeem p)
said r d = None

-- the JSON value of a body, which has to be UTF-8
abbrev pub value_of : List ℕ → Option Data
value_of body = if is_utf8 body then read body else None

-- whether a route's command is said by a body
abbrev pub has_body : Route → Bool
has_body r = is_none (bare r)

-- a command that is there without a body, or that the body says
abbrev pub bare_or : Option Command → Option Command → Option Command
bare_or (Some c) o = Some c
bare_or None o = o

-- the command of a route and a body; a body that isn't needed isn't looked at
unfoldable pub command_of : Route → List ℕ → Option Command
command_of r body = bare_or (bare r) (option_and_then (said r) (value_of body))

-- the command of a request's method, path and body
abbrev pub request_command : Method → List ℕ → List ℕ → Option Command
request_command method path body = option_and_then (λ asked. command_of asked body) (route_of method path)
