-- The World: everything that the office keeps.
use Rattle.std.specs.Prelude.{ℕ, ◌+◌, nat_lt, ◌&&◌, not, Bool, if◌then◌else◌, List, [], ◌∷◌, Option, Some, None}
use Rattle.std.specs.Ordering.{nat_cmp}
use Rattle.std.specs.FinMap as fmap
use Rattle.std.specs.FinSet.{FinSet}
use Rattle.mx_book.specs.Limits.{most_messages}
use Rattle.mx_pay.specs.Limits.{most_number}
use Rattle.mx_pay.specs.Names.{name_cmp, is_name}
use Rattle.mx_pay.specs.Tokens.{token_cmp}
use Rattle.mx_pay.specs.Details.{Details, details_cmp}
use Rattle.mx_pay.specs.Log.{Entries}
use Rattle.mx_purse.specs.State.{State, new_purse}
use Rattle.mx_purse.specs.declared.message.Message.{Message}
use Rattle.mx_book.specs.declared.values.Caller.{Caller}
use Rattle.mx_book.specs.declared.values.Line.{Line}
use Rattle.mx_book.specs.declared.values.MemberRow.{MemberRow}
use Rattle.mx_book.specs.Maps.{pick}
use Rattle.mx_book.specs.Under.{pair_cmp, remake}

-- a name is the list of its bytes
abbrev pub Name : Type 0
Name = List ℕ

-- a token is the list of its bytes
abbrev pub Token : Type 0
Token = List ℕ

-- the order of results of read log: by purse, and then by details
abbrev pub result_cmp : Name × Details → Name × Details → Rattle.std.specs.declared.cmp.Ordering.Ordering
result_cmp = pair_cmp name_cmp details_cmp

-- what is a holder's own of a purse: the purse, its messages by number, the number of the next message, its
-- lines in order, and the amounts of its redemptions by reference
pub record Holding : Type 0 where
  pub purse : State
  pub inbox : fmap.FinMap nat_cmp Message
  pub next_message : ℕ
  pub lines : List Line
  pub redemptions : fmap.FinMap name_cmp ℕ

-- what the office keeps of a purse: its holder, the holder's own, the amounts of its loads by reference, and
-- the references of the redemptions that are collected
pub record Row : Type 0 where
  pub holder : Name
  pub holding : Holding
  pub loads : fmap.FinMap name_cmp ℕ
  pub collected : FinSet name_cmp

-- everything that the office keeps
pub record World : Type 0 where
  -- the operator's token
  pub operator : Token
  -- the tokens of the clerks and the holders
  pub tokens : fmap.FinMap token_cmp Caller
  pub members : fmap.FinMap name_cmp MemberRow
  -- each holder's member
  pub holders : fmap.FinMap name_cmp Name
  -- the row of each purse
  pub rows : fmap.FinMap name_cmp Row
  -- the results of read log that were sent and aren't archived
  pub tray : FinSet result_cmp
  -- those that are archived
  pub archive : FinSet result_cmp
  -- the details of the payments whose lost value was given back
  pub settled : Entries

-- a World that has nothing but an operator's token
abbrev pub opening : Token → World
opening t = record { operator = t; tokens = fmap.empty; members = fmap.empty; holders = fmap.empty; rows = fmap.empty; tray = fmap.empty; archive = fmap.empty; settled = fmap.empty }

-- what is a holder's own of a new purse
abbrev pub new_holding : Name → Holding
new_holding name = record { purse = new_purse name; inbox = fmap.empty; next_message = 0; lines = []; redemptions = fmap.empty }

-- the row of a new purse
abbrev pub new_row : Name → Name → Row
new_row holder name = record { holder = holder; holding = new_holding name; loads = fmap.empty; collected = fmap.empty }

-- whether a message finds a place in the inbox of an account
unfoldable pub has_room : Holding → Bool
has_room a = nat_lt (fmap.len a.inbox) most_messages && nat_lt a.next_message most_number

-- an account with a message under its next number, which rises by one
abbrev pub delivered : Holding → Message → Holding
delivered a m = record a { inbox = fmap.insert a.inbox a.next_message m; next_message = a.next_message + 1 }

-- an account with a message, where it finds a place
abbrev pub with_message : Holding → Message → Holding
with_message a m = if has_room a then delivered a m else a

-- a World with this row of a purse
abbrev pub set_row : World → Name → Row → World
set_row w p r = record w { rows = fmap.insert w.rows p r }

-- a World with another row of a purse, which had that row or none
abbrev pub changed_row : World → Name → (Row → Row) → Option Row → World
changed_row w p f None = w
changed_row w p f (Some r) = set_row w p (f r)

-- the row of a purse is changed, where the purse is there
abbrev pub change_row : World → Name → (Row → Row) → World
change_row w p f = changed_row w p f (fmap.get w.rows p)

-- what is the holder's own of a purse is changed, where the purse is there
abbrev pub change_holding : World → Name → (Holding → Holding) → World
change_holding w p f = change_row w p (λ r. record r { holding = f r.holding })

-- a message for a purse: it comes into the inbox, or it vanishes where no such purse is there and where it
-- finds no place
abbrev pub put : World → Name → Message → World
put w p m = change_holding w p (λ a. with_message a m)

-- whether the member of a holder, if there is one, is m
abbrev pub is_of : Name → Option Name → Bool
is_of m None = Bool.false
is_of m (Some member) = is_name m member

-- whether the purse of a row is of a holder of the member m
abbrev pub is_of_member : World → Name → Row → Bool
is_of_member w m r = is_of m (fmap.get w.holders r.holder)

-- a row with all its redemptions collected
abbrev pub with_collected : Row → Row
with_collected r = record r { collected = pick (λ amount. Some tt) r.holding.redemptions }

-- a World in which all redemptions of the member's purses are collected
abbrev pub all_collected : World → Name → World
all_collected w m = record w { rows = remake (λ p r. if is_of_member w m r then with_collected r else r) w.rows }

-- the results of one purse, and all others
abbrev pub results_of : Name → FinSet result_cmp → FinSet result_cmp
results_of p results = fmap.retain_keys results (λ result. is_name p result.0)

abbrev pub results_but : Name → FinSet result_cmp → FinSet result_cmp
results_but p results = fmap.retain_keys results (λ result. not (is_name p result.0))

-- results with more of them
abbrev pub and_results : FinSet result_cmp → List (Name × Details) → FinSet result_cmp
and_results results [] = results
and_results results (k ∷ ks) = fmap.insert (and_results results ks) k tt

-- a World in which what was in the tray of a purse is archived
abbrev pub with_archived : World → Name → World
with_archived w p = record w { tray = results_but p w.tray; archive = and_results w.archive (fmap.keys (results_of p w.tray)) }
