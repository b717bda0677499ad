-- The statement of a purse: lines with running numbers and balances.
use Rattle.std.specs.Prelude.{◌≡◌, ℕ, ◌+◌, ◌-◌, if◌then◌else◌, is_none, List, [], ◌∷◌, ◌++◌, map, option_map}
use Rattle.std.specs.Option.{option_map_or}
use Rattle.std.specs.FinMap as fmap
use Rattle.mx_pay.specs.Details.{Details}
use Rattle.mx_pay.specs.Names.{is_name}
use Rattle.mx_purse.specs.Operations.{credit_refusal, handled, load_refusal, pending, redeem_refusal, start_from_refusal, start_to_refusal}
use Rattle.mx_purse.specs.State.{State}
use Rattle.mx_purse.specs.declared.message.Handled.{Handled}
use Rattle.mx_purse.specs.declared.message.Handled.TheVariants as took
use Rattle.mx_book.specs.declared.values.Line.{Line}
use Rattle.mx_book.specs.declared.values.LineKind.{LineKind}
use Rattle.mx_book.specs.declared.values.LineKind.TheVariants.{Loaded, Redeemed, Sent, Received, Logged, Settled}
use Rattle.mx_book.specs.declared.values.Note.{Note}
use Rattle.mx_book.specs.declared.values.Note.TheVariants as note
use Rattle.mx_book.specs.World.{Holding, Name}
use Rattle.mx_office.specs.Isolation.{Event, Holdings, after_event}
use Rattle.mx_office.specs.Step.{Asks, asks, idle, listed, refusal_of_redeem}
use Rattle.mx_command.specs.declared.values.Command.{Command}
use Rattle.mx_command.specs.declared.values.Command.TheVariants.{StartFrom, StartTo, Handle, Abort, ReadLog, Redeem}
use Rattle.mx_command.specs.declared.values.Reply.TheVariants as reply

-- what a line tells, but for its number and its balance
pub record Item : Type 0 where
  pub kind : LineKind
  pub amount : ℕ
  pub note : Note

abbrev pub item_of : Line → Item
item_of l = record { kind = l.kind; amount = l.amount; note = l.note }

-- the balance after an item: loaded, received and settled are gain, sent and redeemed are loss
abbrev pub balance_after : ℕ → LineKind → ℕ → ℕ
balance_after b Loaded amount = b + amount
balance_after b Received amount = b + amount
balance_after b Settled amount = b + amount
balance_after b Sent amount = b - amount
balance_after b Redeemed amount = b - amount
balance_after b Logged amount = b

-- the lines of items, after n lines and at the balance b
abbrev pub lines_from : ℕ → ℕ → List Item → List Line
lines_from n b [] = []
lines_from n b (x ∷ xs) =
    let now = balance_after b x.kind x.amount in
    record { number = n + 1; kind = x.kind; amount = x.amount; balance = now; note = x.note } ∷ lines_from (n + 1) now xs

-- the balance after the last of items, which begin at the balance b
abbrev pub balance_at_end : ℕ → List Item → ℕ
balance_at_end b [] = b
balance_at_end b (x ∷ xs) = balance_at_end (balance_after b x.kind x.amount) xs

-- what the lines of a purse tell, from the first
abbrev pub items_in : Holdings → Name → List Item
items_in m p = option_map_or (λ (a : Holding). map item_of a.lines) (fmap.get m p) []

-- ---- what is written, by what happens

-- what is told of a payment, and of a load or a redemption
abbrev pub payment_item : LineKind → Details → Item
payment_item kind d = record { kind = kind; amount = d.value; note = note.Details d }

abbrev pub money_item : LineKind → ℕ → Name → Item
money_item kind amount reference = record { kind = kind; amount = amount; note = note.Reference reference }

-- an abort tells of the payment that it logs
abbrev pub abort_items : State → List Item
abort_items q = map (payment_item Logged) (listed (pending q.status))

-- an accepted req is sent, an accepted val is received, and a clear begins with an abort
abbrev pub message_items : State → Handled → List Item
message_items q (took.Req d) = payment_item Sent d ∷ []
message_items q (took.Val d) = payment_item Received d ∷ []
message_items q took.Cleared = abort_items q
message_items q _ = []

-- a command on a purse that is now so
abbrev pub command_items : Command → Holding → List Item
command_items (StartFrom p peer value seq) a = if is_none (start_from_refusal a.purse peer value) then abort_items a.purse else []
command_items (StartTo p peer value seq) a = if is_none (start_to_refusal a.purse peer) then abort_items a.purse else []
command_items (Handle p number) a = option_map_or (λ m. message_items a.purse (handled a.purse m)) (fmap.get a.inbox number) []
command_items (Abort p) a = abort_items a.purse
command_items (ReadLog p place) a = abort_items a.purse
command_items (Redeem p amount reference) a =
    if is_none (idle (fmap.get a.redemptions reference) amount reply.Redeemed (option_map refusal_of_redeem (redeem_refusal a.purse amount)))
    then abort_items a.purse ++ money_item Redeemed amount reference ∷ [] else []
command_items command a = []

-- what is asked of the purse p, which is now so
abbrev pub asked_items : Command → Asks → Name → Holding → List Item
asked_items command (Asks.OnPurse q f) p a = if is_name p q then command_items command a else []
asked_items command asked p a = []

-- an event, to the purse p that is now so
abbrev pub event_items : Event → Name → Holding → List Item
event_items (Event.Own command) p a = asked_items command (asks command) p a
event_items (Event.Loaded q reference amount) p a =
    if is_name p q then (if is_none (load_refusal a.purse amount) then money_item Loaded amount reference ∷ [] else []) else []
event_items (Event.Settled q d) p a =
    if is_name p q then (if is_none (credit_refusal a.purse d.value) then payment_item Settled d ∷ [] else []) else []
event_items e p a = []

-- what is written on the statement of a purse after an event: a purse that is issued begins a new one
abbrev pub items_after : Holdings → Event → Name → List Item → List Item
items_after m (Event.Issued q) p items = if is_name p q then [] else items
items_after m e p items = items ++ option_map_or (event_items e p) (fmap.get m p) []

-- and after events, in order
abbrev pub items_over : Holdings → List Event → Name → List Item → List Item
items_over m [] p items = items
items_over m (e ∷ es) p items = items_over (after_event m e).end es p (items_after m e p items)

-- what a holder's view alone writes on the statement of a purse
abbrev pub items_seen : List Event → Name → List Item
items_seen view p = items_over fmap.empty view p []

-- the statement of a purse over a view: what the view writes, numbered from 1, each with the sum so far
abbrev pub statement_of : List Event → Name → List Line
statement_of view p = lines_from 0 0 (items_seen view p)

-- the lines of a purse are a statement of what they tell, and its balance is that of the last of them, 0 where there is
-- none
pub record IsStated (a : Holding) : Type 0 where
  pub lines : a.lines ≡ lines_from 0 0 (map item_of a.lines)
  pub balance : a.purse.balance ≡ balance_at_end 0 (map item_of a.lines)
