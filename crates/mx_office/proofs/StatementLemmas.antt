-- The lines of a purse tell how it came by its balance: each rule keeps that, and so does each event of a holder's view.
use Rattle.std.proofs.Common.{◌≡◌, ℕ, ◌+◌, true, List, [], ◌∷◌, ◌++◌, append_assoc, length, map, refl, sym, ◌∙◌, ap, Option, Some, None, option_and_then, option_map, arith}
use Rattle.std.proofs.lemmas.List.{append-nil, length-append, length-map, map-append}
use Rattle.std.specs.Prelude.{is_none}
use Rattle.std.specs.Option.{option_map_or}
use Rattle.std.specs.FinMap as fmap
use Rattle.mx_pay.specs.Names.{name_cmp}
use Rattle.mx_pay.specs.Details.{Details}
use Rattle.mx_purse.specs.Operations.{pending, aborted, lines_with, start_from_refusal, start_to_refusal, handled, after_message, load_refusal, loaded, redeem_refusal, redeemed, credit_refusal, credited}
use Rattle.mx_purse.specs.State.{State}
use Rattle.mx_purse.specs.declared.message.Handled.{Handled}
use Rattle.mx_purse.specs.declared.message.Handled.TheVariants as took
use Rattle.mx_book.specs.declared.values.Line.{Line}
use Rattle.mx_book.specs.declared.values.LineKind.TheVariants as kind
use Rattle.mx_book.specs.World.{World, Row, Holding, Name, Token, opening, new_holding, with_message}
use Rattle.mx_book.proofs.FoundLemmas.{each_inserted, none_found}
use Rattle.mx_book.proofs.MapLemmas.{get-pick}
use Rattle.mx_book.proofs.NameLemmas.{names_total, names_exact, name_itself}
use Rattle.mx_command.specs.declared.values.Command.{Command}
use Rattle.mx_command.specs.declared.values.Command.TheVariants.{Show, StartFrom, StartTo, Handle, Discard, Abort, ReadLog, Redeem, Inbox, Statement}
use Rattle.mx_command.specs.declared.values.Refusal.TheVariants.{NoSuchPurse, NoSuchMessage}
use Rattle.mx_command.specs.declared.values.Reply.TheVariants as reply
use Rattle.mx_office.specs.Isolation.{Event, Holdings, view, on_holdings, after_event, local, cut}
use Rattle.mx_office.specs.Reachable.{IsReachable}
use Rattle.mx_office.specs.Statement.{Item, item_of, balance_after, lines_from, balance_at_end, items_over, items_seen, statement_of, IsStated}
use Rattle.mx_command.specs.Commands.{Asked}
use Rattle.mx_office.specs.Step.{Deed, Asks, idle, refusal_of_start, refusal_of_redeem, in_place, listed, abort_line, message_line, payment_line, money_line, with_purse, with_aborted, with_redemption, handle_message, asks, show, start_from, start_to, handle, discard, abort, read_log, redeem, inbox, statement, loaded_holding, settled_holding, holding_for, own_holding, steps}
use Rattle.mx_office.proofs.CaseLemmas.{by_cond, by_told, by_named, by_found, by_room}
use Rattle.mx_office.proofs.LawLemmas.{run_law}
use Rattle.mx_office.proofs.OwnLemmas.{own_at}
use Rattle.mx_office.proofs.WrittenLemmas.{local_told}

-- ---- items, and more of them

lines_from-append : (n b : ℕ) (xs ys : List Item) → lines_from n b (xs ++ ys) ≡ lines_from n b xs ++ lines_from (n + length xs) (balance_at_end b xs) ys
lines_from-append n b [] ys = ap (λ k. lines_from k b ys) (omega arith)
lines_from-append n b (x ∷ xs) ys =
    let now : ℕ = balance_after b x.kind x.amount in
    let first : Line = record { number = n + 1; kind = x.kind; amount = x.amount; balance = now; note = x.note } in
    let same : (n + 1) + length xs ≡ n + length (x ∷ xs) = omega arith in
    ap (λ ls. first ∷ ls) (lines_from-append (n + 1) now xs ys ∙ ap (λ k. lines_from (n + 1) now xs ++ lines_from k (balance_at_end now xs) ys) same)

balance_at_end-append : (b : ℕ) (xs ys : List Item) → balance_at_end b (xs ++ ys) ≡ balance_at_end (balance_at_end b xs) ys
balance_at_end-append b [] ys = refl
balance_at_end-append b (x ∷ xs) ys = balance_at_end-append (balance_after b x.kind x.amount) xs ys

-- ---- what always holds of the holder's own of a purse

-- its lines are a statement, and the purse counts them
pub record IsLined (a : Holding) : Type 0 where
  pub stated : IsStated a
  pub counted : length a.lines ≡ a.purse.lines

-- no new line, and the same balance
same_lines : (a b : Holding) → b.lines ≡ a.lines → b.purse.balance ≡ a.purse.balance → b.purse.lines ≡ a.purse.lines → IsLined a → IsLined b
same_lines a b lines balance count h = record {
  stated = record {
    lines = lines ∙ h.stated.lines ∙ ap (λ ls. lines_from 0 0 (map item_of ls)) (sym lines);
    balance = balance ∙ h.stated.balance ∙ ap (λ ls. balance_at_end 0 (map item_of ls)) (sym lines);
  };
  counted = ap length lines ∙ h.counted ∙ sym count;
}

-- a new line, numbered on, with the balance that it leads to
one_line : (a b : Holding) (l : Line) → b.lines ≡ a.lines ++ l ∷ [] → l.number ≡ a.purse.lines + 1 → l.balance ≡ balance_after a.purse.balance l.kind l.amount → b.purse.balance ≡ l.balance → b.purse.lines ≡ l.number → IsLined a → IsLined b
one_line a b l lines number balance now count h =
    let xs : List Item = map item_of a.lines in
    let ys : List Item = item_of l ∷ [] in
    let items : map item_of b.lines ≡ xs ++ ys = ap (map item_of) lines ∙ map-append item_of a.lines (l ∷ []) in
    let before : a.purse.lines ≡ 0 + length xs = omega (arith, h.counted, length-map a.lines item_of) in
    let after : l.balance ≡ balance_after (balance_at_end 0 xs) l.kind l.amount = balance ∙ ap (λ n. balance_after n l.kind l.amount) h.stated.balance in
    let numbered : l.number ≡ (0 + length xs) + 1 = number ∙ ap (λ n. n + 1) before in
    let new : l ∷ [] ≡ lines_from (0 + length xs) (balance_at_end 0 xs) ys = λ i. record { number = numbered i; kind = l.kind; amount = l.amount; balance = after i; note = l.note } ∷ [] in
    record {
      stated = record {
        lines = lines ∙ (λ i. h.stated.lines i ++ new i) ∙ sym (lines_from-append 0 0 xs ys) ∙ ap (lines_from 0 0) (sym items);
        balance = now ∙ after ∙ sym (balance_at_end-append 0 xs ys) ∙ ap (balance_at_end 0) (sym items);
      };
      counted = omega (arith, h.counted, ap length lines, length-append a.lines (l ∷ []), number, count);
    }

-- ---- what each rule leaves

-- an abort has a line where something is logged, whatever else becomes of the purse but its balance
abort_lined : (a b : Holding) (o : Option Details) → b.lines ≡ a.lines ++ listed (abort_line b.purse o) → b.purse.balance ≡ a.purse.balance → b.purse.lines ≡ lines_with a.purse.lines o → IsLined a → IsLined b
abort_lined a b None lines balance count h = same_lines a b (lines ∙ append-nil a.lines) balance count h
abort_lined a b (Some d) lines balance count h = one_line a b (payment_line b.purse kind.Logged d) lines count balance refl refl h

rested_lined : (a : Holding) (q : State) → q.balance ≡ a.purse.balance → q.lines ≡ lines_with a.purse.lines (pending a.purse.status) → IsLined a → IsLined (with_aborted a q)
rested_lined a q balance count h = abort_lined a (with_aborted a q) (pending a.purse.status) refl balance count h

message_lined : (a : Holding) (x : Handled) → IsLined a → IsLined (with_purse a (after_message a.purse x) (message_line (after_message a.purse x) (pending a.purse.status) x))
message_lined a (took.Req d) h = one_line a _ (payment_line (after_message a.purse (took.Req d)) kind.Sent d) refl refl refl refl refl h
message_lined a (took.Val d) h = one_line a _ (payment_line (after_message a.purse (took.Val d)) kind.Received d) refl refl refl refl refl h
message_lined a (took.Ack d) h = same_lines a _ (append-nil a.lines) refl refl h
message_lined a took.Cleared h = abort_lined a _ (pending a.purse.status) refl refl refl h
message_lined a took.Ignored h = same_lines a _ (append-nil a.lines) refl refl h

redeem_lined : (a : Holding) (amount : ℕ) (reference : Name) → IsLined a → IsLined (with_redemption a (redeemed a.purse amount) amount reference)
redeem_lined a amount reference h =
    let rested : Holding = with_aborted a (aborted a.purse) in
    let line : Line = money_line (redeemed a.purse amount) kind.Redeemed amount reference in
    one_line rested _ line (sym (append_assoc a.lines (listed (abort_line (aborted a.purse) (pending a.purse.status))) (line ∷ []))) refl refl refl refl (rested_lined a (aborted a.purse) refl refl h)

-- a rule that is asked of a purse
abbrev EachLined : Asks → Type 0
EachLined (Asks.OnPurse p f) = (a : Holding) → IsLined a → IsLined (f a).state
EachLined x = Unit {0}

-- what a deed leaves
abbrev Lined : Deed Holding → Type 0
Lined d = IsLined d.state

each_lined : (c : Command) → EachLined (asks c)
unfolding show start_from start_to handle discard abort read_log redeem inbox statement
each_lined (Show p) = λ a h. h
each_lined (StartFrom p peer value seq) = λ a h. by_named Lined refusal_of_start a (start_from_refusal a.purse peer value) _ (λ r. h) (λ e. rested_lined a _ refl refl h)
each_lined (StartTo p peer value seq) = λ a h. by_named Lined refusal_of_start a (start_to_refusal a.purse peer) _ (λ r. h) (λ e. rested_lined a _ refl refl h)
each_lined (Handle p number) = λ a h. by_found Lined a NoSuchMessage (fmap.get a.inbox number) (handle_message a) h (λ m at. message_lined a (handled a.purse m) h)
each_lined (Discard p number) = λ a h. by_found Lined a NoSuchMessage (fmap.get a.inbox number) _ h (λ m at. same_lines a _ refl refl refl h)
each_lined (Abort p) = λ a h. rested_lined a _ refl refl h
each_lined (ReadLog p place) = λ a h. rested_lined a _ refl refl h
each_lined (Redeem p amount reference) = λ a h. by_told Lined a (idle (fmap.get a.redemptions reference) amount reply.Redeemed (option_map refusal_of_redeem (redeem_refusal a.purse amount))) _ (λ x e. h) (λ e. redeem_lined a amount reference h)
each_lined (Inbox p) = λ a h. h
each_lined (Statement p after) = λ a h. h
each_lined c = tt

load_lined : (amount : ℕ) (reference : Name) (a : Holding) → IsLined a → IsLined (loaded_holding a amount reference)
unfolding loaded_holding
load_lined amount reference a h = by_cond IsLined (is_none (load_refusal a.purse amount)) _ a (λ _. one_line a _ (money_line (loaded a.purse amount) kind.Loaded amount reference) refl refl refl refl refl h) (λ _. h)

settled_lined : (d : Details) (a : Holding) → IsLined a → IsLined (settled_holding a d)
unfolding settled_holding
settled_lined d a h = by_cond IsLined (is_none (credit_refusal a.purse d.value)) _ a (λ _. one_line a _ (payment_line (credited a.purse d.value) kind.Settled d) refl refl refl refl refl h) (λ _. h)

new_lined : (p : Name) → IsLined (new_holding p)
new_lined p = record { stated = record { lines = refl; balance = refl }; counted = refl }

-- ---- what is the holder's own of each purse

record AllLined (m : Holdings) : Type 0 where
  pub each : (p : Name) (a : Holding) → fmap.get m p ≡ Some a → IsLined a

insert_lined : (m : Holdings) (p : Name) (a : Holding) → AllLined m → IsLined a → AllLined (fmap.insert m p a)
insert_lined m p a h new = record { each = each_inserted m p a (λ q x. IsLined x) new h.each }

none_lined : AllLined fmap.empty
none_lined = record { each = λ p a at. none_found _ a (fmap.get-empty name_cmp p) at }

changed_lined : (m : Holdings) (p : Name) (f : Holding → Holding) (o : Option Holding) → fmap.get m p ≡ o → AllLined m → ((a : Holding) → IsLined a → IsLined (f a)) → AllLined (option_map_or (λ a. fmap.insert m p (f a)) o m)
changed_lined m p f None at h each = h
changed_lined m p f (Some a) at h each = insert_lined m p (f a) h (each a (h.each p a at))

asks_lined : (m : Holdings) (x : Asks) → AllLined m → EachLined x → AllLined (on_holdings m x).state
asks_lined m Asks.Names h each = h
asks_lined m (Asks.OnPurse p f) h each = by_found (λ d. AllLined d.state) m NoSuchPurse (fmap.get m p) (λ a. in_place (fmap.insert m p) (f a)) h (λ a at. insert_lined m p (f a).state h (each a (h.each p a at)))
asks_lined m Asks.NotAHolders h each = h

event_lined : (m : Holdings) (e : Event) → AllLined m → AllLined (after_event m e).end
event_lined m (Event.Own c) h = asks_lined m (asks c) h (each_lined c)
event_lined m (Event.Issued p) h = insert_lined m p (new_holding p) h (new_lined p)
event_lined m (Event.Loaded p reference amount) h = changed_lined m p (λ a. loaded_holding a amount reference) (fmap.get m p) refl h (load_lined amount reference)
event_lined m (Event.Settled p d) h = changed_lined m p (λ a. settled_holding a d) (fmap.get m p) refl h (settled_lined d)
event_lined m (Event.Put p message) h = changed_lined m p (λ a. with_message a message) (fmap.get m p) refl h (λ a h. by_room IsLined a message h (same_lines a _ refl refl refl h))

local_lined : (m : Holdings) (es : List Event) → AllLined m → AllLined (local m es).end
local_lined m [] h = h
local_lined m (e ∷ es) h = local_lined (after_event m e).end es (event_lined m e h)

-- ---- Worlds that commands lead to

-- nothing is cut out of a World that has nothing
cut-opening : (t : Token) (h : Name) → cut (opening t) h ≡ fmap.empty
cut-opening t h = fmap.same_map names_total names_exact _ _ (λ q.
    get-pick names_total (holding_for h) fmap.empty q ∙ ap (option_and_then (holding_for h)) (fmap.get-empty name_cmp q) ∙ sym (fmap.get-empty name_cmp q))

-- what is a holder's own of a purse is what the holder's view gives
module _ (t : Token) (list : List Asked) (h p : Name) (a : Holding) (own : own_holding (steps (opening t) list).end h p ≡ Some a) where
  abbrev events : List Event
  events = view h (opening t) list

  seen_holding : fmap.get (local fmap.empty events).end p ≡ Some a
  seen_holding =
      ap (λ m. fmap.get (local m events).end p) (sym (cut-opening t h))
      ∙ ap (λ c. fmap.get c.end p) (run_law (opening t) h list)
      ∙ get-pick names_total (holding_for h) (steps (opening t) list).end.rows p
      ∙ own

  pub own_stated : IsStated a
  own_stated = ((local_lined fmap.empty events none_lined).each p a seen_holding).stated

  items_are : items_seen events p ≡ map item_of a.lines
  items_are =
      let lines_of = λ (o : Option Holding). option_map_or (λ (x : Holding). map item_of x.lines) o [] in
      ap (λ xs. items_over fmap.empty events p xs) (ap lines_of (sym (fmap.get-empty name_cmp p)))
      ∙ sym (local_told fmap.empty events p) ∙ ap lines_of seen_holding

  pub seen_stated : (a.lines ≡ statement_of events p) × (a.purse.balance ≡ balance_at_end 0 (items_seen events p))
  seen_stated = (own_stated.lines ∙ ap (lines_from 0 0) (sym items_are), own_stated.balance ∙ ap (balance_at_end 0) (sym items_are))

pub reachable_stated : (w : World) (p : Name) (r : Row) → IsReachable w → fmap.get w.rows p ≡ Some r → IsStated r.holding
reachable_stated w p r is at =
    own_stated is.operator is.commands r.holder p r.holding (ap (λ x. own_holding x r.holder p) is.leads ∙ own_at w r.holder p r true at (name_itself r.holder))
