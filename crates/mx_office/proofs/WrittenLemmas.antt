-- What is written on the statement of a purse, by what happens, is what its lines tell.
use Rattle.std.proofs.Common.{◌≡◌, ℕ, Bool, true, false, cond, List, [], ◌∷◌, ◌++◌, map, refl, sym, ◌∙◌, ap, Option, Some, None, option_map}
use Rattle.std.proofs.lemmas.List.{append-nil, map-append}
use Rattle.std.specs.Prelude.{is_none}
use Rattle.std.specs.Option.{option_map_or}
use Rattle.std.specs.FinMap as fmap
use Rattle.mx_pay.specs.Names.{is_name}
use Rattle.mx_pay.specs.Details.{Details}
use Rattle.mx_purse.specs.Operations.{pending, aborted, start_from_refusal, start_to_refusal, started, from_details, to_details, handled, after_message, load_refusal, loaded, credited, redeem_refusal, redeemed, credit_refusal}
use Rattle.mx_purse.specs.State.{State}
use Rattle.mx_purse.specs.declared.message.Handled.{Handled}
use Rattle.mx_purse.specs.declared.message.Handled.TheVariants as took
use Rattle.mx_purse.specs.declared.message.Message.{Message}
use Rattle.mx_purse.specs.declared.status.Status.TheVariants.{Epr, Epv}
use Rattle.mx_purse.specs.declared.refusals.StartRefusal.{StartRefusal}
use Rattle.mx_book.specs.declared.values.LineKind.TheVariants as kind
use Rattle.mx_book.specs.World.{Holding, Name, new_holding, with_message}
use Rattle.mx_book.proofs.NameLemmas.{names_total, same_name}
use Rattle.mx_command.specs.declared.values.Command.{Command}
use Rattle.mx_command.specs.declared.values.Command.TheVariants.{Show, StartFrom, StartTo, Handle, Discard, Abort, ReadLog, Redeem, Inbox, Statement}
use Rattle.mx_command.specs.declared.values.Refusal.TheVariants.{NoSuchPurse, NoSuchMessage}
use Rattle.mx_command.specs.declared.values.Reply.{Reply}
use Rattle.mx_command.specs.declared.values.Reply.TheVariants as reply
use Rattle.mx_office.specs.Isolation.{Event, Holdings, on_holdings, after_event, local}
use Rattle.mx_office.specs.Statement.{Item, item_of, items_in, payment_item, money_item, abort_items, message_items, command_items, asked_items, items_after, items_over}
use Rattle.mx_office.specs.Step.{Deed, Asks, idle, refusal_of_start, refusal_of_redeem, unless, unless_told, on_found, in_place, listed, abort_line, message_line, money_line, payment_line, with_purse, with_aborted, with_redemption, handle_message, asks, show, start_from, start_to, handle, discard, abort, read_log, redeem, inbox, statement, loaded_holding, settled_holding}
use Rattle.mx_office.proofs.CaseLemmas.{by_room}

-- what the lines of a purse tell
abbrev told : Holding → List Item
told a = map item_of a.lines

nothing_told : (a : Holding) → told a ≡ told a ++ []
nothing_told a = sym (append-nil (told a))

-- ---- what each rule tells

aborts : (q : State) (o : Option Details) → map item_of (listed (abort_line q o)) ≡ map (payment_item kind.Logged) (listed o)
aborts q None = refl
aborts q (Some d) = refl

abort_told : (a : Holding) (q : State) → told (with_aborted a q) ≡ told a ++ abort_items a.purse
abort_told a q = map-append item_of a.lines (listed (abort_line q (pending a.purse.status))) ∙ ap (λ xs. told a ++ xs) (aborts q (pending a.purse.status))

messages : (a : Holding) (q : State) (x : Handled) → map item_of (listed (message_line q (pending a.purse.status) x)) ≡ message_items a.purse x
messages a q (took.Req d) = refl
messages a q (took.Val d) = refl
messages a q took.Cleared = aborts q (pending a.purse.status)
messages a q (took.Ack d) = refl
messages a q took.Ignored = refl

message_told : (a : Holding) (q : State) (x : Handled) → told (with_purse a q (message_line q (pending a.purse.status) x)) ≡ told a ++ message_items a.purse x
message_told a q x = map-append item_of a.lines (listed (message_line q (pending a.purse.status) x)) ∙ ap (λ xs. told a ++ xs) (messages a q x)

redemption_told : (a : Holding) (amount : ℕ) (reference : Name)
    → told (with_redemption a (redeemed a.purse amount) amount reference) ≡ told a ++ (abort_items a.purse ++ money_item kind.Redeemed amount reference ∷ [])
redemption_told a amount reference =
    let logged = listed (abort_line (aborted a.purse) (pending a.purse.status)) in
    let line = money_line (redeemed a.purse amount) kind.Redeemed amount reference in
    map-append item_of a.lines (logged ++ line ∷ [])
    ∙ ap (λ xs. told a ++ xs) (map-append item_of logged (line ∷ []) ∙ ap (λ xs. xs ++ item_of line ∷ []) (aborts (aborted a.purse) (pending a.purse.status)))

-- a start that is refused tells nothing
start_told : (a : Holding) (o : Option StartRefusal) (d : Deed Holding) → told d.state ≡ told a ++ abort_items a.purse
    → told (unless a (option_map refusal_of_start o) d).state ≡ told a ++ cond (is_none o) (abort_items a.purse) []
start_told a None d done = done
start_told a (Some r) d done = nothing_told a

-- nor does what changes nothing
unchanged_told : (a : Holding) (o : Option Reply) (d : Deed Holding) (xs : List Item) → told d.state ≡ told a ++ xs → told (unless_told a o d).state ≡ told a ++ cond (is_none o) xs []
unchanged_told a None d xs done = done
unchanged_told a (Some r) d xs done = nothing_told a

handle_told : (a : Holding) (o : Option Message) → told (on_found a NoSuchMessage o (handle_message a)).state ≡ told a ++ option_map_or (λ m. message_items a.purse (handled a.purse m)) o []
handle_told a None = nothing_told a
handle_told a (Some m) = message_told a (after_message a.purse (handled a.purse m)) (handled a.purse m)

found_told : (a : Holding) (o : Option Message) (f : Message → Deed Holding) → ((m : Message) → (f m).state.lines ≡ a.lines) → told (on_found a NoSuchMessage o f).state ≡ told a ++ []
found_told a None f same = nothing_told a
found_told a (Some m) f same = ap (map item_of) (same m) ∙ nothing_told a

-- a rule that is asked of a purse
abbrev EachTold : Command → Asks → Type 0
EachTold c (Asks.OnPurse p f) = (a : Holding) → told (f a).state ≡ told a ++ command_items c a
EachTold c x = Unit {0}

each_told : (c : Command) → EachTold c (asks c)
unfolding show start_from start_to handle discard abort read_log redeem inbox statement
each_told (Show p) = nothing_told
each_told (StartFrom p peer value seq) = λ a. start_told a (start_from_refusal a.purse peer value) _ (abort_told a (started a.purse (Epr (from_details a.purse peer value seq))))
each_told (StartTo p peer value seq) = λ a. start_told a (start_to_refusal a.purse peer) _ (abort_told a (started a.purse (Epv (to_details a.purse peer value seq))))
each_told (Handle p number) = λ a. handle_told a (fmap.get a.inbox number)
each_told (Discard p number) = λ a. found_told a (fmap.get a.inbox number) _ (λ m. refl)
each_told (Abort p) = λ a. abort_told a (aborted a.purse)
each_told (ReadLog p place) = λ a. abort_told a (aborted a.purse)
each_told (Redeem p amount reference) = λ a.
    unchanged_told a (idle (fmap.get a.redemptions reference) amount reply.Redeemed (option_map refusal_of_redeem (redeem_refusal a.purse amount))) _ _ (redemption_told a amount reference)
each_told (Inbox p) = nothing_told
each_told (Statement p after) = nothing_told
each_told c = tt

told_where : (b : Bool) (x a : Holding) (xs : List Item) → told x ≡ told a ++ xs → told (cond b x a) ≡ told a ++ cond b xs []
told_where true x a xs done = done
told_where false x a xs done = nothing_told a

loading_told : (amount : ℕ) (reference : Name) (a : Holding) → told (loaded_holding a amount reference) ≡ told a ++ cond (is_none (load_refusal a.purse amount)) (money_item kind.Loaded amount reference ∷ []) []
unfolding loaded_holding
loading_told amount reference a = told_where (is_none (load_refusal a.purse amount)) _ a _ (map-append item_of a.lines (money_line (loaded a.purse amount) kind.Loaded amount reference ∷ []))

settled_told : (d : Details) (a : Holding) → told (settled_holding a d) ≡ told a ++ cond (is_none (credit_refusal a.purse d.value)) (payment_item kind.Settled d ∷ []) []
unfolding settled_holding
settled_told d a = told_where (is_none (credit_refusal a.purse d.value)) _ a _ (map-append item_of a.lines (payment_line (credited a.purse d.value) kind.Settled d ∷ []))

-- ---- what each event tells

-- what is told of a purse that may be there
abbrev told_of : Option Holding → List Item
told_of o = option_map_or told o []

none_told : (o : Option Holding) → ◌≡◌ {A = List Item} (option_map_or (λ (a : Holding). []) o []) []
none_told None = refl
none_told (Some a) = refl

module _ (m : Holdings) (q p : Name) where
  inserted : (b : Bool) (x : Holding) → is_name p q ≡ b → items_in (fmap.insert m q x) p ≡ cond b (told x) (items_in m p)
  inserted true x is = ap told_of (fmap.get-insert names_total m q x p) ∙ ap (λ b. told_of (cond b (Some x) (fmap.get m p))) is
  inserted false x is = ap told_of (fmap.get-insert names_total m q x p) ∙ ap (λ b. told_of (cond b (Some x) (fmap.get m p))) is

  -- a purse that is changed, and what that tells
  module _ (change : Holding → Holding) (tells : Holding → List Item) (each : (a : Holding) → told (change a) ≡ told a ++ tells a) where
    another : (o : Option Holding) → told_of o ≡ told_of o ++ option_map_or (λ a. cond false (tells a) []) o []
    another o = sym (append-nil (told_of o)) ∙ ap (λ xs. told_of o ++ xs) (sym (none_told o))

    by_cases : (o : Option Holding) (b : Bool) → fmap.get m q ≡ o → is_name p q ≡ b
        → items_in (option_map_or (λ a. fmap.insert m q (change a)) o m) p ≡ items_in m p ++ option_map_or (λ a. cond b (tells a) []) (fmap.get m p) []
    by_cases None false at is = another (fmap.get m p)
    by_cases (Some a) false at is = inserted false (change a) is ∙ another (fmap.get m p)
    by_cases None true at is =
        let here = ap (fmap.get m) (same_name p q is) ∙ at in
        ap told_of here ∙ ap (λ o. told_of o ++ option_map_or tells o []) (sym here)
    by_cases (Some a) true at is =
        let here = ap (fmap.get m) (same_name p q is) ∙ at in
        inserted true (change a) is ∙ each a ∙ ap (λ o. told_of o ++ option_map_or tells o []) (sym here)

    changed_told : items_in (option_map_or (λ a. fmap.insert m q (change a)) (fmap.get m q) m) p ≡ items_in m p ++ option_map_or (λ a. cond (is_name p q) (tells a) []) (fmap.get m p) []
    changed_told = by_cases (fmap.get m q) (is_name p q) refl refl

-- what is done with a purse that is found changes it
found_changes : (m : Holdings) (q : Name) (f : Holding → Deed Holding) (o : Option Holding)
    → (on_found m NoSuchPurse o (λ a. in_place (fmap.insert m q) (f a))).state ≡ option_map_or (λ a. fmap.insert m q (f a).state) o m
found_changes m q f None = refl
found_changes m q f (Some a) = refl

asked_told : (m : Holdings) (p : Name) (c : Command) (x : Asks) → EachTold c x → items_in (on_holdings m x).state p ≡ items_in m p ++ option_map_or (asked_items c x p) (fmap.get m p) []
asked_told m p c Asks.Names each = sym (append-nil (items_in m p)) ∙ ap (λ xs. items_in m p ++ xs) (sym (none_told (fmap.get m p)))
asked_told m p c (Asks.OnPurse q f) each =
    ap (λ h. items_in h p) (found_changes m q f (fmap.get m q)) ∙ changed_told m q p (λ a. (f a).state) (command_items c) each
asked_told m p c Asks.NotAHolders each = sym (append-nil (items_in m p)) ∙ ap (λ xs. items_in m p ++ xs) (sym (none_told (fmap.get m p)))

same_tells : (b : Bool) (o : Option Holding) → ◌≡◌ {A = List Item} (option_map_or (λ (a : Holding). cond b [] []) o []) (option_map_or (λ a. []) o [])
same_tells true o = refl
same_tells false o = refl

event_told : (m : Holdings) (e : Event) (p : Name) → items_in (after_event m e).end p ≡ items_after m e p (items_in m p)
event_told m (Event.Own c) p = asked_told m p c (asks c) (each_told c)
event_told m (Event.Issued q) p = inserted m q p (is_name p q) (new_holding q) refl
event_told m (Event.Loaded q reference amount) p = changed_told m q p (λ a. loaded_holding a amount reference) _ (loading_told amount reference)
event_told m (Event.Settled q d) p = changed_told m q p (λ a. settled_holding a d) _ (settled_told d)
event_told m (Event.Put q message) p =
    changed_told m q p (λ a. with_message a message) (λ a. []) (λ a. by_room (λ x. told x ≡ told a ++ []) a message (nothing_told a) (nothing_told a))
    ∙ ap (λ xs. items_in m p ++ xs) (same_tells (is_name p q) (fmap.get m p))

-- what is written over a view is what the lines tell in the end
pub local_told : (m : Holdings) (es : List Event) (p : Name) → items_in (local m es).end p ≡ items_over m es p (items_in m p)
local_told m [] p = refl
local_told m (e ∷ es) p = local_told (after_event m e).end es p ∙ ap (items_over (after_event m e).end es p) (event_told m e p)
