-- The texts that are kept: they are UTF-8, and a token is read from its own.
use Rattle.std.proofs.Common.{◌≡◌, ℕ, Bool, not, ◌^◌, ◌<◌, ◌≤◌, true, List, [], ◌∷◌, ◌++◌, refl, arith, zero, suc, ap, Some}
use Rattle.std.specs.Prelude.{IsAscii, IsUtf8, decimal, nat_lt}
use Rattle.std.specs.List.{list_all}
use Rattle.std.specs.Option.{IfSome}
use Rattle.std.proofs.lemmas.Str.{IsAscii-append, IsUtf8-from_ascii}
use Rattle.std.proofs.lemmas.Str.Ascii.{IsAscii-nil, IsAscii-cons}
use Rattle.std.proofs.lemmas.Fmt.{IsAscii-decimal}
use Rattle.sqlite_value.specs.declared.value.Value.{Value}
use Rattle.sqlite_value.specs.declared.value.Value.TheVariants.{Text}
use Rattle.mx_pay.specs.Codes.{entry_text, entry_texts, code}
use Rattle.mx_pay.specs.Details.{Details, IsDetails}
use Rattle.mx_pay.specs.Names.{is_name_text}
use Rattle.mx_pay.proofs.Texts.{IsAscii-name}
use Rattle.std.specs.List.{AllByRecursion}
use Rattle.std.specs.Cmp.{first_so, second_so}
use Rattle.std.proofs.lemmas.Bool.{ltb-true}
use Rattle.mx_pay.specs.Log.{Entries, IsLogValue, logged}
use Rattle.mx_pay.proofs.SameLemmas.{logged_each}
use Rattle.mx_pay.proofs.TokenLemmas.{IsAscii-encode_lower}
use Rattle.hex.specs.Hex.{encode_lower}
use Rattle.hex.proofs.HexLemmas.{decode_sized-encode_lower}
use Rattle.std.specs.Result.{result_ok}
use Rattle.mx_pay.specs.Limits.{token_bytes}
use Rattle.mx_pay.specs.Tokens.{token_of, IsToken}
use Rattle.mx_book.specs.World.{Token}
use Rattle.mx_purse.specs.State.{details_of}
use Rattle.mx_purse.specs.Messages.{IsMessage}
use Rattle.mx_purse.specs.Words.{status_word, status_details, message_word, message_details}
use Rattle.mx_purse.specs.declared.status.Status.{Status}
use Rattle.mx_purse.specs.declared.status.Status.TheVariants.{EaFrom, EaTo, Epr, Epv, Epa}
use Rattle.mx_purse.specs.declared.message.Message.{Message}
use Rattle.mx_purse.specs.declared.message.Message.TheVariants.{Req, Val, Ack, Clear}
use Rattle.mx_book.specs.Words.{kind_text}
use Rattle.mx_book.specs.Conditions.{IsNote}
use Rattle.mx_book.specs.Words.{note_text}
use Rattle.mx_book.specs.declared.values.Caller.{Caller}
use Rattle.mx_book.specs.declared.values.Caller.TheVariants.{Operator, Clerk, Holder}
use Rattle.mx_book.specs.declared.values.Note.{Note}
use Rattle.mx_book.specs.declared.values.Note.TheVariants.{Reference}
use Rattle.mx_book.specs.declared.values.Note.TheVariants as note
use Rattle.mx_cells.specs.Cells.{kind_text as caller_text, owner_text}
use Rattle.mx_cells.specs.Entries.{IsCaller}
use Rattle.mx_book.specs.declared.values.LineKind.{LineKind}
use Rattle.mx_book.specs.declared.values.LineKind.TheVariants.{Loaded, Redeemed, Sent, Received, Logged, Settled}

low : (bs : List ℕ) → list_all (λ b. nat_lt b 128) bs ≡ true → IsAscii bs
low [] h i = omega arith
low (b ∷ bs) h zero = ltb-true b 128 (first_so _ _ h)
low (b ∷ bs) h (suc i) = low bs (second_so _ _ h) i

-- a text that is there in full
word : (bs : List ℕ) → list_all (λ b. nat_lt b 128) bs ≡ true → IsUtf8 bs
word bs h = IsUtf8-from_ascii bs (low bs h)

more : (b : ℕ) (xs ys : List ℕ) → b < 128 → IsAscii xs → IsAscii ys → IsAscii (xs ++ b ∷ ys)
more b xs ys low one two = IsAscii-append xs (b ∷ ys) one (IsAscii-cons b ys low two)

number : (n : ℕ) → n ≤ 10 ^ 15 → IsAscii (decimal n)
number n few = IsAscii-decimal n (omega (arith, few))

entry : (d : Details) → IsDetails d → IsAscii (entry_text d)
entry d h =
    more 44 d.from _ (omega arith) (IsAscii-name d.from h.from) (
    more 44 d.to _ (omega arith) (IsAscii-name d.to h.to) (
    more 44 (decimal d.value) _ (omega arith) (number d.value (let low = h.value in omega (arith, low))) (
    more 44 (decimal d.from_seq) _ (omega arith) (number d.from_seq h.from_seq) (number d.to_seq h.to_seq))))

entries : (ds : List Details) → AllByRecursion IsDetails ds → IsAscii (entry_texts ds)
entries [] h = IsAscii-nil
entries (d ∷ []) h = entry d h.0
entries (d ∷ e ∷ es) h = more 59 (entry_text d) (entry_texts (e ∷ es)) (omega arith) (entry d h.0) (entries (e ∷ es) h.1)

pub utf8_name : (name : List ℕ) → is_name_text name ≡ true → IsUtf8 name
utf8_name name h = IsUtf8-from_ascii name (IsAscii-name name h)

pub utf8_entry : (d : Details) → IsDetails d → IsUtf8 (entry_text d)
utf8_entry d h = IsUtf8-from_ascii _ (entry d h)

pub utf8_code : (log : Entries) → IsLogValue log → IsUtf8 (code log)
utf8_code log h = IsUtf8-from_ascii _ (entries (logged log) (logged_each log h.entries))

pub utf8_token : (t : List ℕ) → IsUtf8 (encode_lower t)
utf8_token t = IsUtf8-from_ascii _ (IsAscii-encode_lower t)

pub utf8_status_word : (s : Status) → IsUtf8 (status_word s)
utf8_status_word EaFrom = word _ refl
utf8_status_word EaTo = word _ refl
utf8_status_word (Epr d) = word _ refl
utf8_status_word (Epv d) = word _ refl
utf8_status_word (Epa d) = word _ refl

pub utf8_status_details : (s : Status) → IfSome (details_of s) IsDetails → IsUtf8 (status_details s)
utf8_status_details EaFrom h = word _ refl
utf8_status_details EaTo h = word _ refl
utf8_status_details (Epr d) h = utf8_entry d h
utf8_status_details (Epv d) h = utf8_entry d h
utf8_status_details (Epa d) h = utf8_entry d h

pub utf8_message_word : (m : Message) → IsUtf8 (message_word m)
utf8_message_word (Req d) = word _ refl
utf8_message_word (Val d) = word _ refl
utf8_message_word (Ack d) = word _ refl
utf8_message_word (Clear set) = word _ refl

pub utf8_message_details : (m : Message) → IsMessage m → IsUtf8 (message_details m)
utf8_message_details (Req d) h = utf8_entry d h
utf8_message_details (Val d) h = utf8_entry d h
utf8_message_details (Ack d) h = utf8_entry d h
utf8_message_details (Clear set) h = utf8_code set h

pub utf8_kind : (kind : LineKind) → IsUtf8 (kind_text kind)
utf8_kind Loaded = word _ refl
utf8_kind Redeemed = word _ refl
utf8_kind Sent = word _ refl
utf8_kind Received = word _ refl
utf8_kind Logged = word _ refl
utf8_kind Settled = word _ refl

pub utf8_note : (n : Note) → IsNote n → IsUtf8 (note_text n)
utf8_note (Reference reference) h = utf8_name reference h
utf8_note (note.Details d) h = utf8_entry d h

pub utf8_caller : (c : Caller) → IsUtf8 (caller_text c)
utf8_caller Operator = word _ refl
utf8_caller (Clerk m) = word _ refl
utf8_caller (Holder h) = word _ refl

pub utf8_owner : (c : Caller) → IsCaller c → IsUtf8 (owner_text c)
utf8_owner Operator h = word _ refl
utf8_owner (Clerk m) h = utf8_name m h
utf8_owner (Holder name) h = utf8_name name h

pub token_back : (t : Token) → IsToken t → token_of (encode_lower t) ≡ Some t
token_back t h = ap result_ok (decode_sized-encode_lower t token_bytes h.count h.bytes)

pub same_words : (s t : List ℕ) → ◌≡◌ {A = Value} (Text s) (Text t) → s ≡ t
same_words s t e = cc

pub both_ways : (b : Bool) → b ≡ true → true ≡ not b → ⊥
both_ways b one two = cc
