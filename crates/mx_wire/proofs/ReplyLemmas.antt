-- Texts of responses.
use Rattle.std.proofs.Common.{◌≡◌, ℕ, List, [], ◌++◌, length, take, drop, refl, append_assoc, codes}
use Rattle.std.proofs.Math.Seq.{take-append_seam, drop-append_seam}
use Rattle.std.specs.Fmt.{digits}
use Rattle.std.specs.Fmt.{decimal}
use Rattle.mx_purse.specs.declared.message.Message.{Message}
use Rattle.mx_purse.specs.Words.{message_word, message_details}
use Rattle.mx_book.specs.declared.values.Line.{Line}
use Rattle.mx_book.specs.declared.values.Totals.{Totals}
use Rattle.mx_book.specs.Words as words
use Rattle.mx_wire.specs.Replies.{Parts, head_text, error_body, done_body, aborted_body, message_text, line_text, reconciled_body}

-- what an answer unfolds to compute a response whose texts are known
unfoldable pub reply_texts : Unit {0}
unfolding head_text error_body done_body aborted_body digits
reply_texts = tt

-- a text in two parts
abbrev pub parts : List ℕ → ℕ → Parts
parts text n = record { head = take n text; body = drop n text }

abbrev pub joined : List ℕ → List ℕ → Parts
joined head body = record { head = head; body = body }

pub parts-joined : (text head body : List ℕ) (n : ℕ) → text ≡ head ++ body → n ≡ length head → parts text n ≡ joined head body
parts-joined text head body n whole size = rw (whole, size, take-append_seam head body, drop-append_seam head body) refl

-- a text to which a message was added, piece by piece
pub message_added : (t a b c d e f kind : List ℕ) (n : ℕ) (m : Message) → kind ≡ message_word m
    → a ≡ t ++ codes "{\"details\":\"" → b ≡ a ++ message_details m → c ≡ b ++ codes "\",\"kind\":\"" → d ≡ c ++ kind
    → e ≡ d ++ codes "\",\"number\":" ++ decimal n → f ≡ e ++ codes "}"
    → f ≡ t ++ message_text (n, m)
message_added t a b c d e f kind n m is_kind p q r s k l = rw (l, k, s, r, q, p, is_kind) (simp append_assoc)

-- the head of a response 200, piece by piece
pub head_added : (t a b c number : List ℕ) (n : ℕ) → number ≡ decimal n → t ≡ []
    → a ≡ t ++ codes "HTTP/1.1 200 OK\r\ncontent-type: application/json\r\ncontent-length: " → b ≡ a ++ number → c ≡ b ++ codes "\r\nconnection: close\r\n\r\n" → c ≡ head_text (codes "200 OK") n
unfolding head_text
head_added t a b c number n is empty p q r = rw (r, q, p, is, empty) (simp append_assoc)

-- a text to which a line was added, piece by piece
pub line_added : (t a b c d e f g h kind : List ℕ) (amount : ℕ) (l : Line) → kind ≡ words.kind_text l.kind → amount ≡ l.amount
    → a ≡ t ++ codes "{\"amount\":" ++ decimal amount → b ≡ a ++ codes ",\"balance\":" ++ decimal l.balance → c ≡ b ++ codes ",\"kind\":\"" → d ≡ c ++ kind → e ≡ d ++ codes "\",\"note\":\"" → f ≡ e ++ words.note_text l.note
    → g ≡ f ++ codes "\",\"number\":" ++ decimal l.number → h ≡ g ++ codes "}"
    → h ≡ t ++ line_text l
line_added t a b c d e f g h kind amount l is_kind is_amount p q r s k m n o = rw (o, n, m, k, s, r, q, p, is_kind, is_amount) (simp append_assoc)

-- the sums of the scheme, one by one
pub sums_added : (t a b c d e f g h k : List ℕ) (sums : Totals) → t ≡ []
    → a ≡ t ++ codes "{\"balances\":\"" ++ decimal sums.balances → b ≡ a ++ codes "\",\"float\":\"" ++ decimal sums.float → c ≡ b ++ codes "\",\"granted\":\"" ++ decimal sums.granted
    → d ≡ c ++ codes "\",\"issued\":\"" ++ decimal sums.issued → e ≡ d ++ codes "\",\"lost\":\"" ++ decimal sums.lost → f ≡ e ++ codes "\",\"redeemed\":\"" ++ decimal sums.redeemed
    → g ≡ f ++ codes "\",\"transit\":\"" ++ decimal sums.transit → h ≡ g ++ codes "\",\"uncollected\":\"" ++ decimal sums.uncollected → k ≡ h ++ codes "\"}"
    → k ≡ reconciled_body sums
unfolding reconciled_body
sums_added t a b c d e f g h k sums empty p q r s l m n o z = rw (z, o, n, m, l, s, r, q, p, empty) (simp append_assoc)
