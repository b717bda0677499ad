-- What is written for a reply (RFC 9110, section 15; RFC 9112, section 4): a head, and a body that is one JSON object
-- with its keys in byte order.
use Rattle.std.specs.Prelude.{ℕ, List, [], ◌∷◌, ◌++◌, length, map, Bool, true, false, codes, if◌then◌else◌, Option, Some, None}
use Rattle.std.specs.Fmt.{decimal}
use Rattle.mx_pay.specs.Codes.{entry_text}
use Rattle.mx_pay.specs.Details.{Details}
use Rattle.mx_purse.specs.State.{State}
use Rattle.mx_purse.specs.Words.{status_word, message_word, message_details}
use Rattle.mx_purse.specs.declared.message.Message.{Message}
use Rattle.mx_purse.specs.declared.message.Handled.{Handled}
use Rattle.mx_purse.specs.declared.message.Handled.TheVariants as took
use Rattle.mx_book.specs.declared.values.Line.{Line}
use Rattle.mx_book.specs.declared.values.Totals.{Totals}
use Rattle.mx_book.specs.Words as words
use Rattle.mx_command.specs.Texts.{refusal_text}
use Rattle.mx_command.specs.declared.values.Refusal.{Refusal}
use Rattle.mx_command.specs.declared.values.Refusal.TheVariants as refusal
use Rattle.mx_command.specs.declared.values.Reply.{Reply}
use Rattle.mx_command.specs.declared.values.Reply.TheVariants as reply
use Rattle.mx_wire.specs.declared.replies.Fixed.{Fixed}
use Rattle.mx_wire.specs.declared.replies.Fixed.TheVariants as fixed
use Rattle.mx_wire.specs.declared.routes.Method.{Method}
use Rattle.mx_wire.specs.declared.routes.Method.TheVariants.{Head}

-- the two parts of a response
pub record Parts : Type 0 where
  pub head : List ℕ
  pub body : List ℕ

-- the head for a status with its reason and a body of so many bytes
unfoldable pub head_text : List ℕ → ℕ → List ℕ
head_text status size =
    codes "HTTP/1.1 " ++ status ++ codes "\r\n"
    ++ codes "content-type: application/json\r\n"
    ++ codes "content-length: " ++ decimal size ++ codes "\r\n"
    ++ codes "connection: close\r\n"
    ++ codes "\r\n"

-- the response of that status and body
abbrev pub response : List ℕ → List ℕ → Parts
response status body = record { head = head_text status (length body); body = body }

-- the bytes that are sent: to HEAD the head alone (RFC 9110, section 9.3.2)
abbrev pub sent : Method → Parts → List ℕ
sent Head r = r.head
sent _ r = r.head ++ r.body

-- the response that gives up, for every method: it has no body, and says so
unfoldable pub unavailable : List ℕ
unavailable = codes "HTTP/1.1 503 Service Unavailable\r\n" ++ codes "content-length: 0\r\n" ++ codes "connection: close\r\n" ++ codes "\r\n"

-- ---- the bodies

-- the body that says why not
unfoldable pub error_body : List ℕ → List ℕ
error_body text = codes "{\"error\":\"" ++ text ++ codes "\"}"

-- the body that says what is done
unfoldable pub done_body : List ℕ → List ℕ
done_body word = codes "{\"done\":\"" ++ word ++ codes "\"}"

-- the body of an abort, and whether a payment was logged
unfoldable pub aborted_body : List ℕ → List ℕ
aborted_body logged = codes "{\"done\":\"aborted\",\"logged\":" ++ logged ++ codes "}"

-- the response of that status that says why not, and the one that says what is done
abbrev pub refused : List ℕ → List ℕ → Parts
refused status text = response status (error_body text)

abbrev pub done : List ℕ → Parts
done word = response (codes "200 OK") (done_body word)

-- ---- the responses that are always the same

-- the response of a refusal, with its words: 403 to the wrong caller, 404 where something isn't there, 409 where it doesn't fit
abbrev pub refusal_parts : Refusal → Parts
refusal_parts refusal.NotForCaller = refused (codes "403 Forbidden") (refusal_text refusal.NotForCaller)
refusal_parts refusal.NoSuchPurse = refused (codes "404 Not Found") (refusal_text refusal.NoSuchPurse)
refusal_parts refusal.NoSuchHolder = refused (codes "404 Not Found") (refusal_text refusal.NoSuchHolder)
refusal_parts refusal.NoSuchMember = refused (codes "404 Not Found") (refusal_text refusal.NoSuchMember)
refusal_parts refusal.NoSuchMessage = refused (codes "404 Not Found") (refusal_text refusal.NoSuchMessage)
refusal_parts refusal.NameTaken = refused (codes "409 Conflict") (refusal_text refusal.NameTaken)
refusal_parts refusal.TokenTaken = refused (codes "409 Conflict") (refusal_text refusal.TokenTaken)
refusal_parts refusal.TooManyPurses = refused (codes "409 Conflict") (refusal_text refusal.TooManyPurses)
refusal_parts refusal.SamePurse = refused (codes "409 Conflict") (refusal_text refusal.SamePurse)
refusal_parts refusal.NotEnough = refused (codes "409 Conflict") (refusal_text refusal.NotEnough)
refusal_parts refusal.LogFull = refused (codes "409 Conflict") (refusal_text refusal.LogFull)
refusal_parts refusal.Worn = refused (codes "409 Conflict") (refusal_text refusal.Worn)
refusal_parts refusal.RefReused = refused (codes "409 Conflict") (refusal_text refusal.RefReused)
refusal_parts refusal.FloatTooSmall = refused (codes "409 Conflict") (refusal_text refusal.FloatTooSmall)
refusal_parts refusal.FloatFull = refused (codes "409 Conflict") (refusal_text refusal.FloatFull)
refusal_parts refusal.GrantTooLarge = refused (codes "409 Conflict") (refusal_text refusal.GrantTooLarge)
refusal_parts refusal.OverCap = refused (codes "409 Conflict") (refusal_text refusal.OverCap)
refusal_parts refusal.NotArchived = refused (codes "409 Conflict") (refusal_text refusal.NotArchived)
refusal_parts refusal.NotLost = refused (codes "409 Conflict") (refusal_text refusal.NotLost)
refusal_parts refusal.AlreadySettled = refused (codes "409 Conflict") (refusal_text refusal.AlreadySettled)

abbrev pub fixed_parts : Fixed → Parts
fixed_parts fixed.BadHead = refused (codes "400 Bad Request") (codes "bad head")
fixed_parts fixed.TransferCoding = refused (codes "501 Not Implemented") (codes "transfer coding")
fixed_parts fixed.BadLength = refused (codes "400 Bad Request") (codes "bad content length")
fixed_parts fixed.TooLarge = refused (codes "413 Content Too Large") (codes "body too large")
fixed_parts fixed.BodyCut = refused (codes "400 Bad Request") (codes "body cut")
fixed_parts fixed.NoRoute = refused (codes "404 Not Found") (codes "no route")
fixed_parts fixed.TokenUnknown = refused (codes "403 Forbidden") (codes "token not known")
fixed_parts fixed.BadBody = refused (codes "400 Bad Request") (codes "bad body")
fixed_parts (fixed.Refused r) = refusal_parts r
fixed_parts fixed.Added = done (codes "added")
fixed_parts fixed.Granted = done (codes "granted")
fixed_parts fixed.Loaded = done (codes "loaded")
fixed_parts fixed.Sent = done (codes "sent")
fixed_parts fixed.Settled = done (codes "settled")
fixed_parts fixed.ValueSent = done (codes "value-sent")
fixed_parts fixed.Received = done (codes "received")
fixed_parts fixed.Finished = done (codes "finished")
fixed_parts fixed.Cleared = done (codes "cleared")
fixed_parts fixed.Ignored = done (codes "ignored")
fixed_parts fixed.Discarded = done (codes "discarded")
fixed_parts fixed.AbortedLogged = response (codes "200 OK") (aborted_body (codes "true"))
fixed_parts fixed.Aborted = response (codes "200 OK") (aborted_body (codes "false"))
fixed_parts fixed.Redeemed = done (codes "redeemed")

-- ---- the responses that are made

-- texts with commas before them, and with commas between them
abbrev pub after_commas : List (List ℕ) → List ℕ
after_commas [] = []
after_commas (x ∷ xs) = codes "," ++ x ++ after_commas xs

abbrev pub in_commas : List (List ℕ) → List ℕ
in_commas [] = []
in_commas (x ∷ xs) = x ++ after_commas xs

-- the body that shows a purse
unfoldable pub shown_text : ℕ → ℕ → List ℕ → List ℕ → List ℕ
shown_text balance next name status =
    codes "{\"balance\":" ++ decimal balance ++ codes ",\"next\":" ++ decimal next ++ codes ",\"purse\":\"" ++ name
    ++ codes "\",\"status\":\"" ++ status ++ codes "\"}"

abbrev pub shown_body : State → List ℕ
shown_body p = shown_text p.balance p.next p.name (status_word p.status)

-- the body of a payment that is started
unfoldable pub started_body : Details → List ℕ
started_body d = codes "{\"details\":\"" ++ entry_text d ++ codes "\",\"done\":\"started\"}"

-- the body of a sum that is collected
unfoldable pub collected_body : ℕ → List ℕ
collected_body sum = codes "{\"collected\":\"" ++ decimal sum ++ codes "\"}"

-- the body of so many results that went to the archive
unfoldable pub archived_body : ℕ → List ℕ
archived_body count = codes "{\"archived\":" ++ decimal count ++ codes "}"

-- an entry in quotes, or null where there is none, and the body of what was read of a log
abbrev pub entry_or_null : Option Details → List ℕ
entry_or_null None = codes "null"
entry_or_null (Some d) = codes "\"" ++ entry_text d ++ codes "\""

unfoldable pub entry_body : Option Details → List ℕ
entry_body entry = codes "{\"done\":\"read\",\"entry\":" ++ entry_or_null entry ++ codes "}"

-- a name in a list, and the body of a list of names
abbrev pub quoted : List ℕ → List ℕ
quoted name = codes "\"" ++ name ++ codes "\""

unfoldable pub purses_body : List (List ℕ) → List ℕ
purses_body names = codes "{\"purses\":[" ++ in_commas (map quoted names) ++ codes "]}"

-- a message in a list, with its number, and the body of a list of messages
abbrev pub message_text : ℕ × Message → List ℕ
message_text m =
    codes "{\"details\":\"" ++ message_details m.1 ++ codes "\",\"kind\":\"" ++ message_word m.1
    ++ codes "\",\"number\":" ++ decimal m.0 ++ codes "}"

unfoldable pub inbox_body : List (ℕ × Message) → List ℕ
inbox_body messages = codes "{\"messages\":[" ++ in_commas (map message_text messages) ++ codes "]}"

-- a line in a list, and the body of a list of lines
abbrev pub line_text : Line → List ℕ
line_text l =
    codes "{\"amount\":" ++ decimal l.amount ++ codes ",\"balance\":" ++ decimal l.balance ++ codes ",\"kind\":\"" ++ words.kind_text l.kind
    ++ codes "\",\"note\":\"" ++ words.note_text l.note ++ codes "\",\"number\":" ++ decimal l.number ++ codes "}"

unfoldable pub statement_body : List Line → List ℕ
statement_body lines = codes "{\"lines\":[" ++ in_commas (map line_text lines) ++ codes "]}"

-- the body of the sums of the whole scheme
unfoldable pub reconciled_body : Totals → List ℕ
reconciled_body sums =
    codes "{\"balances\":\"" ++ decimal sums.balances ++ codes "\",\"float\":\"" ++ decimal sums.float ++ codes "\",\"granted\":\"" ++ decimal sums.granted
    ++ codes "\",\"issued\":\"" ++ decimal sums.issued ++ codes "\",\"lost\":\"" ++ decimal sums.lost ++ codes "\",\"redeemed\":\"" ++ decimal sums.redeemed
    ++ codes "\",\"transit\":\"" ++ decimal sums.transit ++ codes "\",\"uncollected\":\"" ++ decimal sums.uncollected ++ codes "\"}"

-- ---- the response to a reply

-- the response of a message that was handled
abbrev pub handled_fixed : Handled → Fixed
handled_fixed (took.Req d) = fixed.ValueSent
handled_fixed (took.Val d) = fixed.Received
handled_fixed (took.Ack d) = fixed.Finished
handled_fixed took.Cleared = fixed.Cleared
handled_fixed took.Ignored = fixed.Ignored

abbrev pub reply_parts : Reply → Parts
reply_parts (reply.Refused r) = fixed_parts (fixed.Refused r)
reply_parts reply.Added = fixed_parts fixed.Added
reply_parts reply.Granted = fixed_parts fixed.Granted
reply_parts reply.Loaded = fixed_parts fixed.Loaded
reply_parts (reply.Collected sum) = response (codes "200 OK") (collected_body sum)
reply_parts (reply.Archived count) = response (codes "200 OK") (archived_body count)
reply_parts reply.Sent = fixed_parts fixed.Sent
reply_parts reply.Settled = fixed_parts fixed.Settled
reply_parts (reply.Purses names) = response (codes "200 OK") (purses_body names)
reply_parts (reply.Shown p) = response (codes "200 OK") (shown_body p)
reply_parts (reply.Started d) = response (codes "200 OK") (started_body d)
reply_parts (reply.Handled h) = fixed_parts (handled_fixed h)
reply_parts reply.Discarded = fixed_parts fixed.Discarded
reply_parts (reply.Aborted logged) = fixed_parts (if logged then fixed.AbortedLogged else fixed.Aborted)
reply_parts (reply.Read entry) = response (codes "200 OK") (entry_body entry)
reply_parts reply.Redeemed = fixed_parts fixed.Redeemed
reply_parts (reply.Inbox messages) = response (codes "200 OK") (inbox_body messages)
reply_parts (reply.Statement lines) = response (codes "200 OK") (statement_body lines)
reply_parts (reply.Reconciled sums) = response (codes "200 OK") (reconciled_body sums)

-- whether the response to a reply is made for it, which takes memory
abbrev pub is_made : Reply → Bool
is_made (reply.Collected sum) = true
is_made (reply.Archived count) = true
is_made (reply.Purses names) = true
is_made (reply.Shown p) = true
is_made (reply.Started d) = true
is_made (reply.Read entry) = true
is_made (reply.Inbox messages) = true
is_made (reply.Statement lines) = true
is_made (reply.Reconciled sums) = true
is_made r = false
