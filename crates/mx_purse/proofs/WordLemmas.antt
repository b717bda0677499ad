-- What has the same word and the same text of its details is the same.
use Rattle.std.proofs.Common.{◌≡◌, ℕ, List, [], ◌∷◌, IfSome, refl, ap, arith}
use Rattle.mx_pay.specs.Details.{IsDetails}
use Rattle.mx_pay.proofs.TextLemmas.{same_entry, same_code}
use Rattle.mx_purse.specs.declared.status.Status.{Status}
use Rattle.mx_purse.specs.declared.status.Status.TheVariants.{EaFrom, EaTo, Epr, Epv, Epa}
use Rattle.mx_purse.specs.declared.message.Message.{Message}
use Rattle.mx_purse.specs.declared.message.Message.TheVariants.{Req, Val, Ack, Clear}
use Rattle.mx_purse.specs.State.{details_of}
use Rattle.mx_purse.specs.Messages.{IsMessage}
use Rattle.mx_purse.specs.Words.{status_word, status_details, message_word, message_details}

-- the words of statuses differ in their last bytes, those of messages in their first
abbrev last : List ℕ → ℕ
last [] = 0
last (c ∷ []) = c
last (c ∷ d ∷ cs) = last (d ∷ cs)

abbrev first : List ℕ → ℕ
first [] = 0
first (c ∷ cs) = c

pub same_status : (s u : Status) → IfSome (details_of s) IsDetails → IfSome (details_of u) IsDetails → status_word s ≡ status_word u → status_details s ≡ status_details u → s ≡ u
same_status EaFrom EaFrom one two w t = refl
same_status EaTo EaTo one two w t = refl
same_status (Epr d) (Epr e) one two w t = ap Epr (same_entry d e one two t)
same_status (Epv d) (Epv e) one two w t = ap Epv (same_entry d e one two t)
same_status (Epa d) (Epa e) one two w t = ap Epa (same_entry d e one two t)
same_status s u one two w t = absurd (let n = ap last w in omega (arith, n))

pub same_message : (a b : Message) → IsMessage a → IsMessage b → message_word a ≡ message_word b → message_details a ≡ message_details b → a ≡ b
same_message (Req d) (Req e) one two w t = ap Req (same_entry d e one two t)
same_message (Val d) (Val e) one two w t = ap Val (same_entry d e one two t)
same_message (Ack d) (Ack e) one two w t = ap Ack (same_entry d e one two t)
same_message (Clear s) (Clear u) one two w t = ap Clear (same_code s u one two t)
same_message a b one two w t = absurd (let n = ap first w in omega (arith, n))
