-- The words of refusals, as they stand in responses.
use Rattle.std.specs.Prelude.{ℕ, List, codes}
use Rattle.mx_command.specs.declared.values.Refusal.{Refusal}
use Rattle.mx_command.specs.declared.values.Refusal.TheVariants.{NotForCaller, NoSuchPurse, NoSuchHolder, NoSuchMember, NoSuchMessage, NameTaken, TokenTaken, TooManyPurses, SamePurse, NotEnough, LogFull, Worn, RefReused, FloatTooSmall, FloatFull, GrantTooLarge, OverCap, NotArchived, NotLost, AlreadySettled}

-- the words of a refusal
abbrev pub refusal_text : Refusal → List ℕ
refusal_text NotForCaller = codes "not for this caller"
refusal_text NoSuchPurse = codes "no such purse"
refusal_text NoSuchHolder = codes "no such holder"
refusal_text NoSuchMember = codes "no such member"
refusal_text NoSuchMessage = codes "no such message"
refusal_text NameTaken = codes "name taken"
refusal_text TokenTaken = codes "token taken"
refusal_text TooManyPurses = codes "too many purses"
refusal_text SamePurse = codes "same purse"
refusal_text NotEnough = codes "not enough"
refusal_text LogFull = codes "log full"
refusal_text Worn = codes "purse worn"
refusal_text RefReused = codes "reference reused"
refusal_text FloatTooSmall = codes "float too small"
refusal_text FloatFull = codes "float full"
refusal_text GrantTooLarge = codes "grant too large"
refusal_text OverCap = codes "over cap"
refusal_text NotArchived = codes "not archived"
refusal_text NotLost = codes "not lost"
refusal_text AlreadySettled = codes "already settled"
