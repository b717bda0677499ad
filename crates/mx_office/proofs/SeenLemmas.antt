-- What of a World decides which value is under way, and how one command may change it.
use Rattle.std.proofs.Common.{◌≡◌, Bool, true, false, sym, ◌∙◌, ◌||◌, ◌⊎◌, inl, inr, true≢false}
pub use Rattle.std.proofs.lemmas.Bool.{false_from_ne_true as not_true, or_right as either_true, and_parts as both_parts, and_right as neither}
use Rattle.mx_pay.specs.Details.{Details}
use Rattle.mx_pay.specs.Log.{has_logged}
use Rattle.mx_purse.specs.declared.message.Message.{Message}
use Rattle.mx_purse.specs.declared.message.Message.TheVariants.{Req, Val, Ack, Clear}
use Rattle.mx_book.specs.World.{Name}

-- a test that holds and fails proves anything
pub clash : {A : Type 0} (b : Bool) → b ≡ true → b ≡ false → A
clash b p q = absurd (true≢false (sym p ∙ q))

pub or_cases : {A : Type 0} (a b : Bool) → (a ≡ true → A) → (b ≡ true → A) → (a || b) ≡ true → A
or_cases true b f g h = f h
or_cases false b f g h = g h

-- what is seen of a World
pub record Seen : Type 0 where
  -- the from purse is in epa with the details, or has them logged or archived
  pub gone : Details → Bool
  -- the to purse is in epv with them, or has them logged or archived
  pub due : Details → Bool
  -- the from purse is in epr with them
  pub epr : Details → Bool
  -- the to purse is in epv with them
  pub epv : Details → Bool
  -- the from purse is there and its next number is above their from number
  pub from_past : Details → Bool
  -- the to purse likewise
  pub to_past : Details → Bool
  -- they are archived for a purse
  pub archived : Name → Details → Bool
  -- they are in the log of a purse, or archived for it
  pub kept : Name → Details → Bool

-- what holds of a message in the inbox of the purse of that name
abbrev pub IsTimely : Seen → Name → Message → Type 0
IsTimely o p (Req d) = (o.due d ≡ true) ⊎ ((o.from_past d ≡ true) × (o.epr d ≡ false))
IsTimely o p (Val d) = (o.to_past d ≡ true) × (o.epv d ≡ true → o.gone d ≡ true)
IsTimely o p (Ack d) = (o.to_past d ≡ true) × (o.due d ≡ false)
IsTimely o p (Clear set) = (d : Details) → has_logged set d ≡ true → o.archived p d ≡ true

-- what is gone is of a to purse that is past it
abbrev pub IsKnown : Seen → Type 0
IsKnown o = (d : Details) → o.gone d ≡ true → o.to_past d ≡ true

-- what a command may make of what is seen
pub record Step (o n : Seen) : Type 0 where
  pub epr : (d : Details) → n.epr d ≡ true → (o.epr d ≡ true) ⊎ (o.from_past d ≡ false)
  pub epv : (d : Details) → n.epv d ≡ true → (o.epv d ≡ true) ⊎ (o.to_past d ≡ false)
  pub from_past : (d : Details) → o.from_past d ≡ true → n.from_past d ≡ true
  pub to_past : (d : Details) → o.to_past d ≡ true → n.to_past d ≡ true
  pub due_stays : (d : Details) → o.due d ≡ true → (n.due d ≡ true) ⊎ ((n.from_past d ≡ true) × (n.epr d ≡ false))
  pub due_new : (d : Details) → n.due d ≡ true → (o.due d ≡ true) ⊎ (o.to_past d ≡ false)
  pub gone_stays : (d : Details) → o.gone d ≡ true → (n.gone d ≡ true) ⊎ ((n.epv d ≡ false) × (n.due d ≡ false))
  pub gone_new : (d : Details) → n.gone d ≡ true → (o.gone d ≡ true) ⊎ (n.to_past d ≡ true)
  pub archived : (p : Name) (d : Details) → o.archived p d ≡ true → n.archived p d ≡ true
  pub kept : (p : Name) (d : Details) → o.kept p d ≡ true → n.kept p d ≡ true

module _ (o n : Seen) (s : Step o n) where
  -- a message stays timely
  pub timely-step : (p : Name) (m : Message) → IsTimely o p m → IsTimely n p m
  timely-step p (Req d) (inl due) = s.due_stays d due
  timely-step p (Req d) (inr past) = inr (s.from_past d past.0, not_true (n.epr d) (λ t. elim (s.epr d t) [ inl e ↦ clash (o.epr d) e past.1 | inr f ↦ clash (o.from_past d) past.0 f ]))
  timely-step p (Val d) v = (s.to_past d v.0, λ t. elim (s.epv d t) [ inl e ↦ elim (s.gone_stays d (v.1 e)) [ inl g ↦ g | inr f ↦ clash (n.epv d) t f.0 ] | inr f ↦ clash (o.to_past d) v.0 f ])
  timely-step p (Ack d) v = (s.to_past d v.0, not_true (n.due d) (λ t. elim (s.due_new d t) [ inl e ↦ clash (o.due d) e v.1 | inr f ↦ clash (o.to_past d) v.0 f ]))
  timely-step p (Clear set) v = λ d has. s.archived p d (v d has)

  pub known-step : IsKnown o → IsKnown n
  known-step known d t = elim (s.gone_new d t) [ inl g ↦ s.to_past d (known d g) | inr past ↦ past ]
