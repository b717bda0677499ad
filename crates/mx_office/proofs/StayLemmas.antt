-- What a command keeps: whose tokens are, each holder's member, and each purse's holder.
use Rattle.std.proofs.Common.{◌≡◌, Bool, true, false, cond, List, [], ◌∷◌, Option, Some, None, refl, sym, ◌∙◌, ap, subst, option_map}
use Rattle.std.specs.FinMap as fmap
use Rattle.mx_pay.specs.Names.{is_name}
use Rattle.mx_pay.specs.Tokens.{is_token}
use Rattle.mx_book.specs.declared.values.Caller.{Caller}
use Rattle.mx_book.specs.declared.values.Caller.TheVariants.{Operator, Clerk, Holder}
use Rattle.mx_book.specs.Reads.{who_of}
use Rattle.mx_book.specs.World.{World, Row, Name, Token, set_row, new_row}
use Rattle.mx_book.proofs.FoundLemmas.{kept_value}
use Rattle.mx_book.proofs.NameLemmas.{names_total, same_name}
use Rattle.mx_command.specs.declared.values.Command.{Command}
use Rattle.mx_command.specs.Commands.{Asked}
use Rattle.mx_office.specs.Step.{base, loaded_row, settled_row, step, steps}
use Rattle.mx_office.proofs.CaseLemmas.{by_after, collected_same}
use Rattle.mx_office.proofs.MoveCaseLemmas.{by_moves}

-- the holder of a purse
abbrev pub holder_at : World → Name → Option Name
holder_at w p = option_map (λ (r : Row). r.holder) (fmap.get w.rows p)

-- what stood in a World stands in another
pub record Stays (w v : World) : Type 0 where
  pub tokens : (t : Token) (c : Caller) → who_of w t ≡ Some c → who_of v t ≡ Some c
  pub holders : (h m : Name) → fmap.get w.holders h ≡ Some m → fmap.get v.holders h ≡ Some m
  pub purses : (p g : Name) → holder_at w p ≡ Some g → holder_at v p ≡ Some g

pub stays_itself : (w : World) → Stays w w
stays_itself w = record { tokens = λ t c at. at; holders = λ h m at. at; purses = λ p g at. at }

pub stays_on : (u v w : World) → Stays u v → Stays v w → Stays u w
stays_on u v w a b = record { tokens = λ t c at. b.tokens t c (a.tokens t c at); holders = λ h m at. b.holders h m (a.holders h m at); purses = λ p g at. b.purses p g (a.purses p g at) }

-- ---- rows

module _ (w : World) (p : Name) (s : Row) (before : (g : Name) → holder_at w p ≡ Some g → s.holder ≡ g) where
  same_holder_case : (q g : Name) (b : Bool) → is_name q p ≡ b → holder_at w q ≡ Some g → option_map (λ (r : Row). r.holder) (cond b (Some s) (fmap.get w.rows q)) ≡ Some g
  same_holder_case q g true is at = ap Some (before g (subst (λ x. holder_at w x ≡ Some g) (same_name q p is) at))
  same_holder_case q g false is at = at

  -- a purse's row is another, with the same holder if there was one
  row_stays : Stays w (set_row w p s)
  row_stays = record {
    tokens = λ t c at. at;
    holders = λ h m at. at;
    purses = λ q g at. ap (option_map (λ (r : Row). r.holder)) (fmap.get-insert names_total w.rows p s q) ∙ same_holder_case q g (is_name q p) refl at;
  }

-- and so is one that has its holder
same_holder_stays : (w : World) (p : Name) (r s : Row) → fmap.get w.rows p ≡ Some r → s.holder ≡ r.holder → Stays w (set_row w p s)
same_holder_stays w p r s at same = row_stays w p s (λ g is. let found : Some r.holder ≡ Some g = sym (ap (option_map (λ (x : Row). x.holder)) at) ∙ is in cc)

-- ---- new tokens

-- a token that is nobody's is no clerk's and no holder's
nobodys_case : (w : World) (t : Token) (b : Bool) → is_token t w.operator ≡ b → cond b (Some Operator) (fmap.get w.tokens t) ≡ None → fmap.get w.tokens t ≡ None
nobodys_case w t true is nobody = cc
nobodys_case w t false is nobody = nobody

module _ (w : World) (t : Token) (c : Caller) (free : who_of w t ≡ None) where
  -- a new token
  token_case : (s : Token) (d : Caller) (b : Bool) → is_token s w.operator ≡ b → cond b (Some Operator) (fmap.get w.tokens s) ≡ Some d → cond b (Some Operator) (fmap.get (fmap.insert w.tokens t c) s) ≡ Some d
  token_case s d true is at = at
  token_case s d false is at = kept_value w.tokens t c (nobodys_case w t _ refl free) s d at

  pub token_stays : (s : Token) (d : Caller) → who_of w s ≡ Some d → cond (is_token s w.operator) (Some Operator) (fmap.get (fmap.insert w.tokens t c) s) ≡ Some d
  token_stays s d at = token_case s d (is_token s w.operator) refl at

-- ---- each command

base_stays : (w : World) (caller : Caller) (c : Command) → Stays w (base w caller c).state
base_stays w = by_moves w (λ _ _ d. Stays w d.state) (record {
  told = λ caller c x is. stays_itself w;
  member = λ m t none free. record { tokens = token_stays w t (Clerk m) free; holders = λ h n at. at; purses = λ p g at. at };
  grant = λ m amount row there small room. record { tokens = λ t c at. at; holders = λ h n at. at; purses = λ p g at. at };
  holder = λ m h t row there none free. record { tokens = token_stays w t (Holder h) free; holders = kept_value w.holders h m none; purses = λ p g at. at };
  purse = λ m p h there none few. row_stays w p (new_row h p) (λ g at. let nothing : None ≡ Some g = sym (ap (option_map (λ (r : Row). r.holder)) none) ∙ at in cc);
  load = λ m p amount reference l. let s = same_holder_stays w p l.row (loaded_row amount reference l.row) l.at refl in record { tokens = s.tokens; holders = s.holders; purses = s.purses };
  collect = λ m row there room. record { tokens = λ t c at. at; holders = λ h n at. at; purses = λ q g at. collected_same (option_map (λ (r : Row). r.holder)) w m q (λ r. refl) ∙ at };
  archive = λ p. record { tokens = λ t c at. at; holders = λ h n at. at; purses = λ q g at. at };
  clear = λ p set may. stays_itself w;
  settle = λ d is. let s = same_holder_stays w d.from is.row (settled_row d is.row) is.at refl in record { tokens = s.tokens; holders = s.holders; purses = s.purses };
  own = λ h c p f r e at owned. same_holder_stays w p r _ at refl;
})

-- what it sends leaves them
pub after_stays : (w : World) (caller : Caller) (c : Command) → Stays (base w caller c).state (step w caller c).world
unfolding step
after_stays w caller c =
    let d = base w caller c in
    by_after (Stays d.state) d (stays_itself d.state) (λ m r e at. same_holder_stays d.state m.0 r _ at refl) (λ v x s e f. record { tokens = s.tokens; holders = s.holders; purses = s.purses })

pub step_stays : (w : World) (caller : Caller) (c : Command) → Stays w (step w caller c).world
step_stays w caller c = stays_on w (base w caller c).state (step w caller c).world (base_stays w caller c) (after_stays w caller c)

pub steps_stay : (w : World) (cs : List Asked) → Stays w (steps w cs).end
steps_stay w [] = stays_itself w
steps_stay w (c ∷ cs) = stays_on w (step w c.0 c.1).world (steps (step w c.0 c.1).world cs).end (step_stays w c.0 c.1) (steps_stay (step w c.0 c.1).world cs)
