use Rattle.std.proofs.Common.{rules, inl}
use Rattle.mx_desk.proofs.callers.Callers.new.Goals as goal

-- each place is free
pub returns-in-Ok-clause-places : goal.returns-in-Ok-clause-places
returns-in-Ok-clause-places c = inl (c.in-Ok.ensures.items_if_clones_equal (λ y same. search rules))
