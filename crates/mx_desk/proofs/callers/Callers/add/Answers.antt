use Rattle.std.proofs.Common.{Option, Some, IfSome, ◌≡◌, refl, sym}
use Rattle.std.proofs.lemmas.List.Elements.{All-set}
use Rattle.mx_book.specs.Reads.{who_of}
use Rattle.mx_book.specs.World.{Token}
use Rattle.mx_book.specs.declared.values.Caller.{Caller}
use Rattle.mx_desk.specs.Knows.{Knows}
use Rattle.mx_desk.proofs.callers.Callers.add.Goals as goal

pub returns-then-place-len-clause-places : goal.returns-then-place-len-clause-places
returns-then-place-len-clause-places c = rw (sym c.self.view_is, sym c.place_of-place.ensures) refl

pub returns-then-place-len-clause-knows : goal.returns-then-place-len-clause-knows
returns-then-place-len-clause-knows c = λ w knows caller.
    let before : Knows w c.self.inside.places.items = rw c.self.view_is knows in
    All-set (λ (place : Option (Token × Caller)). IfSome place (λ e. who_of w e.0 ≡ Some e.1)) c.self.inside.places.items c.place_of-place.result (Some (c.args.token.now, c.args.caller.now)) caller before
