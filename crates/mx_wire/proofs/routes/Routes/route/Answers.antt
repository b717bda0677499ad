use Rattle.std.proofs.Common.{sym, ◌∙◌}
use Rattle.std.proofs.lemmas.Str.{IsUtf8-from_ascii}
use Rattle.mx_wire.proofs.RouteLemmas.{found_ascii, route_not_ascii, route_missing, route_found, at_table}
use Rattle.mx_wire.proofs.routes.Routes.route.Goals as goal

pub returns-then-not-is_ascii : goal.returns-then-not-is_ascii
returns-then-not-is_ascii c = sym (route_not_ascii _ _ c.if-not-is_ascii.ensures.cases)

pub from_utf8_unchecked-text-requires : goal.from_utf8_unchecked-text-requires
from_utf8_unchecked-text-requires c = IsUtf8-from_ascii _ c.if-not-is_ascii.ensures.cases

pub asked-requires-clause-text : goal.asked-requires-clause-text
asked-requires-clause-text c = found_ascii c.args.path.now _ (at_table _ _ _ _ c.self.invariant c.from_utf8_unchecked-text.ensures c.in-Ok.ensures.found)

pub returns-in-Ok : goal.returns-in-Ok
returns-in-Ok c =
    route_found c.args.method c.args.path.now _ _ _ c.if-not-is_ascii.ensures.cases
    (at_table _ _ _ _ c.self.invariant c.from_utf8_unchecked-text.ensures c.in-Ok.ensures.found)
    (c.in-Ok.ensures.path ∙ c.from_utf8_unchecked-text.ensures)
    c.asked.ensures

pub returns-in-Err : goal.returns-in-Err
returns-in-Err c =
    sym (route_missing _ _ c.if-not-is_ascii.ensures.cases (at_table _ _ _ _ c.self.invariant c.from_utf8_unchecked-text.ensures c.in-Err.ensures.missing))
