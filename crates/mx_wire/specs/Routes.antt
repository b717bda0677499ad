-- What a request asks by its method and path. A path's pattern is the one that matchit finds for it.
use Rattle.std.specs.Prelude.{ℕ, List, [], ◌∷◌, if◌then◌else◌, Option, Some, None, option_map, option_and_then, Result, Ok, Err, map, codes, bytes_eq}
use Rattle.std.specs.Borrow.{Bor}
use Rattle.std.specs.Char.{is_ascii}
use Rattle.std.specs.List.{list_all}
use Rattle.matchit.specs.Rows.{RowsOf}
use Rattle.matchit.specs.Order.{placed}
use Rattle.matchit.specs.Route.{Scan, parse_route}
use Rattle.matchit.specs.Router.{RouteOf, route_from}
use Rattle.matchit.specs.Seek.{first}
use Rattle.matchit.specs.Params.{walk, named}
use Rattle.matchit.specs.declared.error.InsertError.{InsertError}
use Rattle.mx_pay.specs.Limits.{most_number}
use Rattle.mx_pay.specs.Names.{is_name_text}
use Rattle.mx_pay.specs.Reading.{limited}
use Rattle.mx_wire.specs.declared.routes.Class.{Class}
use Rattle.mx_wire.specs.declared.routes.Class.TheVariants as class
use Rattle.mx_wire.specs.declared.routes.Method.{Method}
use Rattle.mx_wire.specs.declared.routes.Method.TheVariants as method
use Rattle.mx_wire.specs.declared.routes.Pattern.{Pattern}
use Rattle.mx_wire.specs.declared.routes.Pattern.TheVariants as pattern
use Rattle.mx_wire.specs.declared.routes.Route.{Route}
use Rattle.mx_wire.specs.declared.routes.Route.TheVariants as route

-- a matchit router, as the rows of its patterns
abbrev pub Rows : Type 0
Rows = RowsOf (RouteOf Pattern)

-- the rows with one pattern more, where its text reads as one
abbrev pub row_added : Result Scan InsertError → Pattern → Rows → Rows
row_added (Ok s) value rows = placed (s.pattern, route_from s value) rows
row_added (Err e) value rows = rows

-- the rows with each pattern of the list more
abbrev pub rows_after : Rows → List (List ℕ × Pattern) → Rows
rows_after rows [] = rows
rows_after rows (e ∷ entries) = rows_after (row_added (parse_route e.0) e.1 rows) entries

-- each pattern's text
abbrev pub patterns : List (List ℕ × Pattern)
patterns =
    (codes "/members", pattern.Members)
    ∷ (codes "/members/{m}/grant", pattern.Grant)
    ∷ (codes "/archive/{p}", pattern.Archive)
    ∷ (codes "/clear/{p}", pattern.Clear)
    ∷ (codes "/settle", pattern.Settle)
    ∷ (codes "/holders", pattern.Holders)
    ∷ (codes "/purses", pattern.Purses)
    ∷ (codes "/purses/{p}", pattern.Purse)
    ∷ (codes "/purses/{p}/load", pattern.Load)
    ∷ (codes "/collect", pattern.Collect)
    ∷ (codes "/purses/{p}/start-from", pattern.StartFrom)
    ∷ (codes "/purses/{p}/start-to", pattern.StartTo)
    ∷ (codes "/purses/{p}/handle", pattern.Handle)
    ∷ (codes "/purses/{p}/discard", pattern.Discard)
    ∷ (codes "/purses/{p}/abort", pattern.Abort)
    ∷ (codes "/purses/{p}/read-log", pattern.ReadLog)
    ∷ (codes "/purses/{p}/redeem", pattern.Redeem)
    ∷ (codes "/purses/{p}/inbox", pattern.Inbox)
    ∷ (codes "/purses/{p}/statement/{after}", pattern.Statement)
    ∷ (codes "/reconcile", pattern.Reconcile)
    ∷ []

-- the rows of a router of these patterns
unfoldable pub table_rows : Rows
table_rows = rows_after [] patterns

-- the texts of a table
abbrev pub entries : List (Bor (List ℕ) × Pattern) → List (List ℕ × Pattern)
entries table = map (λ e. (e.0.now, e.1)) table

-- the method of this name (RFC 9110, section 9.1)
abbrev pub method_of : List ℕ → Method
method_of name =
    if bytes_eq name (codes "GET") then method.Get
    else if bytes_eq name (codes "HEAD") then method.Head
    else if bytes_eq name (codes "POST") then method.Post
    else method.Other

-- the name that a text is
abbrev pub name_of : List ℕ → Option (List ℕ)
name_of text = if is_name_text text then Some text else None

-- what {m} or {p} took of the path, where that is a name
abbrev pub taken : Pattern → List (List ℕ × List ℕ) → Option (List ℕ)
taken pattern.Grant parts = option_and_then name_of (named (codes "m") parts)
taken _ parts = option_and_then name_of (named (codes "p") parts)

-- what {after} took of the path of a statement, where that is a number from 0 to 10^15 without leading zeros
abbrev pub after : Pattern → List (List ℕ × List ℕ) → Option ℕ
after pattern.Statement parts = option_and_then (limited most_number) (named (codes "after") parts)
after _ parts = None

-- what GET asks of a pattern, with the name and the number that the path has
abbrev pub got : Pattern → Option (List ℕ) → Option ℕ → Option Route
got pattern.Purses name n = Some route.Purses
got pattern.Reconcile name n = Some route.Reconcile
got pattern.Purse name n = option_map route.Show name
got pattern.Inbox name n = option_map route.Inbox name
got pattern.Statement name n = option_and_then (λ p. option_map (route.Statement p) n) name
got _ name n = None

-- what POST asks of a pattern, with the name that the path has
abbrev pub posted : Pattern → Option (List ℕ) → Option Route
posted pattern.Members name = Some route.NewMember
posted pattern.Holders name = Some route.NewHolder
posted pattern.Purses name = Some route.NewPurse
posted pattern.Collect name = Some route.Collect
posted pattern.Settle name = Some route.Settle
posted pattern.Grant name = option_map route.Grant name
posted pattern.Archive name = option_map route.Archive name
posted pattern.Clear name = option_map route.Clear name
posted pattern.Load name = option_map route.Load name
posted pattern.StartFrom name = option_map route.StartFrom name
posted pattern.StartTo name = option_map route.StartTo name
posted pattern.Handle name = option_map route.Handle name
posted pattern.Discard name = option_map route.Discard name
posted pattern.Abort name = option_map route.Abort name
posted pattern.ReadLog name = option_map route.ReadLog name
posted pattern.Redeem name = option_map route.Redeem name
posted pattern.Purse name = None
posted pattern.Inbox name = None
posted pattern.Statement name = None
posted pattern.Reconcile name = None

-- what a pattern asks by this method: HEAD is routed as GET
abbrev pub asked_of : Method → Pattern → Option (List ℕ) → Option ℕ → Option Route
asked_of method.Post p name n = posted p name
asked_of method.Other p name n = None
asked_of _ p name n = got p name n

-- what the pattern that matchit found asks
abbrev pub asked : Method → List ℕ → RouteOf Pattern → Option Route
asked method path found = let parts = walk found.pattern found.text path found.names 0 0 in asked_of method found.value (taken found.value parts) (after found.value parts)

-- the route of a method and a path: none where the path isn't ASCII, since names are, and none where no
-- pattern is found, the method is another or a part isn't a name
unfoldable pub route_of : Method → List ℕ → Option Route
route_of method path =
    if list_all is_ascii path then option_and_then (asked method path) (first table_rows path) else None

-- whose command a route is
abbrev pub class_of : Route → Class
class_of route.NewMember = class.Operator
class_of (route.Grant member) = class.Operator
class_of (route.Archive purse) = class.Operator
class_of (route.Clear purse) = class.Operator
class_of route.Settle = class.Operator
class_of route.Reconcile = class.Operator
class_of route.NewHolder = class.Clerk
class_of route.NewPurse = class.Clerk
class_of (route.Load purse) = class.Clerk
class_of route.Collect = class.Clerk
class_of _ = class.Holder
