-- Worlds that commands lead to.
use Rattle.std.specs.Prelude.{◌≡◌, List}
use Rattle.std.specs.List.{AllByRecursion}
use Rattle.mx_pay.specs.Tokens.{IsToken}
use Rattle.mx_book.specs.Conditions.{IsWorld}
use Rattle.mx_book.specs.World.{World, Token, opening}
use Rattle.mx_command.specs.Commands.{Asked, IsAsked}
use Rattle.mx_office.specs.Step.{steps}
use Rattle.mx_office.specs.Balance.{IsBalanced}
use Rattle.mx_office.specs.Conservation.{IsConserved}

-- some commands that are values lead to the World from one that has nothing but an operator's token
pub record IsReachable (w : World) : Type 0 where
  pub operator : Token
  pub bytes : IsToken operator
  pub commands : List Asked
  pub values : AllByRecursion IsAsked commands
  pub leads : (steps (opening operator) commands).end ≡ w

-- commands lead to the World, and it meets the conditions of a World; the members' equation holds, and the scheme's
pub record StandsBalanced (w : World) : Type 0 where
  pub reachable : IsReachable w
  pub world : IsWorld w
  pub balanced : IsBalanced w
  pub conserved : IsConserved w
