-- What tests and orders that hold tell.
use Rattle.std.proofs.Common.{◌≡◌, Bool, true, ◌&&◌, ◌||◌, T, arith}
use Rattle.std.specs.declared.cmp.Ordering.{Ordering}
use Rattle.std.specs.declared.cmp.Ordering.TheVariants.{Less, Equal}
use Rattle.std.specs.Ordering.{is_lt, is_eq}

-- the two parts of a test by `&&` that holds, and such a test from its parts
pub first_true : (a b : Bool) → T (a && b) → T a
first_true a b p = grind arith

pub second_true : (a b : Bool) → T (a && b) → T b
second_true a b p = grind arith

pub both_true : (a b : Bool) → T a → T b → T (a && b)
both_true a b p q = grind arith

-- a test by `||` is the same either way, and its parts may be grouped either way
pub or_turned : (a b : Bool) → (a || b) ≡ (b || a)
or_turned a b = grind arith

pub or_assoc : (a b c : Bool) → ((a || b) || c) ≡ (a || (b || c))
or_assoc a b c = grind arith

pub is_less : (o : Ordering) → T (is_lt o) → o ≡ Less
is_less o p = grind arith

pub is_equal : (o : Ordering) → is_eq o ≡ true → o ≡ Equal
is_equal o p = grind arith
