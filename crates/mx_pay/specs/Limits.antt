-- The limits of values, each by its name.
use Rattle.std.specs.Prelude.{ℕ, ◌^◌}

-- the most of one amount
abbrev pub most_amount : ℕ
most_amount = 10 ^ 12

-- the most of a balance, a float, a sum of grants, and each number that counts: a sequence number, the number of a
-- message, and how many lines a purse has before an operation
abbrev pub most_number : ℕ
most_number = 10 ^ 15

-- how many payments a log holds at most
abbrev pub most_entries : ℕ
most_entries = 16

-- how many bytes a name has at most
abbrev pub most_name_bytes : ℕ
most_name_bytes = 24

-- how many bytes a token has
abbrev pub token_bytes : ℕ
token_bytes = 16
