-- The limits of what a book keeps, each by its name.
use Rattle.std.specs.Prelude.{ℕ}

-- how many messages an inbox holds at most
abbrev pub most_messages : ℕ
most_messages = 32

-- how many purses a holder has at most
abbrev pub most_purses : ℕ
most_purses = 64

-- how many lines a page of a statement has at most
abbrev pub most_lines : ℕ
most_lines = 50
