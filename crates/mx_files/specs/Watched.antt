-- A file of which a terminal is told how far its opening is.
use Rattle.std.specs.Prelude.{ℕ, List, ◌++◌, codes}
use Rattle.std.specs.Fmt.{decimal}
use Rattle.mx_files.specs.declared.watched.Watched.{Watched}

-- the file itself
abbrev pub file_of : {D : Type 0} → Watched D → D
file_of w = w.file

-- how many pages of a database are read
abbrev pub opening_line : ℕ → ℕ → List ℕ
opening_line read pages = codes "opening: " ++ decimal read ++ codes " of " ++ decimal pages ++ codes " pages\n"
