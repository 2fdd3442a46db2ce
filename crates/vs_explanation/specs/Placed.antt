-- Places of a file: `d.v:3:8`, the line with a caret, and what is said where the file has changed.
use Rattle.std.specs.Prelude.{ℕ, nat_le, List, [], ◌++◌, length, Option, Some, None, codes, decimal, if◌then◌else◌}
use Rattle.vs_excerpt.specs.Positions.{line_number, column}
use Rattle.vs_excerpt.specs.Escapes.{escaped}
use Rattle.vs_excerpt.specs.Excerpts.{excerpt}
use Rattle.vs_explanation.specs.Files.{FilePlace}

-- a line and a column behind a path
abbrev pub line_column : ℕ → ℕ → List ℕ
line_column line column = codes ":" ++ (decimal line ++ (codes ":" ++ decimal column))

-- the file, where byte `at` stands in it or at its end
abbrev pub reaching : Option (List ℕ) → ℕ → Option (List ℕ)
reaching None at = None
reaching (Some text) at = if nat_le at (length text) then Some text else None

-- the line and the column of byte `at` of a file, and nothing where that isn't there
abbrev pub position_in : Option (List ℕ) → ℕ → List ℕ
position_in None at = []
position_in (Some text) at = line_column (line_number text at) (column text at)

abbrev pub position_text : Option (List ℕ) → ℕ → List ℕ
position_text file at = position_in (reaching file at) at

-- the place of byte `at` of a file, and the path alone where that isn't there
abbrev pub place_text : List ℕ → Option (List ℕ) → ℕ → List ℕ
place_text path file at = escaped path ++ position_text file at

-- the place of a byte in a file of the design
abbrev pub found_in : FilePlace → List ℕ
found_in p = place_text p.path p.file p.at

-- its line with a caret below it
abbrev pub caret_in : Option (List ℕ) → ℕ → List ℕ
caret_in None at = []
caret_in (Some text) at = excerpt text at

abbrev pub caret_text : Option (List ℕ) → ℕ → List ℕ
caret_text file at = caret_in (reaching file at) at

-- a file that couldn't be read again, or that is shorter than it was
abbrev pub change_text : Option (List ℕ) → ℕ → List ℕ
change_text None at = codes "note: the file can't be read again\n"
change_text (Some text) at = if nat_le at (length text) then [] else codes "note: the file has changed: it ends before this place\n"
