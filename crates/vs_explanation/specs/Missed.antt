-- What is said of a lane that missed something of what its stimulus wants.
use Rattle.std.specs.Prelude.{ℕ, ◌+◌, List, [], ◌++◌, Option, Some, None, option_map, option_and_then, codes}
use Rattle.vs_excerpt.specs.Escapes.{escaped}
use Rattle.vs_rows.specs.Rows.{row_bytes}
use Rattle.vs_rows.specs.Expected.{expected_at, expected_name}
use Rattle.vs_explanation.specs.declared.missed.Spot.{Spot as Lent}
use Rattle.vs_explanation.specs.Ended.{numbered}
use Rattle.vs_explanation.specs.Rows.{from_line}

-- What a reader finds of it in the stimulus: the output's name, as the header has it, and the column of its digits in the vector's line, a byte counted from 1.
pub record Spot : Type 0 where
  pub name : Option (List ℕ)
  pub column : Option ℕ

abbrev pub lent : Lent → Spot
lent s = record { name = option_map (λ t. t.now) s.name; column = s.column }

-- nothing, where the stimulus isn't there
abbrev pub no_spot : Spot
no_spot = record { name = None; column = None }

-- the column of the n-th field behind `->` in a line
abbrev pub column_in : (n : ℕ) → (line : List ℕ) → Option ℕ
column_in n line = option_map (λ (at : ℕ). at + 1) (expected_at (row_bytes line 0) n)

-- in the line of a text with this number, counted from 1
abbrev pub column_of : (text : List ℕ) → (row n : ℕ) → Option ℕ
column_of text row n = option_and_then (column_in n) (from_line (Some text) row)

abbrev pub spot_of : (text : List ℕ) → (row output : ℕ) → Spot
spot_of text row output = record { name = expected_name text output; column = column_of text row output }

-- what is found in a stimulus that may have been read
abbrev pub spot_in : Option (List ℕ) → (row output : ℕ) → Spot
spot_in None row output = no_spot
spot_in (Some text) row output = spot_of text row output

-- ---- its lines

-- the column behind a line, where it was found
abbrev pub column_text : Option ℕ → List ℕ
column_text None = []
column_text (Some n) = numbered (codes ":") n []

-- the vector's line behind a path
abbrev pub spot_text : (path : List ℕ) → (row : ℕ) → Option ℕ → List ℕ
spot_text path row column = path ++ (numbered (codes ":") row [] ++ column_text column)

-- the output by its name, and by its place behind `->` where that wasn't found
abbrev pub name_text : Option (List ℕ) → ℕ → List ℕ
name_text None output = numbered (codes "output ") output []
name_text (Some name) output = escaped name

-- digits behind what they are
abbrev pub labelled : List ℕ → List ℕ → List ℕ
labelled label digits = label ++ digits

-- the digits that the output has, and those that were wanted, as a report has them
abbrev pub digits_text : (wanted got : List ℕ) → List ℕ
digits_text wanted got = labelled (codes " is ") got ++ (labelled (codes ", wanted ") wanted ++ codes "\n")

-- what is said where the digits that were wanted weren't found again
abbrev pub unfound_text : Option ℕ → List ℕ
unfound_text None = codes "note: the field can't be found again\n"
unfound_text (Some n) = []

abbrev pub sentence : Spot → (output : ℕ) → (wanted got : List ℕ) → List ℕ
sentence spot output wanted got = name_text spot.name output ++ (digits_text wanted got ++ unfound_text spot.column)

-- `s0.stim:3:8: error: y is 1, wanted 0`
abbrev pub miss_text : (path : List ℕ) → Spot → (row output : ℕ) → (wanted got : List ℕ) → List ℕ
miss_text path spot row output wanted got = spot_text path row spot.column ++ (codes ": error: " ++ sentence spot output wanted got)
