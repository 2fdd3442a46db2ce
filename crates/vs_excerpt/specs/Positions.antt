-- Where a byte of a text stands for a reader, who counts lines and columns from 1. A column is a byte.
use Rattle.std.specs.Prelude.{ℕ, ◌+◌, Bool, ◌||◌, ◌==◌, List, length, take, drop, count_by}
use Rattle.std.specs.List.{before_first, after_last}

-- LF, which ends a line
abbrev pub is_newline : ℕ → Bool
is_newline b = b == 10

-- LF or CR, with which the part of a line that is shown ends
abbrev pub is_line_end : ℕ → Bool
is_line_end b = b == 10 || b == 13

-- the number of the line of byte `at`: one more than the newlines before it
abbrev pub line_number : List ℕ → ℕ → ℕ
line_number text at = count_by is_newline (take at text) + 1

-- what stands before byte `at` on its line: what is behind the last newline before it
abbrev pub line_before : List ℕ → ℕ → List ℕ
line_before text at = after_last is_newline (take at text)

-- its column: one more than the bytes before it on its line
abbrev pub column : List ℕ → ℕ → ℕ
column text at = length (line_before text at) + 1

-- byte `at` and what stands behind it on its line
abbrev pub line_behind : List ℕ → ℕ → List ℕ
line_behind text at = before_first is_line_end (drop at text)
