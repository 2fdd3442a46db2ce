-- Where a stimulus speaks of outputs: behind the field `->` of its header stand their names, and behind that of a vector their digits.
use Rattle.std.specs.Prelude.{ℕ, Bool, List, slice_get, Option, option_map, option_and_then}
use Rattle.std.specs.List.{after_first}
use Rattle.vs_rows.specs.Rows.{header_row, row_bytes}
use Rattle.vs_rows.specs.Fields.{starts, field_at, is_arrow}

-- the field that begins at this byte of a line is `->`
abbrev pub arrow_at : List ℕ → ℕ → Bool
arrow_at line at = is_arrow (field_at line at)

-- the bytes at which the fields behind the first `->` of a line begin
abbrev pub expected_starts : List ℕ → List ℕ
expected_starts line = after_first (arrow_at line) (starts line)

-- where the n-th of them begins, counted from 0
abbrev pub expected_at : List ℕ → ℕ → Option ℕ
expected_at line n = slice_get (expected_starts line) n

-- the field itself
abbrev pub expected_field : List ℕ → ℕ → Option (List ℕ)
expected_field line n = option_map (field_at line) (expected_at line n)

-- the n-th name behind `->`, as the header of a stimulus has it
abbrev pub expected_name : List ℕ → ℕ → Option (List ℕ)
expected_name text n = option_and_then (λ (at : ℕ). expected_field (row_bytes text at) n) (header_row text)
