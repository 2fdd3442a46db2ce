-- A square of 64 rows of 64 bits, and its turns: each exchanges one digit of the number of a row with one of that of a column.
use Rattle.std.specs.Prelude.{◌≡◌, ℕ, ◌+◌, ◌-◌, ◌*◌, ◌/◌, ◌%◌, ◌<◌, List, slice_index}
use Rattle.std.specs.Int.{bit_at}

-- the digit of a column at a distance
abbrev pub digit : ℕ → ℕ → ℕ
digit s c = c / s % 2

-- the row and the column from which the bit of a row and a column comes in a turn: the row's last digit goes to the column, and the
-- column's digit to the front of the row's number
abbrev pub row_before : ℕ → ℕ → ℕ → ℕ
row_before s r c = r / 2 + 32 * digit s c

abbrev pub column_before : ℕ → ℕ → ℕ → ℕ
column_before s r c = (c + (r % 2) * s) - digit s c * s

-- the mask has the columns whose digit is 0
pub record IsMask (s mask : ℕ) : Type 0 where
  pub bits : (c : ℕ) → c < 64 → bit_at mask c ≡ 1 - digit s c

-- the bits of the rows after a turn
pub record IsTurned (s : ℕ) (before after : List ℕ) : Type 0 where
  pub bits : (r c : ℕ) → r < 64 → c < 64 → bit_at (slice_index after r) c ≡ bit_at (slice_index before (row_before s r c)) (column_before s r c)

-- row r has what was column r
pub record AreColumns (before after : List ℕ) : Type 0 where
  pub bits : (r c : ℕ) → r < 64 → c < 64 → bit_at (slice_index after r) c ≡ bit_at (slice_index before c) r
