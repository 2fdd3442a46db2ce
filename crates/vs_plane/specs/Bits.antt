-- Words of bits: which number has which bit, and the operations on single bits.
use Rattle.std.specs.Prelude.{ℕ, ◌/◌, ◌%◌, Bool, true, false, not, List, slice_index, ◌==◌}
use Rattle.std.specs.Int.{bit_at}

-- one of the two, and not both
abbrev pub differ : Bool → Bool → Bool
differ true b = not b
differ false b = b

-- bit i of a row of 64-bit words: bit i % 64 of word i / 64
abbrev pub bit_of_words : List ℕ → ℕ → Bool
bit_of_words words i = bit_at (slice_index words (i / 64)) (i % 64) == 1
