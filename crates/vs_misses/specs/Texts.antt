-- Digits as they are written, most significant first.
use Rattle.std.specs.Prelude.{ℕ, List, map, reverse}
use Rattle.vs_four.specs.declared.Bit4.{Bit4}
use Rattle.vs_four.specs.declared.Bit4.TheVariants.{Zero, One, X, Z}
use Rattle.vs_four.specs.Logic.{BitList}
use Rattle.vs_stim.specs.declared.wanted.Digit.{Digit}
use Rattle.vs_stim.specs.declared.wanted.Digit.TheVariants.{Exactly, Any}

-- 0, 1, x or z
abbrev pub bit_byte : Bit4 → ℕ
bit_byte Zero = 48
bit_byte One = 49
bit_byte X = 120
bit_byte Z = 122

-- or - for any bit
abbrev pub digit_byte : Digit → ℕ
digit_byte (Exactly b) = bit_byte b
digit_byte Any = 45

-- what was wanted
abbrev pub wanted_text : List Digit → List ℕ
wanted_text ds = map digit_byte (reverse ds)

-- what it was
abbrev pub bits_text : BitList → List ℕ
bits_text bits = map bit_byte (reverse bits)
