-- Lines of plain digits.
use Rattle.std.specs.Prelude.{◌≡◌, ℕ, ◌+◌, ◌≤◌, ◌<◌, true, false, List, [], ◌∷◌, ◌++◌, length, drop, Some}
use Rattle.vs_four.specs.declared.Bit4.{Bit4}
use Rattle.vs_stim.specs.declared.input.Column.{Column}
use Rattle.vs_stim.specs.declared.input.Expected.{Expected}
use Rattle.vs_stim.specs.declared.row.Row.{Row}
use Rattle.vs_stim.specs.declared.source.Source.{Source}
use Rattle.vs_stim.specs.Fields.{is_skipped, fields}
use Rattle.vs_stim.specs.Lines.{is_inner}
use Rattle.vs_stim.specs.Reading.{limits}
use Rattle.vs_stim.specs.Reading.Said.{Given}
use Rattle.vs_stim.specs.Vectors.{Entry, bits_of}
use Rattle.vs_stim.specs.Wanted.{Wanteds}
use Rattle.vs_stim.specs.Wants.{wanted_to_come, wants_to_come}
use Rattle.vs_stim.specs.Row.{Values, Tail, with_values, to_come, row_with, entry_in}

-- The bytes begin with a field of so many digits, whose bits these are, and this byte behind it.
pub record IsField (bytes : List ℕ) (size end : ℕ) (bits : List Bit4) : Type 0 where
  pub digits : List ℕ
  pub bytes_are : bytes ≡ digits ++ end ∷ drop (size + 1) bytes
  pub many : length digits ≡ size
  pub are : bits_of digits ≡ Some bits

-- The bytes begin with a text of so many, in which no line ends.
pub record Begins (bytes text : List ℕ) (count : ℕ) : Type 0 where
  pub bytes_are : bytes ≡ text ++ drop count bytes
  pub long : length text ≡ count
  pub inner : is_inner text ≡ true

-- And the same of a line, with its LF.
pub record BeginsLine (bytes text : List ℕ) (count : ℕ) : Type 0 where
  pub bytes_are : bytes ≡ text ++ 10 ∷ drop count bytes
  pub long : length text + 1 ≡ count
  pub inner : is_inner text ≡ true

-- So many bytes are fields of the first columns, this many, and their values are stored.
pub record ReadsInputs (columns : List Column) (fields_read count : ℕ) (bytes : List ℕ) (before after : Values) : Type 0 where
  pub text : List ℕ
  pub begins : Begins bytes text count
  pub counts : (rest : List ℕ) → is_skipped rest ≡ false → is_skipped (text ++ rest) ≡ false
  pub says : (tail : Tail) (rest : List ℕ) → to_come tail columns before (fields (text ++ rest)) ≡ to_come tail (drop fields_read columns) after (fields rest)

-- And the same of the fields of all columns, with an LF behind them.
pub record EndsInputs (columns : List Column) (count : ℕ) (bytes : List ℕ) (before after : Values) : Type 0 where
  pub text : List ℕ
  pub begins : BeginsLine bytes text count
  pub counts : is_skipped text ≡ false
  pub says : (tail : Tail) → to_come tail columns before (fields text) ≡ with_values after (tail [])

-- And of the fields of expected outputs.
pub record ReadsExpected (columns : List Expected) (fields_read count : ℕ) (bytes : List ℕ) (before after : Wanteds) : Type 0 where
  pub text : List ℕ
  pub begins : Begins bytes text count
  pub says : (rest : List ℕ) → wanted_to_come columns 0 before (fields (text ++ rest)) ≡ wanted_to_come (drop fields_read columns) fields_read after (fields rest)

pub record EndsExpected (columns : List Expected) (count : ℕ) (bytes : List ℕ) (before after : Wanteds) : Type 0 where
  pub text : List ℕ
  pub begins : BeginsLine bytes text count
  pub says : wanted_to_come columns 0 before (fields text) ≡ Given after

-- the field `->` and a space
abbrev pub IsArrow : List ℕ → Type 0
IsArrow bytes = bytes ≡ 45 ∷ 62 ∷ 32 ∷ drop 3 bytes

-- So many bytes are a line that isn't skipped and gives the entry.
pub record IsLine (columns : List Column) (expected : List Expected) (count : ℕ) (bytes : List ℕ) (before after : Entry) : Type 0 where
  pub text : List ℕ
  pub begins : BeginsLine bytes text count
  pub counts : is_skipped text ≡ false
  pub says : to_come (wants_to_come expected before.wanted) columns before.values (fields text) ≡ Given after

-- A reader passed the LF behind this text of its line, and no byte is past a limit.
pub record PassedLine (text : List ℕ) (old new : Source) : Type 0 where
  pub block : old.block ≡ text ++ 10 ∷ new.block
  pub moved : new ≡ record old { block = new.block; number = old.number + 1; start = old.start + old.length + (length text + 1); length = 0 }
  pub line : old.length + length text ≤ limits.line
  pub bytes : old.start + old.length + length text < limits.bytes

-- The row has read a line of so many bytes with its LF, which stands in the reader's block, is a vector, and has no byte past a limit.
pub record HasLine (before after : Row) (s : Source) (count : ℕ) : Type 0 where
  pub text : List ℕ
  pub begins : BeginsLine s.block text count
  pub line : s.length + count ≤ limits.line
  pub bytes : s.start + s.length + count ≤ limits.bytes
  pub says : row_with before text ≡ Given (entry_in after)
