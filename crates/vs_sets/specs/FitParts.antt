-- What holds of the parts of an expression in which nothing is over 64 bits or divided at run time.
use Rattle.std.specs.Prelude.{◌≡◌, ◌≤◌, ◌+◌, ◌*◌, ℕ, true, length}
use Rattle.std.specs.List.{list_all}
use Rattle.vs_four.specs.Selects.{range_length}
use Rattle.vs_design.specs.Expressions.{Expression, Literal, Name, Select, Word, WordPart, Unary, Binary, Choice, Join, Repeat, At, Call, signal_length, word_length, width, is_constant}
use Rattle.vs_design.specs.Fits.{source_length, is_fit, fit_items, fits_signal, fits_statement, is_division}

-- from 1 to 64 bits
abbrev pub Is64 : ℕ → Type 0
Is64 n = (1 ≤ n) × (n ≤ 64)

-- its operands are fit, and those of a division are constant
abbrev pub FitParts : Expression → Type 0
FitParts (Literal bits signed sized) = Is64 (length bits)
FitParts (Name signal) = Is64 (signal_length signal)
FitParts (Select source part index) = Is64 part.width × (range_length part.range ≡ source_length source) × (is_fit index ≡ true)
FitParts (Word signal index) = Is64 (word_length signal) × (is_fit index ≡ true)
FitParts (WordPart signal address part index) = Is64 part.width × (range_length part.range ≡ word_length signal) × (is_fit address ≡ true) × (is_fit index ≡ true)
FitParts (Unary op a) = is_fit a ≡ true
FitParts (Binary op a b) = (is_fit a ≡ true) × (is_fit b ≡ true) × (is_division op ≡ true → is_constant (Binary op a b) ≡ true)
FitParts (Choice c p q) = (is_fit c ≡ true) × (is_fit p ≡ true) × (is_fit q ≡ true)
FitParts (Join high low) = Is64 (width high + width low) × (is_fit high ≡ true) × (is_fit low ≡ true)
FitParts (Repeat count a) = Is64 (count * width a) × (is_fit a ≡ true)
FitParts (At place e) = FitParts e
-- those of a call are its arguments, and its statement
FitParts (Call header statement arguments) = Is64 (signal_length header.result) × (list_all fits_signal header.inputs ≡ true) × (fit_items arguments ≡ true) × (fits_statement statement ≡ true)
