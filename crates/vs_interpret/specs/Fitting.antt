-- What holds of the parts of an expression in which nothing is over 64 bits.
use Rattle.std.specs.Prelude.{◌≡◌, ◌+◌, ◌*◌, true, length}
use Rattle.std.specs.List.{list_all}
use Rattle.vs_four.specs.Selects.{range_length}
use Rattle.vs_design.specs.Expressions.{Expression, Literal, Name, Select, Word, WordPart, Unary, Binary, Choice, Join, Repeat, At, Call, signal_length, word_length, width}
use Rattle.vs_design.specs.Fits.{source_length, fits, fit_items, fits_signal, fits_statement}
use Rattle.vs_sets.specs.FitParts.{Is64}

-- in them nothing is either
abbrev pub HasFitting : Expression → Type 0
HasFitting (Literal bits signed sized) = Is64 (length bits)
HasFitting (Name signal) = Is64 (signal_length signal)
HasFitting (Select source part index) = Is64 part.width × (range_length part.range ≡ source_length source) × (fits index ≡ true)
HasFitting (Word signal index) = Is64 (word_length signal) × (fits index ≡ true)
HasFitting (WordPart signal address part index) = Is64 part.width × (range_length part.range ≡ word_length signal) × (fits address ≡ true) × (fits index ≡ true)
HasFitting (Unary op a) = fits a ≡ true
HasFitting (Binary op a b) = (fits a ≡ true) × (fits b ≡ true)
HasFitting (Choice c p q) = (fits c ≡ true) × (fits p ≡ true) × (fits q ≡ true)
HasFitting (Join high low) = Is64 (width high + width low) × (fits high ≡ true) × (fits low ≡ true)
HasFitting (Repeat count a) = Is64 (count * width a) × (fits a ≡ true)
HasFitting (At place e) = HasFitting e
HasFitting (Call header statement arguments) = Is64 (signal_length header.result) × (list_all fits_signal header.inputs ≡ true) × (fit_items arguments ≡ true) × (fits_statement statement ≡ true)
