-- Expressions in which nothing is over 64 bits, and their parts.
use Rattle.std.proofs.Common.{◌≡◌, ◌+◌, ◌*◌, true, min, length, arith}
use Rattle.std.specs.Prelude.{◌&&◌, ◌==◌}
use Rattle.std.specs.List.{list_all}
use Rattle.vs_four.specs.Selects.{range_length}
use Rattle.vs_design.specs.Expressions.{Expression, Literal, Name, Select, Word, WordPart, Unary, Binary, Choice, Join, Repeat, At, Call, signal_length, word_length, width}
use Rattle.vs_design.specs.Fits.{source_length, fit_items, fits_signal, fits_statement, fits, fits_64, fits_word_part}
use Rattle.vs_design.proofs.WidthExact.{width_most}
use Rattle.vs_sets.proofs.Fit.{and_left, and_right, left3, middle3, is64_of, same_number}
use Rattle.vs_interpret.specs.Fitting.{HasFitting}

pub width_least : (e : Expression) → fits e ≡ true → min (width e) 65 ≡ width e
width_least e h = omega (arith, width_most e h)

pub fitting : (e : Expression) → fits e ≡ true → HasFitting e
fitting (Literal bits signed sized) p = is64_of (length bits) p
fitting (Name signal) p = is64_of (signal_length signal) p
fitting (Select source part index) p = (
  is64_of part.width (left3 (fits_64 part.width) (range_length part.range == source_length source) (fits index) p),
  same_number _ _ (middle3 (fits_64 part.width) (range_length part.range == source_length source) (fits index) p),
  and_right (fits_64 part.width && (range_length part.range == source_length source)) (fits index) p,
)
fitting (Word signal index) p = (is64_of (word_length signal) (and_left (fits_64 (word_length signal)) (fits index) p), and_right (fits_64 (word_length signal)) (fits index) p)
fitting (WordPart signal address part index) p =
    let front = and_left (fits_word_part signal part && fits address) (fits index) p in
    let own = and_left (fits_word_part signal part) (fits address) front in (
      is64_of part.width (and_left (fits_64 part.width) _ own),
      same_number _ _ (and_right (fits_64 part.width) _ own),
      and_right (fits_word_part signal part) (fits address) front,
      and_right (fits_word_part signal part && fits address) (fits index) p,
    )
fitting (Unary op a) p = p
fitting (Binary op a b) p = (and_left (fits a) (fits b) p, and_right (fits a) (fits b) p)
fitting (Choice c a b) p = (left3 (fits c) (fits a) (fits b) p, middle3 (fits c) (fits a) (fits b) p, and_right (fits c && fits a) (fits b) p)
fitting (Join high low) p = (
  is64_of (width high + width low) (left3 (fits_64 (width high + width low)) (fits high) (fits low) p),
  middle3 (fits_64 (width high + width low)) (fits high) (fits low) p,
  and_right (fits_64 (width high + width low) && fits high) (fits low) p,
)
fitting (Repeat count a) p = (is64_of (count * width a) (and_left (fits_64 (count * width a)) (fits a) p), and_right (fits_64 (count * width a)) (fits a) p)
fitting (At place e) p = fitting e p
fitting (Call header statement arguments) p =
    let result = fits_64 (signal_length header.result) in
    let inputs = list_all fits_signal header.inputs in
    let inner = and_left (result && inputs && fit_items arguments) (fits_statement statement) p in (
      is64_of (signal_length header.result) (left3 result inputs (fit_items arguments) inner),
      middle3 result inputs (fit_items arguments) inner,
      and_right (result && inputs) (fit_items arguments) inner,
      and_right (result && inputs && fit_items arguments) (fits_statement statement) p,
    )
