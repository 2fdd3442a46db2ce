-- What a walk needs of the selects and targets that it comes to.
use Rattle.std.specs.Prelude.{◌≡◌, ◌==◌, true, is_some}
use Rattle.vs_four.specs.Selects.{Part, range_length}
use Rattle.vs_design.specs.Expressions.{Signal, Source, Expression}
use Rattle.vs_design.specs.Fits.{fits_64, fits, source_length, fits_word_part, fits_target}
use Rattle.vs_flat.specs.Targets.{target_of}
use Rattle.vs_flat.specs.Trees.{target_tree}

-- a select of 1 to 64 bits with the range of its source
pub record IsSourceFit (source : Source) (part : Part) (index : Expression) : Type 0 where
  pub width : fits_64 part.width ≡ true
  pub range : (range_length part.range == source_length source) ≡ true
  pub index_fits : fits index ≡ true

-- a part of a word, of 1 to 64 bits, with a range of as many bits as the word
pub record IsWordPartFit (signal : Signal) (address : Expression) (part : Part) (index : Expression) : Type 0 where
  pub part_fits : fits_word_part signal part ≡ true
  pub address_fits : fits address ≡ true
  pub index_fits : fits index ≡ true

-- the expression is a target, of 1 to 64 bits
pub record IsTarget (e : Expression) : Type 0 where
  pub target : is_some (target_of e) ≡ true
  pub fits : fits_target (target_tree e) ≡ true
