-- Combinational blocks of a flat design.
use Rattle.std.specs.Prelude.{◌≡◌, ◌<◌, ◌&&◌, ℕ, Bool, true, false, [], List, length, All}
use Rattle.vs_design.specs.Designs.{bit_count}
use Rattle.vs_design.specs.Fits.{fits_statement}
use Rattle.vs_design.specs.Footprints.{contains, statement_bits}
use Rattle.vs_design.specs.Lifted.{Family}
use Rattle.vs_design.specs.Rules.{mixed_in}
use Rattle.vs_design.specs.Sets.{is_unknown_set, is_known_set}
use Rattle.vs_design.specs.Within.{statement_within}
use Rattle.vs_flat.specs.Arena.{Arena}
use Rattle.vs_flat.specs.DesignOf.{design_of}
use Rattle.vs_sets.specs.StatementParts.{statement_of}

-- the statement of such a block, of which nothing is over 64 bits and which mixes no assignments; these are the bits that it writes
pub record IsBlockOf (a : Arena) (s : ℕ) (bits : List ℕ) : Type 0 where
  pub there : s < length a.statements
  pub fits : fits_statement (statement_of a s) ≡ true
  pub unmixed : mixed_in false (statement_of a s) ≡ []
  pub names : statement_within (bit_count (design_of a)) (statement_of a s) ≡ true
  pub within : All (λ b. b < bit_count (design_of a)) bits
  pub own : (b : ℕ) → contains bits b ≡ contains (statement_bits (statement_of a s)) b

-- a bit that is surely x or z early, and surely 0 or 1 late
abbrev pub may_wake : Family → Family → ℕ → Bool
may_wake early late b = is_unknown_set (early b) && is_known_set (late b)
