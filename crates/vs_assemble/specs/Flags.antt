-- A flag for each bit, and lists that have the same bits.
use Rattle.std.specs.Prelude.{◌≡◌, ℕ, ◌<◌, Bool, false, List, length, All, slice_index_or}
use Rattle.vs_design.specs.Footprints.{contains}

-- the list has exactly the bits of the other one, all of them among so many
pub record HasBitsOf (count : ℕ) (list all : List ℕ) : Type 0 where
  pub same : (b : ℕ) → contains list b ≡ contains all b
  pub below : All (λ b. b < count) list

-- the flag of each bit says whether it is one of these
pub record AreFlags (flags : List Bool) (bits : List ℕ) : Type 0 where
  pub flag : (b : ℕ) → b < length flags → slice_index_or flags b false ≡ contains bits b
