-- Bits that more than one assignment on a path through a statement may write.
use Rattle.std.specs.Prelude.{◌≡◌, ◌<◌, ℕ, Bool, true, ◌||◌, List, length, map, nat_le, Some, Option, slice_get, slice_index}
use Rattle.vs_design.specs.Statements.{Statement, Arms}
use Rattle.vs_design.specs.Fits.{fits_statement}
use Rattle.vs_design.specs.Footprints.{contains}
use Rattle.vs_design.specs.Sleepers.{most_writes, arms_most}
use Rattle.vs_flat.specs.declared.statements.Arm.{Arm}
use Rattle.vs_flat.specs.Arena.{Arena}
use Rattle.vs_flat.specs.Trees.{branch, sequence}
use Rattle.vs_sets.specs.StatementParts.{BranchBelow, statement_of}

abbrev pub is_twice : Statement → ℕ → Bool
is_twice s b = nat_le 2 (most_writes s b)

abbrev pub is_twice_in : Arms → ℕ → Bool
is_twice_in arms b = nat_le 2 (arms_most arms b)

-- these statements, one after the other
abbrev pub in_order : Arena → List ℕ → Statement
in_order a parts = sequence (map (statement_of a) parts)

-- to the bits of before come those of which the test holds
abbrev pub Adds : (ℕ → Bool) → List ℕ → List ℕ → Type 0
Adds test before after = (b : ℕ) → contains after b ≡ (contains before b || test b)

-- each is an earlier statement of which nothing is over 64 bits
abbrev pub PartsFit : Arena → ℕ → List ℕ → Type 0
PartsFit a n parts = (k : ℕ) → k < length parts → (slice_index parts k < n) × (fits_statement (statement_of a (slice_index parts k)) ≡ true)

abbrev pub BranchFits : Arena → ℕ → Option ℕ → Type 0
BranchFits a n b = BranchBelow n b × (fits_statement (branch (statement_of a) b) ≡ true)

abbrev pub ArmsFit : Arena → ℕ → List Arm → Type 0
ArmsFit a n arms = (k : ℕ) (arm : Arm) → slice_get arms k ≡ Some arm → (arm.statement < n) × (fits_statement (statement_of a arm.statement) ≡ true)
