-- Branches and parts of a statement, which run before what follows.
use Rattle.std.specs.Prelude.{◌≡◌, ◌<◌, ℕ, true, List, length, Option, Some, slice_index}
use Rattle.vs_design.specs.Fits.{fits_statement}
use Rattle.vs_design.specs.Within.{statement_within}
use Rattle.vs_flat.specs.Arena.{Arena}
use Rattle.vs_flat.specs.Trees.{branch}
use Rattle.vs_sets.specs.StatementParts.{BranchBelow, statement_of}

-- the branch is an earlier statement of which nothing is over 64 bits, and names bits among the first of this many alone
pub record Runs (a : Arena) (count n : ℕ) (b : Option ℕ) : Type 0 where
  pub earlier : BranchBelow n b
  pub fits : fits_statement (branch (statement_of a) b) ≡ true
  pub within : statement_within count (branch (statement_of a) b) ≡ true

abbrev pub EachRuns : Arena → (count n : ℕ) → List ℕ → Type 0
EachRuns a count n parts = (k : ℕ) → k < length parts → Runs a count n (Some (slice_index parts k))
