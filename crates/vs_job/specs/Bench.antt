-- The words of the command line, and the bench that they call for.
use Rattle.std.specs.Prelude.{ℕ, ◌≤◌, List, [], ◌∷◌, Option, Some, None, codes, bytes_eq, if◌then◌else◌}
use Rattle.vs_desk.specs.Places.{most_lanes}
use Rattle.vs_job.specs.declared.bench.Bench.{Bench}
use Rattle.vs_job.specs.Job.{◌>>=◌, Text, count_value}

-- the greatest number of vectors of a bench
abbrev pub most_vectors : ℕ
most_vectors = 1000

-- the bench of these words behind `bench`: how many vectors each lane has, and how many lanes there are, 64 where it
-- isn't said
abbrev pub sized : List Text → Option Bench
sized (vectors ∷ []) = do
  n ← count_value most_vectors vectors
  Some (record { vectors = n; lanes = 64 })
sized (vectors ∷ lanes ∷ []) = do
  n ← count_value most_vectors vectors
  l ← count_value most_lanes lanes
  Some (record { vectors = n; lanes = l })
sized _ = None

-- the bench that the words call for, the program's own name first; none where they call for none
unfoldable pub bench : List Text → Option Bench
bench (program ∷ command ∷ words) = if bytes_eq command (codes "bench") then sized words else None
bench _ = None

-- the ranges that every bench keeps
pub record IsBench (b : Bench) : Type 0 where
  pub vectors_from : 1 ≤ b.vectors
  pub vectors_to : b.vectors ≤ most_vectors
  pub lanes_from : 1 ≤ b.lanes
  pub lanes_to : b.lanes ≤ most_lanes
