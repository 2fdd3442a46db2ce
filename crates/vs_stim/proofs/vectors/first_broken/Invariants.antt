use Rattle.std.proofs.Common.{◌≡◌, drop}
use Rattle.vs_stim.specs.Vectors.{broken, broken_from}
use Rattle.vs_stim.proofs.vectors.first_broken.Given as goal

-- what is found so far, and what is found from here on
abbrev pub invariant-loop-column : goal.invariant-loop-column
invariant-loop-column l = broken_from l.first (drop l.column-index l.columns) l.values ≡ broken l.columns l.values
