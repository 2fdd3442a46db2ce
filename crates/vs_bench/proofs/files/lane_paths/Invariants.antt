use Rattle.std.proofs.Common.{◌≡◌}
use Rattle.vs_bench.specs.Bench.{lane_paths}
use Rattle.vs_bench.proofs.files.lane_paths.Given as goal

abbrev pub invariant-loop-lane : goal.invariant-loop-lane
invariant-loop-lane l = l.paths.items ≡ lane_paths l.lane
