use Rattle.std.proofs.Common.{◌≡◌, map, take, string_bytes}
use Rattle.vs_job.proofs.paths.stimulus_paths.Given as goal

abbrev pub invariant-loop-stimulus : goal.invariant-loop-stimulus
invariant-loop-stimulus l = map string_bytes l.paths.items ≡ take l.stimulus-index l.stimulus-items
