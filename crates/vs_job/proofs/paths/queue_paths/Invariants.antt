use Rattle.std.proofs.Common.{◌≡◌, map, take, string_bytes}
use Rattle.vs_job.specs.Places.{queue_path}
use Rattle.vs_job.proofs.paths.queue_paths.Given as goal

abbrev pub invariant-loop-stimulus : goal.invariant-loop-stimulus
invariant-loop-stimulus l = map string_bytes l.paths.items ≡ map queue_path (take l.stimulus-index l.stimulus-items)
