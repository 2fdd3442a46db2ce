use Rattle.std.proofs.Common.{◌≡◌, ◌++◌, filter, drop}
use Rattle.vs_queue.specs.Initially.{is_own_write}
use Rattle.vs_queue.proofs.starts.own_writes.Given as goal

abbrev pub invariant-loop-write : goal.invariant-loop-write
invariant-loop-write l = l.own ++ filter (is_own_write l.owners l.p) (drop l.write-index l.writes) ≡ filter (is_own_write l.owners l.p) l.writes
