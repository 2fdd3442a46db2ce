use Rattle.std.proofs.Common.{◌≡◌, drop}
use Rattle.std.specs.List.{list_any}
use Rattle.vs_queue.specs.Initially.{is_own_write}
use Rattle.vs_queue.proofs.starts.has_own.Given as goal

abbrev pub invariant-loop-write : goal.invariant-loop-write
invariant-loop-write l = list_any (is_own_write l.owners l.p) (drop l.write-index l.writes) ≡ list_any (is_own_write l.owners l.p) l.writes
