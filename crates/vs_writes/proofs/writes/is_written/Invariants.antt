use Rattle.std.proofs.Common.{◌≡◌, drop}
use Rattle.vs_net.specs.Network as N
use Rattle.vs_writes.proofs.writes.is_written.Given as goal

abbrev pub invariant-loop-write : goal.invariant-loop-write
invariant-loop-write l = N.is_written l.writes l.bit ≡ N.is_written (drop l.write-index l.writes) l.bit
