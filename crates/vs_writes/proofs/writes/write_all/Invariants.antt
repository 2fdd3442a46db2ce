use Rattle.std.proofs.Common.{◌≡◌, drop}
use Rattle.vs_net.specs.Network as N
use Rattle.vs_writes.specs.Held.{state_of}
use Rattle.vs_writes.proofs.writes.write_all.Given as goal

abbrev pub invariant-loop-write : goal.invariant-loop-write
invariant-loop-write l = N.write_all (state_of l.values) (drop l.write-index l.writes) ≡ N.write_all (state_of l.initial.values) l.writes
