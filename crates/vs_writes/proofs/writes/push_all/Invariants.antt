use Rattle.std.proofs.Common.{◌≡◌, ◌++◌, take}
use Rattle.vs_writes.proofs.writes.push_all.Given as goal

abbrev pub invariant-loop-write : goal.invariant-loop-write
invariant-loop-write l = l.list.items ≡ l.initial.list.items ++ take l.write-index l.writes
