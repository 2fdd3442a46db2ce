use Rattle.std.proofs.Common.{◌≡◌, ◌++◌, map}
use Rattle.vs_scope.specs.Signalled.{net}
use Rattle.vs_scope.proofs.ArrayNets.{nets_below}
use Rattle.vs_scope.proofs.signals.push_nets.Given as goal

abbrev pub invariant-loop-k : goal.invariant-loop-k
invariant-loop-k l = map net l.nets.items ≡ map net l.fn.nets.items ++ nets_below (net l.s) l.k
