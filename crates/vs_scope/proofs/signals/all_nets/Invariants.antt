use Rattle.std.proofs.Common.{◌≡◌, ◌++◌, map, flat_map, drop}
use Rattle.vs_scope.specs.Signalled.{net, nets_in}
use Rattle.vs_scope.proofs.signals.all_nets.Given as goal

abbrev pub invariant-loop-s : goal.invariant-loop-s
invariant-loop-s l = map net l.nets.items ++ flat_map nets_in (drop l.s-index l.signals) ≡ flat_map nets_in l.signals
