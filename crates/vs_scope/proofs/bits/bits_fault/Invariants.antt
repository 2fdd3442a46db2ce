use Rattle.std.proofs.Common.{◌≡◌, map, drop}
use Rattle.vs_elaborated.specs.Limits.{the_limits}
use Rattle.vs_scope.specs.Bits.{over}
use Rattle.vs_scope.specs.Signalled.{placed}
use Rattle.vs_scope.proofs.bits.bits_fault.Given as goal

abbrev pub invariant-loop-s : goal.invariant-loop-s
invariant-loop-s l = over the_limits.bits l.sum (map placed (drop l.s-index l.signals)) ≡ over the_limits.bits l.fn.total (map placed l.signals)
