use Rattle.std.proofs.Common.{◌≡◌, map, drop}
use Rattle.vs_elaborated.specs.Limits.{the_limits}
use Rattle.vs_scope.specs.Bits.{over}
use Rattle.vs_scope.specs.Locals.{placed_local}
use Rattle.vs_scope.proofs.block_scopes.variables_fault.Given as goal

abbrev pub invariant-loop-s : goal.invariant-loop-s
invariant-loop-s l = over the_limits.bits l.sum (map placed_local (drop l.s-index l.signals)) ≡ over the_limits.bits l.fn.total (map placed_local l.signals)
