use Rattle.std.proofs.Common.{take}
use Rattle.vs_design.specs.Rules.{times}
use Rattle.vs_driver.proofs.Writing.{AddsEach}
use Rattle.vs_driver.proofs.writers.with_each.Given as goal

abbrev pub invariant-loop-other : goal.invariant-loop-other
invariant-loop-other l = AddsEach l.fn.so_far l.writers l.x (times l.bit (take l.other-index l.bits))
