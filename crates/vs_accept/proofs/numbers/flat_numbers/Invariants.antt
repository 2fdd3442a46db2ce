use Rattle.std.proofs.Common.{◌≡◌, map, take}
use Rattle.vs_flat.specs.DesignOf.{design_of}
use Rattle.vs_accept.specs.Numbers.{process_number}
use Rattle.vs_accept.proofs.numbers.flat_numbers.Given as goal

abbrev pub invariant-loop-process : goal.invariant-loop-process
invariant-loop-process l = l.told.items ≡ map (process_number (design_of l.flat)) (take l.process-index l.processes)
