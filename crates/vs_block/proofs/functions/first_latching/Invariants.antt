use Rattle.std.proofs.Common.{◌≡◌, take}
use Rattle.vs_design.specs.Refusals.{least}
use Rattle.vs_design.specs.Rules.{function_latches}
use Rattle.vs_flat.specs.DesignOf.{design_of}
use Rattle.vs_block.proofs.functions.first_latching.Given as goal

abbrev pub invariant-loop-f : goal.invariant-loop-f
invariant-loop-f l = l.first ≡ least (function_latches (take l.f (design_of l.typed).functions))
