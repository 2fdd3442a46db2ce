use Rattle.std.proofs.Common.{◌≡◌, map, take}
use Rattle.vs_flat.specs.DesignOf.{design_of}
use Rattle.vs_clock.specs.Dead.{is_labelled_block}
use Rattle.vs_clock.proofs.dead.dead_blocks.Given as goal

abbrev pub invariant-loop-p : goal.invariant-loop-p
invariant-loop-p l = l.dead.items ≡ map (is_labelled_block l.labels.items) (take l.p (design_of l.flat).processes)
