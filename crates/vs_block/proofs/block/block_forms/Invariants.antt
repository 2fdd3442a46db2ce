use Rattle.vs_flat.specs.DesignOf.{design_of}
use Rattle.vs_block.proofs.Blocks.{NoneBefore}
use Rattle.vs_block.proofs.block.block_forms.Given as goal

abbrev pub invariant-loop-n : goal.invariant-loop-n
invariant-loop-n l = NoneBefore (design_of l.typed) l.n
