-- The bits of a block's statement, also of the completed one.
use Rattle.std.proofs.Common.{ℕ, Bool, List, sym, ◌∙◌}
use Rattle.vs_flat.specs.Arena.{Arena}
use Rattle.vs_sets.specs.Completing.{done}
use Rattle.vs_sets.proofs.Completing.{done_bits}
use Rattle.vs_zero.specs.Blocks.{IsBlockOf}
use Rattle.vs_zero.proofs.Turning.{AreOwn}

pub own : (complete : Bool) (a : Arena) (s : ℕ) (bits : List ℕ) → IsBlockOf a s bits → AreOwn bits (done complete a s)
own complete a s bits block b = block.own b ∙ sym (done_bits complete a s b)
