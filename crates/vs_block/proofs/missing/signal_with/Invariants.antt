use Rattle.std.proofs.Common.{◌≡◌, ◌<◌, ℕ, false}
use Rattle.vs_design.specs.Footprints.{contains}
use Rattle.vs_design.specs.Values.{bits_of_signal}
use Rattle.vs_flat.specs.DesignOf.{arena_signals}
use Rattle.vs_flat.specs.Trees.{signal_at}
use Rattle.vs_block.proofs.missing.signal_with.Given as goal

abbrev pub invariant-loop-n : goal.invariant-loop-n
invariant-loop-n l = (q : ℕ) → q < l.n → contains (bits_of_signal (signal_at (arena_signals l.flat) q)) l.bit ≡ false
