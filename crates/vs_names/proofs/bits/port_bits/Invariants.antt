use Rattle.std.proofs.Common.{◌≡◌, ◌<◌, ℕ, false}
use Rattle.vs_flat.specs.DesignOf.{arena_signals}
use Rattle.vs_flat.specs.Trees.{signal_at}
use Rattle.vs_names.specs.Drawn as spec
use Rattle.vs_names.proofs.bits.port_bits.Given as goal

abbrev pub invariant-loop-n : goal.invariant-loop-n
invariant-loop-n l = (q : ℕ) → q < l.n → spec.is_port l.name (signal_at (arena_signals l.flat) q) ≡ false
