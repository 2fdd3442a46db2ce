use Rattle.std.proofs.Common.{◌≡◌, take}
use Rattle.vs_flat.specs.Arena.{bit_count}
use Rattle.vs_flat.proofs.bits.count_bits.Given as goal

abbrev pub invariant-loop-n : goal.invariant-loop-n
invariant-loop-n l = l.count ≡ bit_count (take l.n l.flat.signals)
