use Rattle.std.proofs.Common.{◌==◌}
use Rattle.std.specs.Int.{bit_at}
use Rattle.vs_plane.specs.Lanes.{decode}
use Rattle.vs_misses.proofs.Words.{AreFilled}
use Rattle.vs_misses.proofs.packing.fill.Given as goal

abbrev pub invariant-loop-n : goal.invariant-loop-n
invariant-loop-n g l = AreFilled g.W.Word.lane g.W.Word.LANES l.k l.n (λ i. decode (bit_at l.value i == 1) (bit_at l.unknown i == 1)) l.initial.pairs l.pairs
