use Rattle.vs_plane.proofs.PackedBits.{ArePacked}
use Rattle.vs_plane.proofs.pairs.Pair.pack.Given as goal

abbrev pub invariant-loop-n : goal.invariant-loop-n
invariant-loop-n g l = ArePacked g.W.Word.lane g.W.Word.LANES l.k l.n l.value l.unknown l.initial.pairs l.pairs
