use Rattle.vs_plane.proofs.AnyBits.{AreWordsOr}
use Rattle.vs_plane.proofs.arrays.WordsLanes.any.Given as goal

-- the bits of the words so far together
abbrev pub invariant-loop-k : goal.invariant-loop-k
invariant-loop-k g l = AreWordsOr l.self.words l.k l.bits
