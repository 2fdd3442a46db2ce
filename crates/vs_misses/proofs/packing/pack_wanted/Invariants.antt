use Rattle.std.proofs.Common.{◌*◌, length}
use Rattle.vs_misses.proofs.Packs.{ArePacked}
use Rattle.vs_misses.proofs.packing.pack_wanted.Given as goal

abbrev pub invariant-loop-k : goal.invariant-loop-k
invariant-loop-k g l = ArePacked g.W.Word.lane g.W.Word.LANES (64 * l.k) l.drive l.places (length l.fn.wanted) l.wanted l.free
