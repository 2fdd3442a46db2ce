use Rattle.std.proofs.Common.{◌*◌, length}
use Rattle.vs_feed.proofs.Packs.{ArePacked}
use Rattle.vs_feed.proofs.column.feed_input.Given as goal

abbrev pub invariant-loop-k : goal.invariant-loop-k
invariant-loop-k g l = ArePacked g.W.Word.lane g.W.Word.LANES (64 * l.k) l.stimuli l.input (length l.fn.pairs) l.pairs
