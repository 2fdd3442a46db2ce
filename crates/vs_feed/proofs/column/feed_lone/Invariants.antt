use Rattle.vs_feed.proofs.Packs.{AreLone}
use Rattle.vs_feed.proofs.column.feed_lone.Given as goal

abbrev pub invariant-loop-n : goal.invariant-loop-n
invariant-loop-n g l = AreLone g.W.Word.lane g.W.Word.LANES l.n l.value l.unknown l.pairs
