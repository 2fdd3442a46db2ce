use Rattle.vs_feed.specs.Fed.{AreFed}
use Rattle.vs_feed.proofs.column.feed_all.Given as goal

abbrev pub invariant-loop-pair : goal.invariant-loop-pair
invariant-loop-pair g l = AreFed g.W.Word.lane g.W.Word.LANES l.pair-index l.stimuli l.pairs
