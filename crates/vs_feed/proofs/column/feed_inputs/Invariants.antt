use Rattle.std.proofs.Common.{◌≡◌, sum, take}
use Rattle.vs_stim.specs.Row.{sizes}
use Rattle.vs_feed.specs.Lanes.{lane_at}
use Rattle.vs_feed.specs.Fed.{AreFed}
use Rattle.vs_feed.proofs.column.feed_inputs.Given as goal

abbrev pub invariant-loop-input : goal.invariant-loop-input
invariant-loop-input g l = record {
  first : l.first ≡ sum (take l.input (sizes (lane_at l.stimuli 0).vector));
  fed : AreFed g.W.Word.lane g.W.Word.LANES l.first l.stimuli l.pairs;
}
