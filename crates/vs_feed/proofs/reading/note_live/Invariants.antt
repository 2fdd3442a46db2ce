use Rattle.std.proofs.Common.{◌≡◌, map, take}
use Rattle.vs_feed.proofs.reading.note_live.Given as goal

abbrev pub invariant-loop-lane : goal.invariant-loop-lane
invariant-loop-lane l = take l.lane l.live ≡ map (λ k. k.live) (take l.lane l.stimuli)
