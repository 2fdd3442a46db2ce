use Rattle.vs_waves.proofs.Lanes.{FirstsGoOn}
use Rattle.vs_waves.proofs.Keeping.{noted}
use Rattle.vs_waves.proofs.waves.note_live.Given as goal

abbrev pub invariant-loop-lane : goal.invariant-loop-lane
invariant-loop-lane l = FirstsGoOn noted l.live l.fn.lanes l.lanes l.lane
