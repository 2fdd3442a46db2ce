use Rattle.vs_waves.proofs.Lanes.{FirstsGoOn}
use Rattle.vs_waves.proofs.Keeping.{closed}
use Rattle.vs_waves.proofs.waves.close_ended.Given as goal

abbrev pub invariant-loop-lane : goal.invariant-loop-lane
invariant-loop-lane l = FirstsGoOn closed l.live l.fn.lanes l.lanes l.lane
