use Rattle.std.proofs.Common.{◌<◌, length, arith}
use Rattle.vs_refusal.proofs.Chained.{put_then, failed_before, moved}
use Rattle.vs_top.proofs.Telling.{split_misses, next_misses, all_misses}
use Rattle.vs_top.proofs.verdicts.put_misses.Goals as goal

pub returns-in_err-put_lane : goal.returns-in_err-put_lane
returns-in_err-put_lane g c =
    let found = c.args.misses.now.found in
    let below : c.loop-lane.lane < length found = omega (arith, c.requires, c.loop-lane-test.true) in
    rw (split_misses c.loop-lane.lane found below)
    (put_then c.put_law.ensures.parts _ _ _ _ _ _ _ c.loop-lane.invariant (failed_before _ _ _ _ _ _ c.from_residual.ensures.0 c.in_err-put_lane.ensures))

pub loop-lane-preserved : goal.loop-lane-preserved
loop-lane-preserved g c =
    let found = c.args.misses.now.found in
    let below : c.loop-lane.lane < length found = omega (arith, c.requires, c.loop-lane-test.true) in
    rw (next_misses c.loop-lane.lane found below) (moved _ _ _ _ (put_then c.put_law.ensures.parts _ _ _ _ _ _ _ c.loop-lane.invariant c.in_ok-put_lane.ensures))

pub returns : goal.returns
returns g c =
    rw (← all_misses c.loop-lane.lane c.args.misses.now.found (omega (arith, c.requires, c.loop-lane-test.false))) (moved _ _ _ _ c.loop-lane.invariant)
