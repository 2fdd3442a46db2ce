use Rattle.std.proofs.Common.{◌+◌, Bool, get_or, refl, ap, arith}
use Rattle.std.specs.Prelude.{false}
use Rattle.std.proofs.lemmas.Option.{slice_get-get_or, get_or_from_slice_get}
use Rattle.vs_waves.specs.declared.round.LaneWave.{LaneWave}
use Rattle.vs_waves.proofs.Lanes.{goes_on-none, goes_on-set, goes_on-all}
use Rattle.vs_waves.proofs.Keeping.{noted}
use Rattle.vs_waves.proofs.waves.note_live.Goals as goal

pub loop-lane-init : goal.loop-lane-init
loop-lane-init c = goes_on-none noted c.args.live.now c.args.lanes.now

pub loop-lane-preserved : goal.loop-lane-preserved
loop-lane-preserved c =
    let n = c.loop-lane.lane in
    let live = c.args.live.now in
    let b : Bool = get_or live n false in
    let none : LaneWave = record { is_open = false; is_noted = false } in
    let inside = c.loop-lane-test.true in
    goes_on-set noted live c.args.lanes.now c.loop-lane.lanes n (n + 1) b (noted b (get_or c.loop-lane.lanes n none)) c.loop-lane.invariant refl (omega arith) (slice_get-get_or live n false inside)
    (λ w e. ap (noted b) (get_or_from_slice_get c.loop-lane.lanes n w none e))

pub returns-clause-each : goal.returns-clause-each
returns-clause-each c = goes_on-all noted c.args.live.now c.args.lanes.now c.loop-lane.lanes c.loop-lane.lane c.loop-lane.invariant c.loop-lane-test.false
