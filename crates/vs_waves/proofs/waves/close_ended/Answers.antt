use Rattle.std.proofs.Common.{◌≡◌, ◌+◌, ◌&&◌, Bool, get_or, refl, sym, ap, ◌∙◌, arith}
use Rattle.std.specs.Prelude.{false}
use Rattle.std.proofs.lemmas.Option.{slice_get-get_or, get_or_from_slice_get}
use Rattle.vs_waves.specs.declared.round.LaneWave.{LaneWave}
use Rattle.vs_waves.proofs.Lanes.{goes_on-none, goes_on-set, goes_on-all}
use Rattle.vs_waves.proofs.Keeping.{closed}
use Rattle.vs_waves.proofs.waves.close_ended.Goals.{then-live-lane, else-live-lane}
use Rattle.vs_waves.proofs.waves.close_ended.Goals as goal

pub loop-lane-init : goal.loop-lane-init
loop-lane-init c = goes_on-none closed c.args.live.now c.args.lanes.now

pub loop-lane-preserved : goal.loop-lane-preserved
loop-lane-preserved c =
    let n = c.loop-lane.lane in
    let live = c.args.live.now in
    let lanes = c.loop-lane.lanes in
    let b : Bool = get_or live n false in
    let none : LaneWave = record { is_open = false; is_noted = false } in
    let with_open : Bool → LaneWave = λ (k : Bool). record { is_open = k; is_noted = false } in
    let inside = c.loop-lane-test.true in
    let both : c.if-live-lane.is_open ≡ (b && (get_or lanes n none).is_open) = elim c.if-live-lane.branch [
      | then-live-lane w ↦ w.is_open-is ∙ ap (λ (k : Bool). k && (get_or lanes n none).is_open) (sym w.if-live-lane.true)
      | else-live-lane w ↦ w.is_open-is ∙ w.if-live-lane.false ∙ ap (λ (k : Bool). k && (get_or lanes n none).is_open) (sym w.if-live-lane.false)
    ] in
    goes_on-set closed live c.args.lanes.now lanes n (n + 1) b (with_open c.if-live-lane.is_open) c.loop-lane.invariant refl (omega arith) (slice_get-get_or live n false inside)
    (λ w e. ap with_open both ∙ ap (closed b) (get_or_from_slice_get lanes n w none e))

pub returns-clause-each : goal.returns-clause-each
returns-clause-each c = goes_on-all closed c.args.live.now c.args.lanes.now c.loop-lane.lanes c.loop-lane.lane c.loop-lane.invariant c.loop-lane-test.false
