use Rattle.std.proofs.Common.{◌≡◌, ◌<◌, List, [], length, get_or, None, Some, sym, ap, ◌∙◌, arith}
use Rattle.std.proofs.lemmas.List.{get_or_default}
use Rattle.vs_feed.specs.Lanes.{lane_at}
use Rattle.vs_stim.specs.Known.{Known}
use Rattle.vs_stim.specs.declared.wanted.Digit.{Digit}
use Rattle.vs_misses.specs.Watch.{place_in}
use Rattle.vs_misses.proofs.Packs.{any_planes, wanted_ended, wanted_unnamed, planes_named, past_ended}
use Rattle.vs_misses.proofs.packing.planes_in.Goals as goal

pub returns-then-lane-lanes : goal.returns-then-lane-lanes
returns-then-lane-lanes c = λ count most have.
    any_planes count 64 0 0 most
    ∙ sym (wanted_ended count c.args.places.now (lane_at c.args.drive.now c.args.lane) c.args.lane (past_ended c.args.drive.now c.args.lane (omega (arith, c.lanes.ensures.count))))

pub returns-then-not-live : goal.returns-then-not-live
returns-then-not-live c = λ count most have.
    any_planes count 64 0 0 most
    ∙ sym (wanted_ended count c.args.places.now (lane_at c.args.drive.now c.args.lane) c.args.lane
    (sym (ap (λ (k : Known). k.live) c.stimulus-stimulus.ensures) ∙ sym c.live.ensures ∙ c.if-not-live.true))

pub returns-in-None : goal.returns-in-None
returns-in-None c = λ count most have.
    let there : c.args.lane < length c.args.places.now = omega (arith, c.lanes.ensures.count, c.requires.long) in
    any_planes count 64 0 0 most
    ∙ sym (wanted_unnamed count c.args.places.now (lane_at c.args.drive.now c.args.lane) c.args.lane (get_or_default c.args.places.now c.args.lane None _ there ∙ c.in-None.is))

pub returns-in-Some : goal.returns-in-Some
returns-in-Some c = λ count most have.
    let k : Known = lane_at c.args.drive.now c.args.lane in
    let within : c.args.lane < length c.args.drive.now = omega (arith, c.lanes.ensures.count) in
    let there : c.args.lane < length c.args.places.now = omega (arith, within, c.requires.long) in
    let at : place_in c.args.places.now c.args.lane ≡ Some c.in-Some.place = get_or_default c.args.places.now c.args.lane None _ there ∙ c.in-Some.is in
    let w : List Digit = c.index-wanted-place.result in
    let digits : get_or k.wanted c.in-Some.place [] ≡ w =
    get_or_default k.wanted c.in-Some.place [] w (c.requires.within c.in-Some.place within at)
    ∙ sym (c.index-wanted-place.is ∙ ap (λ (xs : List (List Digit)). get_or xs c.in-Some.place w) (c.wanted.ensures ∙ ap (λ (x : Known). x.wanted) c.stimulus-stimulus.ensures)) in
    planes_named count c.args.places.now k c.args.lane c.in-Some.place w c.planes.result.0 c.planes.result.1 c.planes.result.2
    (sym (ap (λ (x : Known). x.live) c.stimulus-stimulus.ensures) ∙ sym c.live.ensures ∙ c.if-not-live.false) at digits
    (sym (ap (λ (ds : List Digit). length ds) digits) ∙ have.size c.args.lane c.in-Some.place within at) c.planes.ensures
