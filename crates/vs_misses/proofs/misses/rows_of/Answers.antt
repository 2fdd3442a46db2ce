use Rattle.std.proofs.Common.{◌≡◌, ℕ, ◌+◌, ◌<◌, List, length, All, sym, ap, ◌∙◌, subst, arith}
use Rattle.std.proofs.lemmas.List.{length-map, with_items_is}
use Rattle.vs_stim.specs.declared.input.Expected.{Expected}
use Rattle.vs_stim.specs.Known.{Known}
use Rattle.vs_feed.specs.Lanes.{lane_at}
use Rattle.vs_misses.specs.declared.row.Row.{Row}
use Rattle.vs_misses.specs.Watch.{place_of, ArePlaces}
use Rattle.vs_misses.specs.Rows.{spans_of, places_of, IsRow, IsEmptyRow}
use Rattle.vs_misses.proofs.Columns.{AreNamed, named_none, named_more, named_all, rows_long}
use Rattle.vs_misses.proofs.misses.rows_of.Goals as goal

pub loop-lane-init : goal.loop-lane-init
loop-lane-init c =
    named_none c.args.drive.now c.args.outputs.items c.in_ok-rows.rows.items c.in_ok-rows.ensures.spans
    (subst (λ (n : ℕ). All (IsEmptyRow n) c.in_ok-rows.rows.items) c.lanes-lanes.ensures.count c.in_ok-rows.ensures.none)

pub loop-lane-preserved : goal.loop-lane-preserved
loop-lane-preserved c =
    let ks : List Known = c.args.drive.now in
    let lane : ℕ = c.loop-lane.lane in
    let old : List Row = c.loop-lane.rows.items in
    let new : List Row = c.name_columns.new.rows in
    let slice : c.deref_mut.result.now ≡ old = c.deref_mut.ensures.value in
    let within : lane < length ks = omega (arith, c.lanes-lanes.ensures.count) in
    let spans : spans_of new ≡ spans_of old = c.name_columns.ensures.spans ∙ ap (λ (rs : List Row). spans_of rs) slice in
    let long : length new ≡ c.loop-lane.rows.len = omega (arith, rows_long new (spans_of old) spans, length-map old (λ (r : Row). r.span), c.loop-lane.rows.ok.0) in
    let columns : c.expected.result.now ≡ (lane_at ks lane).columns.expected = c.expected.ensures ∙ ap (λ (k : Known). k.columns.expected) c.stimulus.ensures in
    let named : AreNamed ks (lane + 1) c.args.outputs.items new =
    named_more ks lane c.args.outputs.items old new within spans
    (λ lanes h. c.name_columns.ensures.rows lanes (subst (λ (rs : List Row). All (IsRow lanes) rs) (sym slice) h))
    (subst (λ (es : List Expected). ArePlaces (places_of new) lane es) columns c.name_columns.ensures.places)
    (λ output i ne. c.name_columns.ensures.others output i ne ∙ ap (λ (rs : List Row). place_of (places_of rs) output i) slice)
    c.loop-lane.invariant in
    subst (λ (rs : List Row). AreNamed ks (lane + 1) c.args.outputs.items rs) (sym (with_items_is c.loop-lane.rows new long)) named

pub returns-clause-places : goal.returns-clause-places
returns-clause-places c = named_all c.args.drive.now c.loop-lane.lane c.args.outputs.items c.loop-lane.rows.items (omega (arith, c.lanes-lanes.ensures.count)) c.loop-lane.invariant
