use Rattle.std.proofs.Common.{◌<◌, map, sym, ap, ◌∙◌, arith}
use Rattle.std.proofs.lemmas.List.{take_all}
use Rattle.vs_four.specs.Selects.{Part, at_place, places, range_length}
use Rattle.vs_values.proofs.Places.{taken_more}
use Rattle.vs_values.proofs.selects.selected.Goals as goal

pub at-requires : goal.at-requires
at-requires c = λ n e.
    let inside : n < range_length c.args.range = c.places_of-places.ensures.inside c.loop-k.k n (sym c.get.ensures ∙ e) in
    omega (arith, inside, c.requires.of_range)

pub loop-k-preserved : goal.loop-k-preserved
loop-k-preserved c =
    c.in_ok-push.ensures.items
    ∙ taken_more c.args.from.now c.places_of-places.result c.loop-k.k c.at.result c.loop-k.to.items (omega (arith, c.loop-k-test.true, c.len-k-end.ensures.value)) c.loop-k.invariant
    (c.at.ensures ∙ ap (at_place 2 c.args.from.now) c.get.ensures)

pub returns : goal.returns
returns c =
    let part : Part = record { range = c.args.range; up = c.args.up; width = c.args.width } in
    c.loop-k.invariant
    ∙ ap (map (at_place 2 c.args.from.now)) (take_all c.loop-k.k c.places_of-places.result (omega (arith, c.loop-k-test.false, c.len-k-end.ensures.value)) ∙ c.places_of-places.ensures.value ∙ ap (places part c.args.signed) c.in_ok-bits.ensures)
