use Rattle.std.proofs.Common.{get_or, refl, sym, ◌∙◌, arith}
use Rattle.vs_four.specs.declared.Bit4.TheVariants.{Zero}
use Rattle.vs_interpret.proofs.TargetSteps.{place_step, places_done}
use Rattle.vs_interpret.proofs.targets.push_places.Goals as goal

pub push_place-requires : goal.push_place-requires
push_place-requires c n h = c.requires.inside c.loop-k.k n (sym c.get.ensures ∙ h)

pub loop-k-preserved : goal.loop-k-preserved
loop-k-preserved c =
    place_step c.loop-k.out c.push_place.new.out _ c.args.first c.loop-k.k c.get.result c.args.places.now (get_or c.args.value.now c.loop-k.k Zero) c.args.value.now c.requires.as_many (omega (arith, c.len-k-end.ensures.value, c.loop-k-test.true)) c.get.ensures refl
    c.loop-k.invariant c.in_ok-push_place.ensures

pub returns : goal.returns
returns c = places_done c.loop-k.out _ c.args.first c.loop-k.k c.args.places.now c.args.value.now (omega (arith, c.len-k-end.ensures.value, c.loop-k-test.false)) c.loop-k.invariant
