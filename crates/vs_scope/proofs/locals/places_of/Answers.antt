use Rattle.std.proofs.Common.{map, take, sym, ap, subst}
use Rattle.std.proofs.lemmas.List.{take_all}
use Rattle.vs_bodies.specs.Layers.{AreLocals}
use Rattle.vs_maps.specs.Maps.{value_at}
use Rattle.vs_scope.specs.Locals.{local}
use Rattle.vs_scope.proofs.LocalLists.{first_more}
use Rattle.vs_scope.proofs.locals.places_of.Goals as goal

pub loop-v-init : goal.loop-v-init
loop-v-init c = record { each = λ name. ap (value_at name) c.new-places.ensures }

pub loop-v-preserved : goal.loop-v-preserved
loop-v-preserved c =
    let all = c.args.all.now in
    let i = c.loop-v.v-index in
    subst (AreLocals c.add_place.new.places) (sym (first_more all i c.v-item.result c.loop-v-test.true c.v-item.is)) (c.in_ok-add_place.ensures (map local (take i all)) c.loop-v.invariant)

pub returns : goal.returns
returns c = subst (AreLocals c.loop-v.places) (ap (map local) (take_all c.loop-v.v-index c.args.all.now c.loop-v-test.false)) c.loop-v.invariant
