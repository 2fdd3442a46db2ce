use Rattle.std.proofs.Common.{◌≡◌, List, map, take, refl, ap, subst, ◌∙◌, arith}
use Rattle.std.proofs.lemmas.List.{take_all}
use Rattle.vs_ast.specs.declared.items.Item.{Item}
use Rattle.vs_ast.specs.Views as view
use Rattle.vs_const.specs.Faults.{least}
use Rattle.vs_elaborated.specs.Limits.{the_limits}
use Rattle.vs_elaborated.specs.Generate.{Made}
use Rattle.vs_elaborated.specs.Surveys.{Loops, item_said, items_said, loops_behind}
use Rattle.vs_items.specs.Stated.{IsStated}
use Rattle.vs_items.proofs.FaultLists.{each_at}
use Rattle.vs_items.proofs.ItemLists.{made_at}
use Rattle.vs_items.proofs.BodyFaults.{item_found, item_behind}
use Rattle.vs_items.proofs.bodies.items_fault.Goals as goal

pub item_fault-requires : goal.item_fault-requires
item_fault-requires c = each_at IsStated view.item c.args.items.now c.loop-item.item-index c.item-item.result c.loop-item-test.true c.item-item.is c.requires

pub loop-item-init : goal.loop-item-init
loop-item-init c = record { fault = λ source around made a names same. refl; loops = λ env names. refl }

pub loop-item-preserved : goal.loop-item-preserved
loop-item-preserved c =
    let items = c.args.items.now in
    let i = c.loop-item.item-index in
    let x = c.item-item.result in
    record {
      fault = λ source around made a names same.
          item_found the_limits source around c.args.loops.now items made i x _ _ _ c.loop-item-test.true c.item-item.is same c.first_of-fault.ensures (c.loop-item.invariant.fault source around made a names same)
          (subst (λ (l : Loops). c.in_ok-found.found ≡ least (item_said the_limits source around l (view.item x) (made_at made i)).faults) (c.loop-item.invariant.loops around.env names)
          (c.in_ok-found.ensures.fault source around (made_at made i) a names));
      loops = λ env names. item_behind the_limits env c.args.loops.now items i x _ _ c.loop-item-test.true c.item-item.is (c.loop-item.invariant.loops env names) (c.in_ok-found.ensures.loops env names);
    }

pub returns-clause-fault : goal.returns-clause-fault
returns-clause-fault c = λ source around made a names same.
    let loops = c.args.loops.now in
    c.loop-item.invariant.fault source around made a names same
    ∙ ap (λ (ms : List Made). least (items_said the_limits source around loops (map view.item (take c.loop-item.item-index c.args.items.now)) ms).faults) (take_all c.loop-item.item-index made (omega (arith, same, c.loop-item-test.false)))
    ∙ ap (λ (xs : List Item). least (items_said the_limits source around loops (map view.item xs) made).faults) (take_all c.loop-item.item-index c.args.items.now c.loop-item-test.false)

pub returns-clause-loops : goal.returns-clause-loops
returns-clause-loops c = λ env names.
    c.loop-item.invariant.loops env names ∙ ap (λ (xs : List Item). loops_behind the_limits env c.args.loops.now (map view.item xs)) (take_all c.loop-item.item-index c.args.items.now c.loop-item-test.false)
