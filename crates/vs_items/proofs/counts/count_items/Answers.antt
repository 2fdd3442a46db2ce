use Rattle.std.proofs.Common.{◌++◌, List, map, take, refl, ◌∙◌, subst, arith}
use Rattle.std.proofs.lemmas.List.{take_all}
use Rattle.vs_ast.specs.declared.items.Item.{Item}
use Rattle.vs_ast.specs.Views as view
use Rattle.vs_elaborated.specs.Generate.{Made}
use Rattle.vs_elaborated.specs.Surveys.{items_said, loops_behind}
use Rattle.vs_items.specs.Counts.{IsCounted}
use Rattle.vs_items.proofs.CountSteps.{counted_nothing}
use Rattle.vs_items.proofs.ItemLists.{item_counted, made_at}
use Rattle.vs_items.proofs.counts.count_items.Goals as goal

pub loop-item-init : goal.loop-item-init
loop-item-init c = record { most = refl; counted = λ limits source around loops made before ps a same h. counted_nothing c.args.count.now before ps h }

pub loop-item-preserved : goal.loop-item-preserved
loop-item-preserved c = record {
  most = c.in_ok-count_item.ensures.most ∙ c.loop-item.invariant.most;
  counted = λ limits source around loops made before ps a same h.
      item_counted limits source around loops c.args.items.now made c.loop-item.item-index c.item-item.result c.count_item.new.count before ps c.loop-item-test.true c.item-item.is same
      (c.in_ok-count_item.ensures.counted limits source around (loops_behind limits around.env loops (map view.item (take c.loop-item.item-index c.args.items.now))) (made_at made c.loop-item.item-index) before
      (ps ++ (items_said limits source around loops (map view.item (take c.loop-item.item-index c.args.items.now)) (take c.loop-item.item-index made)).pieces) a (c.loop-item.invariant.counted limits source around loops made before ps a same h));
}

pub returns-clause-most : goal.returns-clause-most
returns-clause-most c = c.loop-item.invariant.most

pub returns-clause-counted : goal.returns-clause-counted
returns-clause-counted c = λ limits source around loops made before ps a same h.
    subst (λ (xs : List Item). IsCounted c.loop-item.count before (ps ++ (items_said limits source around loops (map view.item xs) made).pieces)) (take_all c.loop-item.item-index c.args.items.now c.loop-item-test.false)
    (subst (λ (ms : List Made). IsCounted c.loop-item.count before (ps ++ (items_said limits source around loops (map view.item (take c.loop-item.item-index c.args.items.now)) ms).pieces)) (take_all c.loop-item.item-index made (omega (arith, same, c.loop-item-test.false)))
    (c.loop-item.invariant.counted limits source around loops made before ps a same h))
