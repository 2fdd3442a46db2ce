use Rattle.std.proofs.Common.{◌||◌, false, List, Option, ap, sym, ◌∙◌}
use Rattle.std.specs.List.{list_any}
use Rattle.std.specs.Global.{Box}
use Rattle.std.proofs.lemmas.List.{take_all}
use Rattle.vs_grammar.specs.Trees as tree
use Rattle.vs_ast.specs.Views as view
use Rattle.vs_ast.specs.declared.items.Item.{Item}
use Rattle.vs_ast.specs.declared.items.GenerateArm.{GenerateArm}
use Rattle.vs_ast.specs.declared.items.GenerateBlock.{GenerateBlock}
use Rattle.vs_maps.specs.Sets.{has}
use Rattle.vs_tops.specs.Tops.{item_names, block_names, arms_name, items_name}
use Rattle.vs_tops.proofs.Views.{other_of, case_view, enclosed_view}
use Rattle.vs_tops.proofs.Adding.{on_ok_added, then_added, alone_added, any_items, any_arms}
use Rattle.vs_tops.proofs.named.+named.Goals as goal

pub add_item-returns-in-None-other : goal.add_item-returns-in-None-other
add_item-returns-in-None-other t c =
    let w = c.in-GenerateCase in
    alone_added c.args.names.now c.add_arms.new.names (λ name. arms_name name (view.generate_arms c.deref-in-GenerateCase.result.now)) (λ name. item_names name (view.item c.args.item.now)) c.in_ok-add_arms-in-GenerateCase.ensures
    (λ name.
    ap (λ (xs : List GenerateArm). arms_name name (view.generate_arms xs) || false) c.deref-in-GenerateCase.ensures.value
    ∙ sym (ap (item_names name) (ap view.item w.is ∙ case_view w.place w.subject w.arms w.other ∙ ap (λ (o : Option (Box GenerateBlock)). tree.GenerateCase w.place (view.expr w.subject) (view.generate_arms w.arms.items) (other_of o)) c.in-None-other.is)))

pub add_item-returns-in-Some-other : goal.add_item-returns-in-Some-other
add_item-returns-in-Some-other t c =
    let w = c.in-GenerateCase in
    then_added c.args.names.now c.add_arms.new.names c.add_block-in-Some-other.new.names (λ name. arms_name name (view.generate_arms c.deref-in-GenerateCase.result.now)) (λ name. block_names name (view.block c.deref-in-Some-other.result.now))
    (λ name. item_names name (view.item c.args.item.now)) c.add_block-in-Some-other.result c.in_ok-add_arms-in-GenerateCase.ensures
    (λ name.
    ap (λ (xs : List GenerateArm). arms_name name (view.generate_arms xs) || block_names name (view.block c.deref-in-Some-other.result.now)) c.deref-in-GenerateCase.ensures.value
    ∙ ap (λ (b : GenerateBlock). arms_name name (view.generate_arms w.arms.items) || block_names name (view.block b)) c.deref-in-Some-other.ensures
    ∙ sym (ap (item_names name) (ap view.item w.is ∙ case_view w.place w.subject w.arms w.other ∙ ap (λ (o : Option (Box GenerateBlock)). tree.GenerateCase w.place (view.expr w.subject) (view.generate_arms w.arms.items) (other_of o)) c.in-Some-other.is)))
    c.add_block-in-Some-other.ensures

pub add_block-returns-in-Enclosed : goal.add_block-returns-in-Enclosed
add_block-returns-in-Enclosed t c =
    let w = c.in-Enclosed in
    on_ok_added c.args.names.now c.add_items.new.names (λ name. items_name name (view.items c.deref-in-Enclosed.result.now)) (λ name. block_names name (view.block c.args.block.now)) c.add_items.result
    (λ name.
    ap (λ (xs : List Item). items_name name (view.items xs)) c.deref-in-Enclosed.ensures.value
    ∙ sym (ap (block_names name) (ap view.block w.is ∙ enclosed_view w.place w.name w.items)))
    c.add_items.ensures

pub add_arms-returns : goal.add_arms-returns
add_arms-returns t c = λ name.
    c.loop-arm.invariant name
    ∙ ap (λ b. b || has c.args.names.now name) (ap (λ (xs : List GenerateArm). list_any (λ (a : GenerateArm). block_names name (view.block a.block)) xs) (take_all c.loop-arm.arm-index c.args.arms.now c.loop-arm-test.false) ∙ any_arms name c.args.arms.now)

pub add_items-returns : goal.add_items-returns
add_items-returns t c = λ name.
    c.loop-item.invariant name
    ∙ ap (λ b. b || has c.args.names.now name) (ap (λ (xs : List Item). list_any (λ (i : Item). item_names name (view.item i)) xs) (take_all c.loop-item.item-index c.args.items.now c.loop-item-test.false) ∙ any_items name c.args.items.now)
