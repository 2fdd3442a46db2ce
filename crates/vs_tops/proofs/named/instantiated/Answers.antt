use Rattle.std.proofs.Common.{◌||◌, false, List, ap, ◌∙◌}
use Rattle.std.specs.List.{list_any}
use Rattle.std.proofs.lemmas.List.{take_all}
use Rattle.vs_ast.specs.Views as view
use Rattle.vs_ast.specs.declared.items.Item.{Item}
use Rattle.vs_ast.specs.declared.modules.Module.{Module}
use Rattle.vs_maps.specs.Sets.{has}
use Rattle.vs_tops.specs.Tops.{items_name}
use Rattle.vs_tops.proofs.Adding.{or_false, one_added, any_modules}
use Rattle.vs_tops.proofs.named.instantiated.Goals as goal

pub loop-of-preserved : goal.loop-of-preserved
loop-of-preserved c = λ name.
    one_added (λ (m : Module). items_name name (view.items m.items.items)) c.deref-of-items.result.now c.loop-of.of-index c.of-item.result false (has c.loop-of.names name) (has c.add_items.new.names name) c.loop-of-test.true c.of-item.is
    (c.loop-of.invariant name) (c.in_ok-add_items.ensures name ∙ ap (λ (xs : List Item). items_name name (view.items xs) || has c.loop-of.names name) c.deref.ensures.value)

pub returns : goal.returns
returns c = λ name.
    c.loop-of.invariant name ∙ or_false _
    ∙ ap (λ (xs : List Module). list_any (λ (m : Module). items_name name (view.items m.items.items)) xs) (take_all c.loop-of.of-index c.deref-of-items.result.now c.loop-of-test.false ∙ c.deref-of-items.ensures.value)
    ∙ any_modules name c.args.source.now.modules.items
