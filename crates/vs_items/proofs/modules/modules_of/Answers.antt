use Rattle.std.proofs.Common.{◌≡◌, [], map, take, is_some, refl, sym, ap, ◌∙◌, subst}
use Rattle.vs_ast.specs.Views as view
use Rattle.vs_const.specs.Faults.{least, better, fault_if}
use Rattle.vs_const.specs.declared.rules.Rule.TheVariants.{DuplicateModule}
use Rattle.vs_const.proofs.Least.{least_append}
use Rattle.std.proofs.lemmas.List.{take_all}
use Rattle.vs_elaborated.specs.Ports.{find_in}
use Rattle.vs_elaborated.specs.Elaborated.{repeated_modules}
use Rattle.vs_maps.specs.Maps.{value_at}
use Rattle.vs_maps.specs.MapViews.{pairs}
use Rattle.vs_items.specs.Modules.{IsOf}
use Rattle.vs_items.proofs.Repeats.{AreModules, no_modules, modules_more, module_had, module_found, repeated_more, one_more}
use Rattle.vs_items.proofs.modules.modules_of.Goals as goal

pub loop-of-init : goal.loop-of-init
loop-of-init c = record { by_name = subst (λ ps. AreModules ps []) (sym c.new-by_name.ensures) no_modules; repeated = refl }

pub loop-of-preserved : goal.loop-of-preserved
loop-of-preserved c =
    let ms = map view.module_tree (take c.loop-of.of-index c.deref-of-items.result.now) in
    let m = view.module_tree c.of-item.result in
    let next = one_more view.module_tree c.deref-of-items.result.now c.loop-of.of-index c.of-item.result c.loop-of-test.true c.of-item.is in
    let before = c.loop-of.invariant in
    record {
      by_name = subst (AreModules (pairs c.note.new.map)) (sym next)
          (modules_more (pairs c.loop-of.by_name) (pairs c.note.new.map) ms _ m c.as_slice.result.now c.as_slice.ensures (record { of = refl; seen = c.in_ok-seen.ensures }) before.by_name c.in_ok-had.ensures.first);
      repeated =
          c.first_of-repeated.ensures ∙ ap (λ a. better a c.fault_if.result) before.repeated
          ∙ ap (better (least (repeated_modules [] ms))) (c.fault_if.ensures ∙ ap (λ b. least (fault_if b DuplicateModule m.name.place)) (c.in_ok-had.ensures.had ∙ ap (λ n. is_some (value_at n (pairs c.loop-of.by_name))) c.as_slice.ensures ∙ module_had (pairs c.loop-of.by_name) ms m.name.bytes before.by_name))
          ∙ sym (least_append (repeated_modules [] ms) (fault_if (is_some (find_in ms m.name.bytes)) DuplicateModule m.name.place))
          ∙ ap least (sym (repeated_more ms m))
          ∙ ap (λ xs. least (repeated_modules [] xs)) (sym next);
    }

pub returns : goal.returns
returns c =
    let all : take c.loop-of.of-index c.deref-of-items.result.now ≡ c.args.source.now.modules.items = take_all c.loop-of.of-index c.deref-of-items.result.now c.loop-of-test.false ∙ c.deref-of-items.ensures.value in
    record {
      by_name = record { each = λ name. subst (λ xs. IsOf (value_at name (pairs c.loop-of.by_name)) (find_in (map view.module_tree xs) name)) all (module_found (pairs c.loop-of.by_name) _ name c.loop-of.invariant.by_name) };
      repeated = c.loop-of.invariant.repeated ∙ ap (λ xs. least (repeated_modules [] (map view.module_tree xs))) all;
    }
