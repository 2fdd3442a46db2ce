use Rattle.std.proofs.Common.{◌++◌, map, refl, ap, ◌∙◌, subst}
use Rattle.std.proofs.lemmas.List.{take_all}
use Rattle.vs_ast.specs.Views as view
use Rattle.vs_elaborated.specs.Signals as spec
use Rattle.vs_maps.specs.MapViews.{pairs}
use Rattle.vs_items.specs.Noted.{AreFirst}
use Rattle.vs_items.proofs.Directions.{declared_direction, declared_directions}
use Rattle.vs_items.proofs.ports.note_signals.Goals as goal

pub returns : goal.returns
returns c = λ all first.
    let s = c.args.signals.now in
    subst (λ ds. AreFirst (pairs c.loop-declarator.directions) (all ++ ds))
    (ap (map (declared_direction (spec.is_input (view.signal_kind s.kind)))) (take_all c.loop-declarator.declarator-index c.deref-declarator-items.result.now c.loop-declarator-test.false ∙ c.deref-declarator-items.ensures.value)
    ∙ declared_directions s.kind s refl)
    (c.loop-declarator.invariant all first)
