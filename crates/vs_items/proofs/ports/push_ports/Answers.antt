use Rattle.std.proofs.Common.{◌++◌, map, refl, ap, ◌∙◌}
use Rattle.std.proofs.lemmas.List.{take_all}
use Rattle.vs_ast.specs.Views as view
use Rattle.vs_elaborated.specs.Signals as spec
use Rattle.vs_items.specs.Ports.{port_of}
use Rattle.vs_items.proofs.Directions.{declared_name, declared_names}
use Rattle.vs_items.proofs.ports.push_ports.Goals as goal

pub returns : goal.returns
returns c =
    let s = c.args.signals.now in
    c.loop-declarator.invariant
    ∙ ap (λ ds. map port_of c.args.ports.now.items ++ ds)
    (ap (map (declared_name (spec.is_input (view.signal_kind s.kind)))) (take_all c.loop-declarator.declarator-index c.deref-declarator-items.result.now c.loop-declarator-test.false ∙ c.deref-declarator-items.ensures.value)
    ∙ declared_names s.kind s refl)
