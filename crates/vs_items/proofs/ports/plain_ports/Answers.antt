use Rattle.std.proofs.Common.{◌++◌, [], ◌∷◌, map, take, sym, ap, ◌∙◌}
use Rattle.std.proofs.lemmas.List.{map-append}
use Rattle.vs_grammar.specs.Trees as tree
use Rattle.vs_ast.specs.Views as view
use Rattle.vs_elaborated.specs.Ports.{Port, header_ports}
use Rattle.vs_maps.specs.Maps.{value_at}
use Rattle.vs_maps.specs.MapViews.{pairs}
use Rattle.vs_items.specs.Ports.{port_of}
use Rattle.vs_items.proofs.Directions.{plain_more, direction_found, same_port}
use Rattle.vs_items.proofs.ports.plain_ports.Goals as goal

pub loop-name-preserved : goal.loop-name-preserved
loop-name-preserved c = λ ds first.
    let n = view.name c.name-item.result in
    let input = c.copied-input.ensures ∙ c.get.ensures.value ∙ ap (λ x. value_at x (pairs c.args.directions.now)) c.as_slice-name.ensures ∙ first.each n.bytes ∙ direction_found ds n.bytes in
    let q : Port = record { name = c.as_slice-name.result.now; input = c.copied-input.result } in
    ap (map port_of) c.in_ok-push.ensures.items ∙ map-append port_of c.loop-name.ports.items _
    ∙ ap (λ r. r ++ q ∷ []) (c.loop-name.invariant ds first)
    ∙ ap (λ p. header_ports (tree.PlainPorts (map view.name (take c.loop-name.name-index c.args.names.now))) ds ++ p ∷ []) (same_port _ _ _ _ c.as_slice-name.ensures input)
    ∙ sym (plain_more c.args.names.now c.loop-name.name-index c.name-item.result ds c.loop-name-test.true c.name-item.is)
