use Rattle.std.proofs.Common.{◌≡◌, ◌++◌, [], get_or, None, map, flat_map, take, refl, sym, ap, ◌∙◌}
use Rattle.std.proofs.lemmas.List.{take_all}
use Rattle.vs_ast.specs.Views as view
use Rattle.vs_elaborated.specs.Ports.{Port}
use Rattle.vs_items.specs.declared.ports.Port.{Port as Port'}
use Rattle.vs_items.specs.Ports.{port_of}
use Rattle.vs_items.specs.Connections.{connected_at}
use Rattle.vs_items.proofs.NamedConnections.{port_step, connections_at}
use Rattle.vs_items.proofs.connections.by_name.Goals as goal

pub loop-port-preserved : goal.loop-port-preserved
loop-port-preserved c = record {
  said = λ ps cs env a named.
      let list = c.deref-port-items.result.now in
      let none : Port' = record { name = record { ref_ptr = (0, 0); now = [] }; input = None } in
      let port = get_or list c.loop-port.port-index none in
      c.in_ok-push_named.ensures.said ps cs env a named
      ∙ ap (λ r. r ++ connected_at ps cs env port.name.now) (c.loop-port.invariant.said ps cs env a named)
      ∙ sym (port_step ps cs env list c.loop-port.port-index port none c.loop-port-test.true refl);
  fine = λ ps cs env a named all. c.in_ok-push_named.ensures.fine ps cs env a named all (c.loop-port.invariant.fine ps cs env a named all);
}

pub returns : goal.returns
returns c = record {
  said = λ ps env a apart.
      let cs = map view.named_connection c.args.parts.now in
      let all : map port_of (take c.loop-port.port-index c.deref-port-items.result.now) ≡ ps =
      ap (map port_of) (take_all c.loop-port.port-index c.deref-port-items.result.now c.loop-port-test.false ∙ c.deref-port-items.ensures.value) ∙ a.list in
      c.loop-port.invariant.said ps cs env a c.in_ok-names.ensures
      ∙ ap (flat_map (λ (p : Port). connected_at ps cs env p.name)) all
      ∙ connections_at ps ps cs env apart;
  fine = λ ps env a all. c.loop-port.invariant.fine ps (map view.named_connection c.args.parts.now) env a c.in_ok-names.ensures all;
}
