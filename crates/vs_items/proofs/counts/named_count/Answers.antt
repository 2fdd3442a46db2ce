use Rattle.std.proofs.Common.{◌≡◌, ◌+◌, List, [], None, get_or, length, map, take, ap, ◌∙◌, arith}
use Rattle.std.proofs.lemmas.List.{take_all, get_or_default}
use Rattle.vs_ast.specs.Views as view
use Rattle.vs_elaborated.specs.Ports.{Port}
use Rattle.vs_elaborated.specs.Instances.{connected_by_name, in_port_order}
use Rattle.vs_maps.specs.Maps.{value_at}
use Rattle.vs_maps.specs.MapViews.{pairs}
use Rattle.vs_items.specs.declared.ports.Port.{Port as Port'}
use Rattle.vs_items.specs.Ports.{port_of}
use Rattle.vs_items.proofs.Repeats.{one_more}
use Rattle.vs_items.proofs.CountedPorts.{one_if_few, port_counted, copied_alike}
use Rattle.vs_items.proofs.counts.named_count.Goals as goal

pub overflow_add-count : goal.overflow_add-count
overflow_add-count c = let f = one_if_few c.is_some.result in omega (arith, c.one_if-count.ensures, f, c.loop-port.invariant.few)

pub loop-port-preserved : goal.loop-port-preserved
loop-port-preserved c = record {
  few = let f = one_if_few c.is_some.result in omega (arith, c.one_if-count.ensures, f, c.loop-port.invariant.few);
  counted = λ ps env a.
      let list = c.deref-port-items.result.now in
      let cs = (connected_by_name ps (map view.named_connection c.args.parts.now) env).connections in
      let none : Port' = record { name = record { ref_ptr = (0, 0); now = [] }; input = None } in
      let port = get_or list c.loop-port.port-index none in
      port_counted (map port_of (take c.loop-port.port-index list)) _ (port_of port) cs c.loop-port.count _ c.is_some.result
      (one_more port_of list c.loop-port.port-index port c.loop-port-test.true (get_or_default list c.loop-port.port-index none port c.loop-port-test.true))
      (c.is_some.ensures ∙ copied_alike (λ x. x.now) c.get.result (value_at port.name.now (pairs c.in_ok-names.names)) c.get.ensures.value ∙ (c.in_ok-names.ensures ps env a).each port.name.now)
      (ap (λ m. c.loop-port.count + m) c.one_if-count.ensures) (c.loop-port.invariant.counted ps env a);
}

pub returns : goal.returns
returns c = λ ps env a.
    let cs = (connected_by_name ps (map view.named_connection c.args.parts.now) env).connections in
    let all : map port_of (take c.loop-port.port-index c.deref-port-items.result.now) ≡ ps =
    ap (map port_of) (take_all c.loop-port.port-index c.deref-port-items.result.now c.loop-port-test.false ∙ c.deref-port-items.ensures.value) ∙ a.list in
    c.loop-port.invariant.counted ps env a ∙ ap (λ (qs : List Port). length (in_port_order qs cs)) all
