use Rattle.std.proofs.Common.{◌≡◌, List, sym, ap, ◌∙◌, option_map}
use Rattle.std.specs.Prelude.{slice_get}
use Rattle.std.proofs.lemmas.Option.{slice_get-map}
use Rattle.vs_elaborated.specs.Ports.{Port}
use Rattle.vs_items.specs.Connections.{said}
use Rattle.vs_items.specs.PortTables.{ArePorts}
use Rattle.vs_items.specs.Ports.{port_of}
use Rattle.vs_items.proofs.FineConnections.{ordered_at}
use Rattle.vs_items.proofs.ConnectionSteps.{got_at, order_step}
use Rattle.vs_items.proofs.connections.by_order.Goals as goal

pub loop-n-preserved : goal.loop-n-preserved
loop-n-preserved c =
    let list = c.args.ports.now.list.items in
    let found : (ps : List Port) → ArePorts c.args.ports.now ps → option_map port_of c.copied.result ≡ slice_get ps c.loop-n.n =
    λ ps a. ap (option_map port_of) (c.copied.ensures ∙ got_at c.get.result c.deref.result.now c.loop-n.n c.get.ensures.lookup.0 c.get.ensures.lookup.1)
    ∙ ap (λ xs. option_map port_of (slice_get xs c.loop-n.n)) c.deref.ensures.value
    ∙ sym (slice_get-map port_of list c.loop-n.n) ∙ ap (λ xs. slice_get xs c.loop-n.n) a.list in
    record {
      said = λ ps env a.
          order_step ps env (said env c.loop-n.list.items) (said env c.push_connection.new.list.items) _ c.args.parts.now c.loop-n.n c.index-parts-n.result (option_map port_of c.copied.result)
          c.loop-n-test.true c.index-parts-n.is (found ps a) (c.in_ok-push_connection.ensures.said env) (c.loop-n.invariant.said ps env a);
      fine = λ ps env a f.
          c.in_ok-push_connection.ensures.fine env
          (ordered_at ps env c.args.parts.now c.loop-n.n c.index-parts-n.result (option_map port_of c.copied.result) c.loop-n-test.true c.index-parts-n.is (found ps a) f)
          (c.loop-n.invariant.fine ps env a f);
    }
