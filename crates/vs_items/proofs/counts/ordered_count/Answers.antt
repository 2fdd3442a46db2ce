use Rattle.std.proofs.Common.{◌≡◌, ◌+◌, length, drop, map, option_map, sym, ap, ◌∙◌, arith}
use Rattle.std.specs.Prelude.{slice_get}
use Rattle.std.proofs.lemmas.Option.{slice_get-map}
use Rattle.vs_ast.specs.Views as view
use Rattle.vs_elaborated.specs.Instances.{connected_by_order}
use Rattle.vs_items.specs.Ports.{port_of}
use Rattle.vs_items.proofs.ConnectionSteps.{got_at}
use Rattle.vs_items.proofs.CountedPorts.{one_if_few, ordered_more, ordered_end}
use Rattle.vs_items.proofs.counts.ordered_count.Goals as goal

pub overflow_add-count : goal.overflow_add-count
overflow_add-count c = let f = one_if_few c.has_process.result in omega (arith, c.one_if-count.ensures, f, c.loop-n.invariant.few)

pub loop-n-preserved : goal.loop-n-preserved
loop-n-preserved c = record {
  few = let f = one_if_few c.has_process.result in omega (arith, c.one_if-count.ensures, f, c.loop-n.invariant.few);
  counted = λ ps env a.
      let list = c.args.ports.now.list.items in
      let found : option_map port_of c.copied.result ≡ slice_get ps c.loop-n.n =
      ap (option_map port_of) (c.copied.ensures ∙ got_at c.get.result c.deref.result.now c.loop-n.n c.get.ensures.lookup.0 c.get.ensures.lookup.1)
      ∙ ap (λ xs. option_map port_of (slice_get xs c.loop-n.n)) c.deref.ensures.value
      ∙ sym (slice_get-map port_of list c.loop-n.n) ∙ ap (λ xs. slice_get xs c.loop-n.n) a.list in
      ap (λ m. (c.loop-n.count + m) + length (connected_by_order ps (c.loop-n.n + 1) (map (view.option view.expr) (drop (c.loop-n.n + 1) c.args.parts.now)) env).connections) c.one_if-count.ensures
      ∙ ordered_more ps env c.loop-n.count _ c.args.parts.now c.loop-n.n c.index-parts-n.result (option_map port_of c.copied.result) c.has_process.result c.loop-n-test.true c.index-parts-n.is found
      (c.has_process.ensures env) (c.loop-n.invariant.counted ps env a);
}

pub returns : goal.returns
returns c = λ ps env a. ordered_end ps env c.loop-n.count _ c.args.parts.now c.loop-n.n c.loop-n-test.false (c.loop-n.invariant.counted ps env a)
