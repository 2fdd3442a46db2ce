use Rattle.std.proofs.Common.{List, map, take, sym, ap, subst}
use Rattle.std.specs.Prelude.{is_some}
use Rattle.std.proofs.lemmas.List.{take_all}
use Rattle.vs_grammar.specs.Trees as tree
use Rattle.vs_ast.specs.declared.items.NamedConnection.{NamedConnection}
use Rattle.vs_ast.specs.Views as view
use Rattle.vs_elaborated.specs.Instances.{connected_by_name}
use Rattle.vs_maps.specs.Maps.{value_at}
use Rattle.vs_maps.specs.MapViews.{pairs}
use Rattle.vs_items.specs.Counts.{HasNames}
use Rattle.vs_items.proofs.Repeats.{one_more}
use Rattle.vs_items.proofs.counts.connected_names.Goals as goal

pub loop-part-init : goal.loop-part-init
loop-part-init c = λ ps env a. record { each = λ name. ap (λ xs. is_some (value_at name xs)) c.new-names.ensures }

pub loop-part-preserved : goal.loop-part-preserved
loop-part-preserved c = λ ps env a.
    subst (λ (cs : List tree.NamedConnection). HasNames (pairs c.note_connected.new.names) (connected_by_name ps cs env).connections)
    (sym (one_more view.named_connection c.args.parts.now c.loop-part.part-index c.part-item.result c.loop-part-test.true c.part-item.is))
    (c.in_ok-note_connected.ensures ps env (map view.named_connection (take c.loop-part.part-index c.args.parts.now)) a (c.loop-part.invariant ps env a))

pub returns : goal.returns
returns c = λ ps env a.
    subst (λ (xs : List NamedConnection). HasNames (pairs c.loop-part.names) (connected_by_name ps (map view.named_connection xs) env).connections) (take_all c.loop-part.part-index c.args.parts.now c.loop-part-test.false)
    (c.loop-part.invariant ps env a)
