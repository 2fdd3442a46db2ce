use Rattle.std.proofs.Common.{List, ◌++◌, [], ◌∷◌, map, take, is_some, sym, ap, ◌∙◌, subst}
use Rattle.std.proofs.lemmas.List.{map-append, take_all}
use Rattle.vs_ast.specs.declared.items.NamedConnection.{NamedConnection}
use Rattle.vs_items.proofs.ConnectedApart.{are_apart}
use Rattle.vs_ast.specs.Views as view
use Rattle.vs_const.specs.Faults.{least, better}
use Rattle.vs_const.proofs.Least.{least_append}
use Rattle.vs_elaborated.specs.Instances.{connected_names}
use Rattle.vs_maps.specs.Maps.{value_at}
use Rattle.vs_maps.specs.MapViews.{pairs}
use Rattle.vs_items.specs.Noted.{AreFirst, named}
use Rattle.vs_items.specs.Connected.{is_known, name_faults}
use Rattle.vs_items.proofs.Repeats.{one_more}
use Rattle.vs_items.proofs.ConnectedNames.{named_only, is_again, connected_more}
use Rattle.vs_items.proofs.connected.name_fault.Goals as goal

pub loop-connection-preserved : goal.loop-connection-preserved
loop-connection-preserved g c =
    let cs = map view.named_connection (take c.loop-connection.connection-index c.args.connections.now) in
    let d = view.named_connection c.connection-item.result in
    let next = one_more view.named_connection c.args.connections.now c.loop-connection.connection-index c.connection-item.result c.loop-connection-test.true c.connection-item.is in
    let before = c.loop-connection.invariant in
    let k = is_known c.args.known in
    record {
      seen =
          subst (λ xs. AreFirst (pairs c.note.new.map) (map named_only xs)) (sym next)
          (subst (AreFirst (pairs c.note.new.map)) (ap (λ n. map named_only cs ++ named n tt ∷ []) c.as_slice-name.ensures ∙ sym (map-append named_only cs (d ∷ []))) (c.in_ok-again.ensures.first (map named_only cs) before.seen));
      fault =
          c.first_of-fault.ensures ∙ ap (λ a. better a c.wrong_name.result) before.fault
          ∙ ap (better (least (connected_names k [] cs)))
          (c.wrong_name.ensures ∙ ap (λ b. least (name_faults k b d.name)) (c.in_ok-again.ensures.had ∙ ap (λ n. is_some (value_at n (pairs c.loop-connection.seen))) c.as_slice-name.ensures ∙ ap is_some (before.seen.each d.name.bytes)))
          ∙ sym (least_append (connected_names k [] cs) (name_faults k (is_again cs d.name.bytes) d.name))
          ∙ ap least (sym (connected_more k cs d))
          ∙ ap (λ xs. least (connected_names k [] xs)) (sym next);
    }

pub returns-clause-apart : goal.returns-clause-apart
returns-clause-apart g c = λ none.
    let cs = c.args.connections.now in
    let all = take_all c.loop-connection.connection-index cs c.loop-connection-test.false in
    are_apart (is_known c.args.known) (map view.named_connection cs)
    (ap (λ (xs : List NamedConnection). least (connected_names (is_known c.args.known) [] (map view.named_connection xs))) (sym all) ∙ sym c.loop-connection.invariant.fault ∙ none)
