use Rattle.std.proofs.Common.{◌≡◌, ◌++◌, Option, Some, None, option_map, sym, ap, ◌∙◌, subst}
use Rattle.std.specs.Prelude.{OnOk}
use Rattle.std.proofs.lemmas.List.{append-nil}
use Rattle.vs_elaborated.specs.Ports.{Port}
use Rattle.vs_elaborated.specs.Instances.{connected}
use Rattle.vs_maps.specs.MapViews.{pairs}
use Rattle.vs_items.specs.Connections.{said, connected_if}
use Rattle.vs_items.specs.Fine.{IsFineValue}
use Rattle.vs_items.proofs.FineConnections.{named_at}
use Rattle.vs_items.proofs.NamedConnections.{tree_value, value_named}
use Rattle.vs_items.proofs.connections.push_named.Goals as goal

pub returns-in-None : goal.returns-in-None
returns-in-None c = record {
  said = λ ps cs env a named.
      let value = value_named (pairs c.args.names.now) cs c.args.name.now None (sym (ap (option_map (λ x. x.now)) c.in-None.is) ∙ c.get.ensures.value) named in
      sym (append-nil (said env c.args.list.now.items)) ∙ ap (λ v. said env c.args.list.now.items ++ connected_if ps env c.args.name.now v) value;
  fine = λ ps cs env a named all old. old;
}

pub returns-in-Some : goal.returns-in-Some
returns-in-Some c = record {
  said = λ ps cs env a named.
      let value = value_named (pairs c.args.names.now) cs c.args.name.now (Some c.in-Some.value.now) (sym (ap (option_map (λ x. x.now)) c.in-Some.is) ∙ c.get.ensures.value) named in
      subst (λ r. OnOk c.push_connection.result (said env c.push_connection.new.list.items ≡ said env c.args.list.now.items ++ r))
      (ap (λ p. (connected p (tree_value c.in-Some.value.now) env).connections) (c.find.ensures ps a) ∙ ap (connected_if ps env c.args.name.now) value)
      (c.push_connection.ensures.said env);
  fine = λ ps cs env a named all old.
      let value = value_named (pairs c.args.names.now) cs c.args.name.now (Some c.in-Some.value.now) (sym (ap (option_map (λ x. x.now)) c.in-Some.is) ∙ c.get.ensures.value) named in
      c.push_connection.ensures.fine env
      (subst (λ (p : Option Port). IsFineValue env p (tree_value c.in-Some.value.now)) (sym (c.find.ensures ps a)) (named_at ps env cs c.args.name.now (tree_value c.in-Some.value.now) all (sym value))) old;
}
