use Rattle.std.proofs.Common.{◌+◌, ◌++◌, ℕ, List, map, take, Some, ap, ◌∙◌}
use Rattle.std.proofs.lemmas.List.{take_all}
use Rattle.vs_grammar.specs.Shapes.{IsConnection}
use Rattle.vs_ast.specs.declared.items.NamedConnection.{NamedConnection}
use Rattle.vs_ast.specs.Views as view
use Rattle.vs_elaborated.specs.Instances.{overrides_by_name}
use Rattle.vs_scope.specs.Frames.{env_at, envs}
use Rattle.vs_items.specs.Overriding.{one_override}
use Rattle.vs_items.proofs.FaultLists.{each_at}
use Rattle.vs_items.proofs.Repeats.{one_more}
use Rattle.vs_items.proofs.OverridingSteps.{none_said, none_fine, none_distinct, same_said, said_alike, names_more}
use Rattle.vs_items.proofs.overriding.by_name.Goals as goal

pub loop-part-init : goal.loop-part-init
loop-part-init c = record {
  said = λ frames. none_said frames c.new-overrides.result c.new-overrides.ensures;
  fine = λ frames h. none_fine frames c.new-overrides.result c.new-overrides.ensures;
  distinct = none_distinct c.new-overrides.result c.new-overrides.ensures;
}

pub loop-part-preserved : goal.loop-part-preserved
loop-part-preserved c = record {
  said = λ frames.
      let env = env_at (envs frames) (Some c.args.frame) in
      let p = view.named_connection c.part-item.result in
      let cs = map view.named_connection (take c.loop-part.part-index c.args.parts.now) in
      let done = (overrides_by_name cs env).overrides in
      same_said frames c.note_override.new.overrides (done ++ one_override (Some c.as_slice-name.result.now) p.e env) (overrides_by_name (map view.named_connection (take (c.loop-part.part-index + 1) c.args.parts.now)) env).overrides
      (ap (λ (n : List ℕ). done ++ one_override (Some n) p.e env) c.as_slice-name.ensures
      ∙ names_more cs (map view.named_connection (take (c.loop-part.part-index + 1) c.args.parts.now)) p env (one_more view.named_connection c.args.parts.now c.loop-part.part-index c.part-item.result c.loop-part-test.true c.part-item.is))
      (c.in_ok-note_override.ensures.said frames done (c.loop-part.invariant.said frames));
  fine = λ frames h.
      c.in_ok-note_override.ensures.fine frames (c.loop-part.invariant.fine frames h)
      (each_at IsConnection view.named_connection c.args.parts.now c.loop-part.part-index c.part-item.result c.loop-part-test.true c.part-item.is c.requires).1 h;
  distinct = c.in_ok-note_override.ensures.distinct c.loop-part.invariant.distinct;
}

pub returns-clause-alike : goal.returns-clause-alike
returns-clause-alike c = λ frames.
    let env = env_at (envs frames) (Some c.args.frame) in
    said_alike frames c.loop-part.overrides _
    (same_said frames c.loop-part.overrides _ _ (ap (λ (xs : List NamedConnection). (overrides_by_name (map view.named_connection xs) env).overrides) (take_all c.loop-part.part-index c.args.parts.now c.loop-part-test.false)) (c.loop-part.invariant.said frames))
