use Rattle.std.proofs.Common.{◌++◌, [], map, Some, option_map, refl, sym, ap, ◌∙◌}
use Rattle.std.proofs.lemmas.Option.{slice_get-map}
use Rattle.vs_grammar.specs.Shapes.{Given, IsExpr}
use Rattle.vs_ast.specs.Views as view
use Rattle.vs_scope.specs.Frames.{env_at, envs}
use Rattle.vs_items.specs.Ports.{name_bytes}
use Rattle.vs_items.specs.Overriding.{one_override}
use Rattle.vs_items.proofs.ConnectionSteps.{got_at}
use Rattle.vs_items.proofs.FaultLists.{each_at}
use Rattle.vs_items.proofs.OverridingSteps.{none_said, none_fine, none_distinct, said_alike, order_more, order_end}
use Rattle.vs_items.proofs.overriding.by_order.Goals as goal

pub loop-n-init : goal.loop-n-init
loop-n-init c = record {
  said = λ frames. ([], none_said frames c.new-overrides.result c.new-overrides.ensures, refl);
  fine = λ frames h. none_fine frames c.new-overrides.result c.new-overrides.ensures;
  distinct = none_distinct c.new-overrides.result c.new-overrides.ensures;
}

pub loop-n-preserved : goal.loop-n-preserved
loop-n-preserved c = record {
  said = λ frames.
      let env = env_at (envs frames) (Some c.args.frame) in
      let names = map name_bytes c.args.parameters.now in
      let w = c.loop-n.invariant.said frames in
      let x = view.option view.expr c.index-parts-n.result in
      let name = option_map name_bytes c.copied.result in
      let found = ap (option_map name_bytes) (c.copied.ensures ∙ got_at c.get.result c.args.parameters.now c.loop-n.n c.get.ensures.lookup.0 c.get.ensures.lookup.1) ∙ sym (slice_get-map name_bytes c.args.parameters.now c.loop-n.n) in (
        w.0 ++ one_override name x env,
        c.in_ok-note_override.ensures.said frames w.0 w.1,
        order_more names env w.0 (w.0 ++ one_override name x env) _ c.args.parts.now c.loop-n.n c.index-parts-n.result name c.loop-n-test.true c.index-parts-n.is found refl w.2,
      );
  fine = λ frames h.
      c.in_ok-note_override.ensures.fine frames (c.loop-n.invariant.fine frames h)
      (each_at (Given IsExpr) (view.option view.expr) c.args.parts.now c.loop-n.n c.index-parts-n.result c.loop-n-test.true c.index-parts-n.is c.requires) h;
  distinct = c.in_ok-note_override.ensures.distinct c.loop-n.invariant.distinct;
}

pub returns-clause-alike : goal.returns-clause-alike
returns-clause-alike c = λ frames.
    let w = c.loop-n.invariant.said frames in
    said_alike frames c.loop-n.overrides _ (order_end frames c.loop-n.overrides (map name_bytes c.args.parameters.now) (env_at (envs frames) (Some c.args.frame)) w.0 _ c.args.parts.now c.loop-n.n c.loop-n-test.false w.2 w.1)
