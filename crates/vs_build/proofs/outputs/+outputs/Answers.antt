use Rattle.std.proofs.Common.{rules, false, OnOk, ◌+◌, ◌≡◌, take, length, ap, subst, sym, ◌∙◌, arith}
use Rattle.vs_grammar.specs.Depths.{target_depth, targets_depth}
use Rattle.vs_ast.specs.Views as view
use Rattle.vs_ast.proofs.Rows.{expr_rows}
use Rattle.vs_ast.specs.declared.expressions.Expr.{the_lemmas}
use Rattle.vs_build.specs.Drafts.{home, AddsExpression}
use Rattle.vs_build.specs.Growth.{draft}
use Rattle.vs_build.specs.Outputs.{output_of, outputs_of, output_expression, output_expressions, IsOutput, AreOutputs}
use Rattle.vs_build.proofs.Lists.{concatenation_view, parts_none, parts_more, parts_are, ends_parts}
use Rattle.vs_build.proofs.TargetFacts.{named_selectable}
use Rattle.vs_build.proofs.OutputFacts.{named_output, concatenation_output, some_part, part_count, part_falls, part_after, each_part, part_levels, taken_more, taken_all, join_arm}
use Rattle.vs_build.proofs.outputs.+outputs.Goals as goal

pub output-selected-requires : goal.output-selected-requires
output-selected-requires g t c =
    named_selectable (home (draft c.args.builder.now)) (g.E.Env.names c.args.env.now) false (view.name c.in-Named.name) (view.select c.in-Named.select) (named_output (home (draft c.args.builder.now)) (g.E.Env.names c.args.env.now) (view.name c.in-Named.name) (view.select c.in-Named.select) (subst (λ x. IsOutput (home (draft c.args.builder.now)) (g.E.Env.names c.args.env.now) (view.expr x)) c.in-Named.is c.requires))

pub output-returns-in-Named : goal.output-returns-in-Named
output-returns-in-Named g t c =
    subst (λ x. OnOk c.selected.result (AddsExpression (draft c.args.builder.now) (draft c.selected.new.builder) (output_expression (view.expr x) (g.E.Env.names c.args.env.now)) (1 + target_depth (output_of (view.expr x))))) (sym c.in-Named.is) c.selected.ensures

pub output-outputs-requires : goal.output-outputs-requires
output-outputs-requires g t c κs within =
    (search (rules, expr_rows, the_lemmas), (within, (subst (λ xs. AreOutputs (home (draft c.args.builder.now)) (g.E.Env.names c.args.env.now) (view.exprs xs)) (sym c.deref.ensures.value) (concatenation_output (home (draft c.args.builder.now)) (g.E.Env.names c.args.env.now) c.in-Concatenation.place (view.exprs c.in-Concatenation.parts.items) (subst (λ x. IsOutput (home (draft c.args.builder.now)) (g.E.Env.names c.args.env.now) x) (ap view.expr c.in-Concatenation.is ∙ concatenation_view c.in-Concatenation.place c.in-Concatenation.parts) c.requires)).parts_are)))

pub output-join-requires-clause-parts : goal.output-join-requires-clause-parts
output-join-requires-clause-parts g t c =
    ends_parts (draft c.args.builder.now) (draft c.outputs.new.builder) (output_expressions (g.E.Env.names c.args.env.now) c.deref.result.now) (1 + targets_depth (outputs_of (view.exprs c.deref.result.now))) c.len.result c.in_ok-outputs-in-Concatenation.ensures (omega (arith, (subst (λ xs. AreOutputs (home (draft c.args.builder.now)) (g.E.Env.names c.args.env.now) (view.exprs xs)) (sym c.deref.ensures.value) (concatenation_output (home (draft c.args.builder.now)) (g.E.Env.names c.args.env.now) c.in-Concatenation.place (view.exprs c.in-Concatenation.parts.items) (subst (λ x. IsOutput (home (draft c.args.builder.now)) (g.E.Env.names c.args.env.now) x) (ap view.expr c.in-Concatenation.is ∙ concatenation_view c.in-Concatenation.place c.in-Concatenation.parts) c.requires)).parts_are).fine.shallow)) ((let n : c.len.result ≡ length c.in-Concatenation.parts.items = search rules in n) ∙ ap length (sym c.deref.ensures.value) ∙ sym (part_count (g.E.Env.names c.args.env.now) c.deref.result.now))

pub output-join-requires-clause-some : goal.output-join-requires-clause-some
output-join-requires-clause-some g t c =
    let n : c.len.result ≡ length c.in-Concatenation.parts.items = search rules in omega (arith, n, some_part c.in-Concatenation.parts.items (home (draft c.args.builder.now)) (g.E.Env.names c.args.env.now) (concatenation_output (home (draft c.args.builder.now)) (g.E.Env.names c.args.env.now) c.in-Concatenation.place (view.exprs c.in-Concatenation.parts.items) (subst (λ x. IsOutput (home (draft c.args.builder.now)) (g.E.Env.names c.args.env.now) x) (ap view.expr c.in-Concatenation.is ∙ concatenation_view c.in-Concatenation.place c.in-Concatenation.parts) c.requires)).parts_are)

pub output-returns-in_ok-outputs-in-Concatenation : goal.output-returns-in_ok-outputs-in-Concatenation
output-returns-in_ok-outputs-in-Concatenation g t c =
    subst (λ x. OnOk c.join.result (AddsExpression (draft c.args.builder.now) (draft c.join.new.self) (output_expression x (g.E.Env.names c.args.env.now)) (1 + target_depth (output_of x)))) (sym (ap view.expr c.in-Concatenation.is ∙ concatenation_view c.in-Concatenation.place c.in-Concatenation.parts))
    (join_arm c.join.result (draft c.args.builder.now) (draft c.outputs.new.builder) (draft c.join.new.self) (g.E.Env.names c.args.env.now) c.in-Concatenation.place c.len.result c.in-Concatenation.parts.items c.deref.result.now c.deref.ensures.value (some_part c.in-Concatenation.parts.items (home (draft c.args.builder.now)) (g.E.Env.names c.args.env.now) (concatenation_output (home (draft c.args.builder.now)) (g.E.Env.names c.args.env.now) c.in-Concatenation.place (view.exprs c.in-Concatenation.parts.items) (subst (λ x. IsOutput (home (draft c.args.builder.now)) (g.E.Env.names c.args.env.now) x) (ap view.expr c.in-Concatenation.is ∙ concatenation_view c.in-Concatenation.place c.in-Concatenation.parts) c.requires)).parts_are) (let n : c.len.result ≡ length c.in-Concatenation.parts.items = search rules in n) (concatenation_output (home (draft c.args.builder.now)) (g.E.Env.names c.args.env.now) c.in-Concatenation.place (view.exprs c.in-Concatenation.parts.items) (subst (λ x. IsOutput (home (draft c.args.builder.now)) (g.E.Env.names c.args.env.now) x) (ap view.expr c.in-Concatenation.is ∙ concatenation_view c.in-Concatenation.place c.in-Concatenation.parts) c.requires)).whole c.in_ok-outputs-in-Concatenation.ensures c.join.ensures)

pub outputs-output-requires : goal.outputs-output-requires
outputs-output-requires g t c κs within =
    (part_falls c.args.list.now c.loop-part.part-index c.part-item.result t (omega arith) c.part-item.is c.decreases, (within, part_after (draft c.args.builder.now) (draft c.loop-part.builder) _ _ (g.E.Env.names c.args.env.now) (view.expr c.part-item.result) c.loop-part.invariant (each_part (home (draft c.args.builder.now)) (g.E.Env.names c.args.env.now) c.args.list.now c.loop-part.part-index c.part-item.result c.requires (omega arith) c.part-item.is)))

pub outputs-loop-part-init : goal.outputs-loop-part-init
outputs-loop-part-init g t c =
    parts_none (draft c.args.builder.now) (1 + targets_depth (outputs_of (view.exprs c.args.list.now)))

pub outputs-loop-part-preserved : goal.outputs-loop-part-preserved
outputs-loop-part-preserved g t c =
    parts_are (draft c.args.builder.now) (draft c.output.new.builder) _ _ (1 + targets_depth (outputs_of (view.exprs c.args.list.now))) (sym (taken_more (g.E.Env.names c.args.env.now) c.args.list.now c.loop-part.part-index c.part-item.result (omega arith) c.part-item.is))
    (parts_more (draft c.args.builder.now) (draft c.loop-part.builder) (draft c.output.new.builder) (output_expressions (g.E.Env.names c.args.env.now) (take c.loop-part.part-index c.args.list.now)) (output_expression (view.expr c.part-item.result) (g.E.Env.names c.args.env.now)) (1 + targets_depth (outputs_of (view.exprs c.args.list.now))) (1 + target_depth (output_of (view.expr c.part-item.result))) c.loop-part.invariant c.in_ok-output.ensures
    (omega (arith, part_levels c.args.list.now c.loop-part.part-index c.part-item.result (omega arith) c.part-item.is)))

pub outputs-returns : goal.outputs-returns
outputs-returns g t c =
    parts_are (draft c.args.builder.now) (draft c.loop-part.builder) _ _ (1 + targets_depth (outputs_of (view.exprs c.args.list.now))) (taken_all (g.E.Env.names c.args.env.now) c.args.list.now c.loop-part.part-index (omega arith)) c.loop-part.invariant
