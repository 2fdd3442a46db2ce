use Rattle.std.proofs.Common.{rules, OnOk, ◌+◌, ◌≡◌, take, length, ap, subst, sym, ◌∙◌, arith}
use Rattle.vs_grammar.specs.Depths.{target_depth, targets_depth}
use Rattle.vs_ast.specs.Views as view
use Rattle.vs_ast.proofs.Rows.{target_rows}
use Rattle.vs_ast.specs.declared.statements.Target.{the_lemmas}
use Rattle.vs_build.specs.Drafts.{home, AddsExpression}
use Rattle.vs_build.specs.Growth.{draft}
use Rattle.vs_build.specs.Writable.{IsWritable, AreWritable, target_expression, target_expressions}
use Rattle.vs_build.proofs.Lists.{parts_none, parts_more, parts_are, ends_parts}
use Rattle.vs_build.proofs.TargetFacts.{named_selectable, concatenation_view, concatenation_parts, some_part, part_count, part_falls, part_after, each_part, part_levels, taken_more, taken_all, join_arm}
use Rattle.vs_build.proofs.targets.+targets.Goals as goal

pub target-selected-requires : goal.target-selected-requires
target-selected-requires g t c =
    named_selectable (home (draft c.args.builder.now)) (g.E.Env.names c.args.env.now) c.args.procedural (view.name c.in-Named.name) (view.select c.in-Named.select) (subst (λ x. IsWritable (home (draft c.args.builder.now)) (g.E.Env.names c.args.env.now) c.args.procedural (view.target x)) c.in-Named.is c.requires)

pub target-returns-in-Named : goal.target-returns-in-Named
target-returns-in-Named g t c =
    subst (λ x. OnOk c.selected.result (AddsExpression (draft c.args.builder.now) (draft c.selected.new.builder) (target_expression (view.target x) (g.E.Env.names c.args.env.now) c.args.procedural) (1 + target_depth (view.target x)))) (sym c.in-Named.is) c.selected.ensures

pub target-targets-requires : goal.target-targets-requires
target-targets-requires g t c κs within =
    (search (rules, target_rows, the_lemmas), (within, (subst (λ xs. AreWritable (home (draft c.args.builder.now)) (g.E.Env.names c.args.env.now) c.args.procedural (view.targets xs)) (sym c.deref.ensures.value) (concatenation_parts (home (draft c.args.builder.now)) (g.E.Env.names c.args.env.now) c.args.procedural c.in-Concatenation.place (view.targets c.in-Concatenation.parts.items) (subst (λ x. IsWritable (home (draft c.args.builder.now)) (g.E.Env.names c.args.env.now) c.args.procedural x) (ap view.target c.in-Concatenation.is ∙ concatenation_view c.in-Concatenation.place c.in-Concatenation.parts) c.requires)))))

pub target-join-requires-clause-parts : goal.target-join-requires-clause-parts
target-join-requires-clause-parts g t c =
    ends_parts (draft c.args.builder.now) (draft c.targets.new.builder) (target_expressions (g.E.Env.names c.args.env.now) c.args.procedural c.deref.result.now) (1 + targets_depth (view.targets c.deref.result.now)) c.len.result c.in_ok-targets-in-Concatenation.ensures (omega (arith, (subst (λ xs. AreWritable (home (draft c.args.builder.now)) (g.E.Env.names c.args.env.now) c.args.procedural (view.targets xs)) (sym c.deref.ensures.value) (concatenation_parts (home (draft c.args.builder.now)) (g.E.Env.names c.args.env.now) c.args.procedural c.in-Concatenation.place (view.targets c.in-Concatenation.parts.items) (subst (λ x. IsWritable (home (draft c.args.builder.now)) (g.E.Env.names c.args.env.now) c.args.procedural x) (ap view.target c.in-Concatenation.is ∙ concatenation_view c.in-Concatenation.place c.in-Concatenation.parts) c.requires))).shallow)) ((let n : c.len.result ≡ length c.in-Concatenation.parts.items = search rules in n) ∙ ap length (sym c.deref.ensures.value) ∙ sym (part_count (g.E.Env.names c.args.env.now) c.args.procedural c.deref.result.now))

pub target-join-requires-clause-some : goal.target-join-requires-clause-some
target-join-requires-clause-some g t c =
    let n : c.len.result ≡ length c.in-Concatenation.parts.items = search rules in omega (arith, n, some_part c.in-Concatenation.parts.items (concatenation_parts (home (draft c.args.builder.now)) (g.E.Env.names c.args.env.now) c.args.procedural c.in-Concatenation.place (view.targets c.in-Concatenation.parts.items) (subst (λ x. IsWritable (home (draft c.args.builder.now)) (g.E.Env.names c.args.env.now) c.args.procedural x) (ap view.target c.in-Concatenation.is ∙ concatenation_view c.in-Concatenation.place c.in-Concatenation.parts) c.requires)).shaped)

pub target-returns-in_ok-targets-in-Concatenation : goal.target-returns-in_ok-targets-in-Concatenation
target-returns-in_ok-targets-in-Concatenation g t c =
    subst (λ x. OnOk c.join.result (AddsExpression (draft c.args.builder.now) (draft c.join.new.self) (target_expression x (g.E.Env.names c.args.env.now) c.args.procedural) (1 + target_depth x))) (sym (ap view.target c.in-Concatenation.is ∙ concatenation_view c.in-Concatenation.place c.in-Concatenation.parts))
    (join_arm c.join.result (draft c.args.builder.now) (draft c.targets.new.builder) (draft c.join.new.self) (g.E.Env.names c.args.env.now) c.args.procedural c.in-Concatenation.place c.len.result c.in-Concatenation.parts.items c.deref.result.now c.deref.ensures.value (some_part c.in-Concatenation.parts.items (concatenation_parts (home (draft c.args.builder.now)) (g.E.Env.names c.args.env.now) c.args.procedural c.in-Concatenation.place (view.targets c.in-Concatenation.parts.items) (subst (λ x. IsWritable (home (draft c.args.builder.now)) (g.E.Env.names c.args.env.now) c.args.procedural x) (ap view.target c.in-Concatenation.is ∙ concatenation_view c.in-Concatenation.place c.in-Concatenation.parts) c.requires)).shaped) (let n : c.len.result ≡ length c.in-Concatenation.parts.items = search rules in n) c.in_ok-targets-in-Concatenation.ensures c.join.ensures)

pub targets-target-requires : goal.targets-target-requires
targets-target-requires g t c κs within =
    (part_falls c.args.list.now c.loop-part.part-index c.part-item.result t (omega arith) c.part-item.is c.decreases, (within, part_after (draft c.args.builder.now) (draft c.loop-part.builder) _ _ (g.E.Env.names c.args.env.now) c.args.procedural (view.target c.part-item.result) c.loop-part.invariant (each_part (home (draft c.args.builder.now)) (g.E.Env.names c.args.env.now) c.args.procedural c.args.list.now c.loop-part.part-index c.part-item.result c.requires (omega arith) c.part-item.is)))

pub targets-loop-part-init : goal.targets-loop-part-init
targets-loop-part-init g t c =
    parts_none (draft c.args.builder.now) (1 + targets_depth (view.targets c.args.list.now))

pub targets-loop-part-preserved : goal.targets-loop-part-preserved
targets-loop-part-preserved g t c =
    parts_are (draft c.args.builder.now) (draft c.target.new.builder) _ _ (1 + targets_depth (view.targets c.args.list.now)) (sym (taken_more (g.E.Env.names c.args.env.now) c.args.procedural c.args.list.now c.loop-part.part-index c.part-item.result (omega arith) c.part-item.is))
    (parts_more (draft c.args.builder.now) (draft c.loop-part.builder) (draft c.target.new.builder) (target_expressions (g.E.Env.names c.args.env.now) c.args.procedural (take c.loop-part.part-index c.args.list.now)) (target_expression (view.target c.part-item.result) (g.E.Env.names c.args.env.now) c.args.procedural) (1 + targets_depth (view.targets c.args.list.now)) (1 + target_depth (view.target c.part-item.result)) c.loop-part.invariant c.in_ok-target.ensures
    (omega (arith, part_levels c.args.list.now c.loop-part.part-index c.part-item.result (omega arith) c.part-item.is)))

pub targets-returns : goal.targets-returns
targets-returns g t c =
    parts_are (draft c.args.builder.now) (draft c.loop-part.builder) _ _ (1 + targets_depth (view.targets c.args.list.now)) (taken_all (g.E.Env.names c.args.env.now) c.args.procedural c.args.list.now c.loop-part.part-index (omega arith)) c.loop-part.invariant
