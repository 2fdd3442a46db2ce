use Rattle.std.proofs.Common.{rules, ℕ, true, false, ◌||◌, OnOk, ◌++◌, ◌≤◌, ◌+◌, ◌<◌, ◌≡◌, max, min, take, length, Some, None, refl, ap, subst, sym, ◌∙◌, arith}
use denote.Param.Weighed.{most}
use Rattle.vs_four.specs.Numbers.{bits_of}
use Rattle.vs_four.specs.Selects.{range_length}
use Rattle.vs_design.specs.Expressions as E
use Rattle.vs_design.specs.Values.{constant_value}
use Rattle.vs_grammar.specs.Trees as tree
use Rattle.vs_grammar.specs.Trees.{expr_place}
use Rattle.vs_grammar.specs.Depths.{expr_depth, exprs_depth, select_depth}
use Rattle.vs_ast.specs.Views as view
use Rattle.vs_ast.proofs.expressions.Expr.TheLaws.{the_size}
use Rattle.vs_ast.proofs.Rows.{expr_rows}
use Rattle.vs_ast.specs.declared.expressions.Expr.{the_lemmas}
use Rattle.vs_const.specs.Meanings.{steady}
use Rattle.vs_const.specs.Typed.{begins_at, natural}
use Rattle.vs_const.specs.Selects.{taken, bounds, lesser_bound, is_array}
use Rattle.vs_const.specs.Expressions.{constant, typed, taken_by}
use Rattle.vs_const.proofs.Rows.{some_part}
use Rattle.vs_const.proofs.Sizes.{arguments_size, unary_size, left_size, right_size, condition_size, yes_size, no_size, call_size, brackets_size, falls}
use Rattle.vs_flat.specs.Targets.{source_of}
use Rattle.vs_build.specs.Drafts.{Draft, home, AddsExpression, EndsInSelect}
use Rattle.vs_build.specs.Growth.{draft}
use Rattle.vs_build.specs.Buildable.{IsBuildable, memory_of, IsWordAddressable, IsSelectable, IsTakable, AreBuildable, AreArguments, HasBits, IsWithin, AreBounds, IsRangeOf, IsConstant, part_expressions, passed_expressions, selected_by}
use Rattle.vs_build.proofs.Arms.{up_to, begins_twice, begins_itself, child, child_ends, children_end, ends_three, after, same_home, ok_up_to, unary_operand, brackets_inner, binary_left, binary_right, choice_condition, choice_yes, choice_no, unary_arm, binary_arm, choice_arm}
use Rattle.vs_build.proofs.Lists.{concatenation_view, replication_view, each_part, part_levels, part_falls, taken_more, taken_all, parts_none, parts_more, parts_are, ends_parts, part_after, part_count, concatenation_parts, join_arm, each_argument, apply_view, call_is, call_many, function_at, call_arm, replication_is, replication_expression, deeper_up_to, parts_both, passable_there, passable_behind, held_count}
use Rattle.vs_build.proofs.Selects.{named_select, named_expression, bit_taken, bit_index, bit_address, bit_word, word_ends, word_arm, moving_taken, moving_is, between_is, between_taken, select_ends, select_arm, signed_operand, unsigned_operand, clog2_constant, clog2_arm}
use Rattle.vs_build.proofs.Further.{index_parts, moving_parts, moving_bits, between_parts, between_bits, taken_index, taken_part, further_is, takable_after, looked_up, further_ends, further_arm}
use Rattle.vs_build.proofs.expressions.+expressions.Goals as goal

pub expression-unary-requires : goal.expression-unary-requires
expression-unary-requires g t c =
    child_ends (home (draft c.args.builder.now)) (g.E.Env.names c.args.env.now) c.args.needed (view.expr c.deref-in-Unary.result.now) (draft c.args.builder.now) (draft c.operand.new.builder) (child (home (draft c.args.builder.now)) (g.E.Env.names c.args.env.now) c.args.needed c.deref-in-Unary.result.now c.in-Unary.a.value c.deref-in-Unary.ensures (unary_operand (home (draft c.args.builder.now)) (g.E.Env.names c.args.env.now) c.args.needed _ _ (view.expr c.in-Unary.a.value) (subst (λ x. IsBuildable (home (draft c.args.builder.now)) (g.E.Env.names c.args.env.now) c.args.needed (view.expr x)) c.in-Unary.is c.requires))) c.in_ok-operand-in-Unary.ensures

pub expression-returns-in_ok-operand-in-Unary : goal.expression-returns-in_ok-operand-in-Unary
expression-returns-in_ok-operand-in-Unary g t c =
    subst (λ x. OnOk c.unary.result (AddsExpression (draft c.args.builder.now) (draft c.unary.new.self) (begins_at c.args.at (typed (view.expr x) (g.E.Env.names c.args.env.now) c.args.needed).expression) (1 + expr_depth (view.expr x)))) (sym c.in-Unary.is)
    (unary_arm c.unary.result (draft c.args.builder.now) (draft c.operand.new.builder) (draft c.unary.new.self) (g.E.Env.names c.args.env.now) c.args.needed c.args.at c.in-Unary.op c.in-Unary.a.value c.deref-in-Unary.result.now c.deref-in-Unary.ensures c.in_ok-operand-in-Unary.ensures c.unary.ensures)

pub expression-operand-requires-in-Binary : goal.expression-operand-requires-in-Binary
expression-operand-requires-in-Binary g t c κs within =
    (omega (arith, falls c.args.e.now c.deref-in-Binary.result.now _ _ (left_size _ c.in-Binary.left c.in-Binary.right) c.in-Binary.is c.deref-in-Binary.ensures, c.decreases), (within, (child (home (draft c.args.builder.now)) (g.E.Env.names c.args.env.now) c.args.needed c.deref-in-Binary.result.now c.in-Binary.left.value c.deref-in-Binary.ensures (binary_left (home (draft c.args.builder.now)) (g.E.Env.names c.args.env.now) c.args.needed c.in-Binary.op (view.expr c.in-Binary.left.value) (view.expr c.in-Binary.right.value) (subst (λ x. IsBuildable (home (draft c.args.builder.now)) (g.E.Env.names c.args.env.now) c.args.needed (view.expr x)) c.in-Binary.is c.requires)))))

pub expression-operand-requires-in-Binary-2 : goal.expression-operand-requires-in-Binary-2
expression-operand-requires-in-Binary-2 g t c κs within =
    (omega (arith, falls c.args.e.now c.deref-in-Binary-2.result.now _ _ (right_size _ c.in-Binary.left c.in-Binary.right) c.in-Binary.is c.deref-in-Binary-2.ensures, c.decreases), (within, (after (draft c.args.builder.now) (draft c.operand-in-Binary.new.builder) (typed (view.expr c.deref-in-Binary.result.now) (g.E.Env.names c.args.env.now) c.args.needed).expression (1 + expr_depth (view.expr c.deref-in-Binary.result.now)) (g.E.Env.names c.args.env.now) c.args.needed (view.expr c.deref-in-Binary-2.result.now) c.in_ok-operand-in-Binary.ensures (child (home (draft c.args.builder.now)) (g.E.Env.names c.args.env.now) c.args.needed c.deref-in-Binary-2.result.now c.in-Binary.right.value c.deref-in-Binary-2.ensures (binary_right (home (draft c.args.builder.now)) (g.E.Env.names c.args.env.now) c.args.needed c.in-Binary.op (view.expr c.in-Binary.left.value) (view.expr c.in-Binary.right.value) (subst (λ x. IsBuildable (home (draft c.args.builder.now)) (g.E.Env.names c.args.env.now) c.args.needed (view.expr x)) c.in-Binary.is c.requires))))))

pub expression-binary-requires : goal.expression-binary-requires
expression-binary-requires g t c =
    children_end (home (draft c.args.builder.now)) (g.E.Env.names c.args.env.now) c.args.needed (view.expr c.deref-in-Binary.result.now) (view.expr c.deref-in-Binary-2.result.now) (draft c.args.builder.now) (draft c.operand-in-Binary.new.builder) (draft c.operand-in-Binary-2.new.builder) (child (home (draft c.args.builder.now)) (g.E.Env.names c.args.env.now) c.args.needed c.deref-in-Binary.result.now c.in-Binary.left.value c.deref-in-Binary.ensures (binary_left (home (draft c.args.builder.now)) (g.E.Env.names c.args.env.now) c.args.needed c.in-Binary.op (view.expr c.in-Binary.left.value) (view.expr c.in-Binary.right.value) (subst (λ x. IsBuildable (home (draft c.args.builder.now)) (g.E.Env.names c.args.env.now) c.args.needed (view.expr x)) c.in-Binary.is c.requires))) (child (home (draft c.args.builder.now)) (g.E.Env.names c.args.env.now) c.args.needed c.deref-in-Binary-2.result.now c.in-Binary.right.value c.deref-in-Binary-2.ensures (binary_right (home (draft c.args.builder.now)) (g.E.Env.names c.args.env.now) c.args.needed c.in-Binary.op (view.expr c.in-Binary.left.value) (view.expr c.in-Binary.right.value) (subst (λ x. IsBuildable (home (draft c.args.builder.now)) (g.E.Env.names c.args.env.now) c.args.needed (view.expr x)) c.in-Binary.is c.requires))) c.in_ok-operand-in-Binary.ensures c.in_ok-operand-in-Binary-2.ensures

pub expression-returns-in_ok-operand-in-Binary-2 : goal.expression-returns-in_ok-operand-in-Binary-2
expression-returns-in_ok-operand-in-Binary-2 g t c =
    subst (λ x. OnOk c.binary.result (AddsExpression (draft c.args.builder.now) (draft c.binary.new.self) (begins_at c.args.at (typed (view.expr x) (g.E.Env.names c.args.env.now) c.args.needed).expression) (1 + expr_depth (view.expr x)))) (sym c.in-Binary.is)
    (binary_arm c.binary.result (draft c.args.builder.now) (draft c.operand-in-Binary.new.builder) (draft c.operand-in-Binary-2.new.builder) (draft c.binary.new.self) (g.E.Env.names c.args.env.now) c.args.needed c.args.at c.in-Binary.op c.in-Binary.left.value c.in-Binary.right.value c.deref-in-Binary.result.now c.deref-in-Binary-2.result.now c.deref-in-Binary.ensures c.deref-in-Binary-2.ensures c.in_ok-operand-in-Binary.ensures c.in_ok-operand-in-Binary-2.ensures c.binary.ensures)

pub expression-operand-requires-in-Choice : goal.expression-operand-requires-in-Choice
expression-operand-requires-in-Choice g t c κs within =
    (omega (arith, falls c.args.e.now c.deref-in-Choice.result.now _ _ (condition_size c.in-Choice.condition c.in-Choice.yes c.in-Choice.no) c.in-Choice.is c.deref-in-Choice.ensures, c.decreases), (within, (child (home (draft c.args.builder.now)) (g.E.Env.names c.args.env.now) c.args.needed c.deref-in-Choice.result.now c.in-Choice.condition.value c.deref-in-Choice.ensures (choice_condition (home (draft c.args.builder.now)) (g.E.Env.names c.args.env.now) c.args.needed (view.expr c.in-Choice.condition.value) (view.expr c.in-Choice.yes.value) (view.expr c.in-Choice.no.value) (subst (λ x. IsBuildable (home (draft c.args.builder.now)) (g.E.Env.names c.args.env.now) c.args.needed (view.expr x)) c.in-Choice.is c.requires)))))

pub expression-operand-requires-in-Choice-2 : goal.expression-operand-requires-in-Choice-2
expression-operand-requires-in-Choice-2 g t c κs within =
    (omega (arith, falls c.args.e.now c.deref-in-Choice-2.result.now _ _ (yes_size c.in-Choice.condition c.in-Choice.yes c.in-Choice.no) c.in-Choice.is c.deref-in-Choice-2.ensures, c.decreases), (within, (after (draft c.args.builder.now) (draft c.operand-in-Choice.new.builder) (typed (view.expr c.deref-in-Choice.result.now) (g.E.Env.names c.args.env.now) c.args.needed).expression (1 + expr_depth (view.expr c.deref-in-Choice.result.now)) (g.E.Env.names c.args.env.now) c.args.needed (view.expr c.deref-in-Choice-2.result.now) c.in_ok-operand-in-Choice.ensures (child (home (draft c.args.builder.now)) (g.E.Env.names c.args.env.now) c.args.needed c.deref-in-Choice-2.result.now c.in-Choice.yes.value c.deref-in-Choice-2.ensures (choice_yes (home (draft c.args.builder.now)) (g.E.Env.names c.args.env.now) c.args.needed (view.expr c.in-Choice.condition.value) (view.expr c.in-Choice.yes.value) (view.expr c.in-Choice.no.value) (subst (λ x. IsBuildable (home (draft c.args.builder.now)) (g.E.Env.names c.args.env.now) c.args.needed (view.expr x)) c.in-Choice.is c.requires))))))

pub expression-operand-requires-in-Choice-3 : goal.expression-operand-requires-in-Choice-3
expression-operand-requires-in-Choice-3 g t c κs within =
    (omega (arith, falls c.args.e.now c.deref-in-Choice-3.result.now _ _ (no_size c.in-Choice.condition c.in-Choice.yes c.in-Choice.no) c.in-Choice.is c.deref-in-Choice-3.ensures, c.decreases), (within, (after (draft c.operand-in-Choice.new.builder) (draft c.operand-in-Choice-2.new.builder) (typed (view.expr c.deref-in-Choice-2.result.now) (g.E.Env.names c.args.env.now) c.args.needed).expression (1 + expr_depth (view.expr c.deref-in-Choice-2.result.now)) (g.E.Env.names c.args.env.now) c.args.needed (view.expr c.deref-in-Choice-3.result.now) c.in_ok-operand-in-Choice-2.ensures (after (draft c.args.builder.now) (draft c.operand-in-Choice.new.builder) (typed (view.expr c.deref-in-Choice.result.now) (g.E.Env.names c.args.env.now) c.args.needed).expression (1 + expr_depth (view.expr c.deref-in-Choice.result.now)) (g.E.Env.names c.args.env.now) c.args.needed (view.expr c.deref-in-Choice-3.result.now) c.in_ok-operand-in-Choice.ensures (child (home (draft c.args.builder.now)) (g.E.Env.names c.args.env.now) c.args.needed c.deref-in-Choice-3.result.now c.in-Choice.no.value c.deref-in-Choice-3.ensures (choice_no (home (draft c.args.builder.now)) (g.E.Env.names c.args.env.now) c.args.needed (view.expr c.in-Choice.condition.value) (view.expr c.in-Choice.yes.value) (view.expr c.in-Choice.no.value) (subst (λ x. IsBuildable (home (draft c.args.builder.now)) (g.E.Env.names c.args.env.now) c.args.needed (view.expr x)) c.in-Choice.is c.requires)))))))

pub expression-choice-requires : goal.expression-choice-requires
expression-choice-requires g t c =
    ends_three (draft c.args.builder.now) (draft c.operand-in-Choice.new.builder) (draft c.operand-in-Choice-2.new.builder) (draft c.operand-in-Choice-3.new.builder) (typed (view.expr c.deref-in-Choice.result.now) (g.E.Env.names c.args.env.now) c.args.needed).expression (typed (view.expr c.deref-in-Choice-2.result.now) (g.E.Env.names c.args.env.now) c.args.needed).expression (typed (view.expr c.deref-in-Choice-3.result.now) (g.E.Env.names c.args.env.now) c.args.needed).expression (1 + expr_depth (view.expr c.deref-in-Choice.result.now)) (1 + expr_depth (view.expr c.deref-in-Choice-2.result.now)) (1 + expr_depth (view.expr c.deref-in-Choice-3.result.now)) c.in_ok-operand-in-Choice.ensures c.in_ok-operand-in-Choice-2.ensures c.in_ok-operand-in-Choice-3.ensures (omega (arith, (child (home (draft c.args.builder.now)) (g.E.Env.names c.args.env.now) c.args.needed c.deref-in-Choice.result.now c.in-Choice.condition.value c.deref-in-Choice.ensures (choice_condition (home (draft c.args.builder.now)) (g.E.Env.names c.args.env.now) c.args.needed (view.expr c.in-Choice.condition.value) (view.expr c.in-Choice.yes.value) (view.expr c.in-Choice.no.value) (subst (λ x. IsBuildable (home (draft c.args.builder.now)) (g.E.Env.names c.args.env.now) c.args.needed (view.expr x)) c.in-Choice.is c.requires))).shallow)) (omega (arith, (child (home (draft c.args.builder.now)) (g.E.Env.names c.args.env.now) c.args.needed c.deref-in-Choice-2.result.now c.in-Choice.yes.value c.deref-in-Choice-2.ensures (choice_yes (home (draft c.args.builder.now)) (g.E.Env.names c.args.env.now) c.args.needed (view.expr c.in-Choice.condition.value) (view.expr c.in-Choice.yes.value) (view.expr c.in-Choice.no.value) (subst (λ x. IsBuildable (home (draft c.args.builder.now)) (g.E.Env.names c.args.env.now) c.args.needed (view.expr x)) c.in-Choice.is c.requires))).shallow)) (omega (arith, (child (home (draft c.args.builder.now)) (g.E.Env.names c.args.env.now) c.args.needed c.deref-in-Choice-3.result.now c.in-Choice.no.value c.deref-in-Choice-3.ensures (choice_no (home (draft c.args.builder.now)) (g.E.Env.names c.args.env.now) c.args.needed (view.expr c.in-Choice.condition.value) (view.expr c.in-Choice.yes.value) (view.expr c.in-Choice.no.value) (subst (λ x. IsBuildable (home (draft c.args.builder.now)) (g.E.Env.names c.args.env.now) c.args.needed (view.expr x)) c.in-Choice.is c.requires))).shallow))

pub expression-returns-in_ok-operand-in-Choice-3 : goal.expression-returns-in_ok-operand-in-Choice-3
expression-returns-in_ok-operand-in-Choice-3 g t c =
    subst (λ x. OnOk c.choice.result (AddsExpression (draft c.args.builder.now) (draft c.choice.new.self) (begins_at c.args.at (typed (view.expr x) (g.E.Env.names c.args.env.now) c.args.needed).expression) (1 + expr_depth (view.expr x)))) (sym c.in-Choice.is)
    (choice_arm c.choice.result (draft c.args.builder.now) (draft c.operand-in-Choice.new.builder) (draft c.operand-in-Choice-2.new.builder) (draft c.operand-in-Choice-3.new.builder) (draft c.choice.new.self) (g.E.Env.names c.args.env.now) c.args.needed c.args.at c.in-Choice.condition.value c.in-Choice.yes.value c.in-Choice.no.value c.deref-in-Choice.result.now c.deref-in-Choice-2.result.now c.deref-in-Choice-3.result.now c.deref-in-Choice.ensures c.deref-in-Choice-2.ensures c.deref-in-Choice-3.ensures c.in_ok-operand-in-Choice.ensures c.in_ok-operand-in-Choice-2.ensures c.in_ok-operand-in-Choice-3.ensures c.choice.ensures)

pub expression-selected-requires : goal.expression-selected-requires
expression-selected-requires g t c κs within =
    (search (rules, the_lemmas), (within, named_select (home (draft c.args.builder.now)) (g.E.Env.names c.args.env.now) c.args.needed (view.name c.in-Named.name) (view.select c.in-Named.select) (subst (λ x. IsBuildable (home (draft c.args.builder.now)) (g.E.Env.names c.args.env.now) c.args.needed (view.expr x)) c.in-Named.is c.requires)))

pub expression-returns-in-Named : goal.expression-returns-in-Named
expression-returns-in-Named g t c =
    subst (λ x. OnOk c.selected.result (AddsExpression (draft c.args.builder.now) (draft c.selected.new.builder) (begins_at c.args.at (typed (view.expr x) (g.E.Env.names c.args.env.now) c.args.needed).expression) (1 + expr_depth (view.expr x)))) (sym c.in-Named.is)
    (subst (λ z. OnOk c.selected.result (AddsExpression (draft c.args.builder.now) (draft c.selected.new.builder) z (1 + select_depth (view.select c.in-Named.select)))) (named_expression (g.E.Env.names c.args.env.now) c.args.needed c.args.at (view.name c.in-Named.name) (view.select c.in-Named.select)) c.selected.ensures)

pub expression-parts-requires : goal.expression-parts-requires
expression-parts-requires g t c κs within =
    (search (rules, expr_rows, the_lemmas), (within, (subst (λ xs. AreBuildable (home (draft c.args.builder.now)) (g.E.Env.names c.args.env.now) c.args.needed (view.exprs xs)) (sym c.deref-in-Concatenation.ensures.value) (concatenation_parts (home (draft c.args.builder.now)) (g.E.Env.names c.args.env.now) c.args.needed c.in-Concatenation.place (view.exprs c.in-Concatenation.list.items) (subst (λ x. IsBuildable (home (draft c.args.builder.now)) (g.E.Env.names c.args.env.now) c.args.needed x) (ap view.expr c.in-Concatenation.is ∙ concatenation_view c.in-Concatenation.place c.in-Concatenation.list) c.requires)))))

pub expression-join-requires-clause-parts : goal.expression-join-requires-clause-parts
expression-join-requires-clause-parts g t c =
    ends_parts (draft c.args.builder.now) (draft c.parts.new.builder) (part_expressions (g.E.Env.names c.args.env.now) c.args.needed c.deref-in-Concatenation.result.now) (1 + exprs_depth (view.exprs c.deref-in-Concatenation.result.now)) c.len.result c.in_ok-parts-in-Concatenation.ensures (omega (arith, (subst (λ xs. AreBuildable (home (draft c.args.builder.now)) (g.E.Env.names c.args.env.now) c.args.needed (view.exprs xs)) (sym c.deref-in-Concatenation.ensures.value) (concatenation_parts (home (draft c.args.builder.now)) (g.E.Env.names c.args.env.now) c.args.needed c.in-Concatenation.place (view.exprs c.in-Concatenation.list.items) (subst (λ x. IsBuildable (home (draft c.args.builder.now)) (g.E.Env.names c.args.env.now) c.args.needed x) (ap view.expr c.in-Concatenation.is ∙ concatenation_view c.in-Concatenation.place c.in-Concatenation.list) c.requires))).shallow)) ((let n : c.len.result ≡ length c.in-Concatenation.list.items = search rules in n) ∙ ap length (sym c.deref-in-Concatenation.ensures.value) ∙ sym (part_count (g.E.Env.names c.args.env.now) c.args.needed c.deref-in-Concatenation.result.now))

pub expression-join-requires-clause-some : goal.expression-join-requires-clause-some
expression-join-requires-clause-some g t c =
    let n : c.len.result ≡ length c.in-Concatenation.list.items = search rules in omega (arith, n, some_part c.in-Concatenation.list.items (concatenation_parts (home (draft c.args.builder.now)) (g.E.Env.names c.args.env.now) c.args.needed c.in-Concatenation.place (view.exprs c.in-Concatenation.list.items) (subst (λ x. IsBuildable (home (draft c.args.builder.now)) (g.E.Env.names c.args.env.now) c.args.needed x) (ap view.expr c.in-Concatenation.is ∙ concatenation_view c.in-Concatenation.place c.in-Concatenation.list) c.requires)).shaped)

pub expression-returns-in_ok-parts-in-Concatenation : goal.expression-returns-in_ok-parts-in-Concatenation
expression-returns-in_ok-parts-in-Concatenation g t c =
    subst (λ x. OnOk c.join.result (AddsExpression (draft c.args.builder.now) (draft c.join.new.self) (begins_at c.args.at (typed x (g.E.Env.names c.args.env.now) c.args.needed).expression) (1 + expr_depth x))) (sym (ap view.expr c.in-Concatenation.is ∙ concatenation_view c.in-Concatenation.place c.in-Concatenation.list))
    (join_arm c.join.result (draft c.args.builder.now) (draft c.parts.new.builder) (draft c.join.new.self) (g.E.Env.names c.args.env.now) c.args.needed c.args.at 1 c.len.result c.in-Concatenation.list.items c.deref-in-Concatenation.result.now c.deref-in-Concatenation.ensures.value (omega (arith, some_part c.in-Concatenation.list.items (concatenation_parts (home (draft c.args.builder.now)) (g.E.Env.names c.args.env.now) c.args.needed c.in-Concatenation.place (view.exprs c.in-Concatenation.list.items) (subst (λ x. IsBuildable (home (draft c.args.builder.now)) (g.E.Env.names c.args.env.now) c.args.needed x) (ap view.expr c.in-Concatenation.is ∙ concatenation_view c.in-Concatenation.place c.in-Concatenation.list) c.requires)).shaped)) (let n : c.len.result ≡ length c.in-Concatenation.list.items = search rules in n) c.in_ok-parts-in-Concatenation.ensures c.join.ensures)

pub expression-number_within-requires : goal.expression-number_within-requires
expression-number_within-requires g t c =
    subst (λ x. IsWithin 1 64 (steady (g.E.Env.names c.args.env.now)) (view.expr x)) (sym c.deref-in-Replication.ensures) (replication_is (home (draft c.args.builder.now)) (g.E.Env.names c.args.env.now) c.args.needed c.in-Replication.place (view.expr c.in-Replication.count.value) (view.exprs c.in-Replication.list.items) (subst (λ x. IsBuildable (home (draft c.args.builder.now)) (g.E.Env.names c.args.env.now) c.args.needed x) (ap view.expr c.in-Replication.is ∙ replication_view c.in-Replication.place c.in-Replication.count c.in-Replication.list) c.requires)).count_is

pub expression-parts-requires-in-Replication : goal.expression-parts-requires-in-Replication
expression-parts-requires-in-Replication g t c κs within =
    (search (rules, expr_rows, the_lemmas), (within, (subst (λ xs. AreBuildable (home (draft c.args.builder.now)) (g.E.Env.names c.args.env.now) c.args.needed (view.exprs xs)) (sym c.deref-in-Replication-2.ensures.value) (replication_is (home (draft c.args.builder.now)) (g.E.Env.names c.args.env.now) c.args.needed c.in-Replication.place (view.expr c.in-Replication.count.value) (view.exprs c.in-Replication.list.items) (subst (λ x. IsBuildable (home (draft c.args.builder.now)) (g.E.Env.names c.args.env.now) c.args.needed x) (ap view.expr c.in-Replication.is ∙ replication_view c.in-Replication.place c.in-Replication.count c.in-Replication.list) c.requires)).parts_are)))

pub expression-join-requires-in-Replication-clause-parts : goal.expression-join-requires-in-Replication-clause-parts
expression-join-requires-in-Replication-clause-parts g t c =
    ends_parts (draft c.args.builder.now) (draft c.parts-in-Replication.new.builder) (part_expressions (g.E.Env.names c.args.env.now) c.args.needed c.deref-in-Replication-2.result.now) (1 + exprs_depth (view.exprs c.deref-in-Replication-2.result.now)) c.len-in-Replication.result c.in_ok-parts-in-Replication.ensures (omega (arith, (subst (λ xs. AreBuildable (home (draft c.args.builder.now)) (g.E.Env.names c.args.env.now) c.args.needed (view.exprs xs)) (sym c.deref-in-Replication-2.ensures.value) (replication_is (home (draft c.args.builder.now)) (g.E.Env.names c.args.env.now) c.args.needed c.in-Replication.place (view.expr c.in-Replication.count.value) (view.exprs c.in-Replication.list.items) (subst (λ x. IsBuildable (home (draft c.args.builder.now)) (g.E.Env.names c.args.env.now) c.args.needed x) (ap view.expr c.in-Replication.is ∙ replication_view c.in-Replication.place c.in-Replication.count c.in-Replication.list) c.requires)).parts_are).shallow)) ((let n : c.len-in-Replication.result ≡ length c.in-Replication.list.items = search rules in n) ∙ ap length (sym c.deref-in-Replication-2.ensures.value) ∙ sym (part_count (g.E.Env.names c.args.env.now) c.args.needed c.deref-in-Replication-2.result.now))

pub expression-join-requires-in-Replication-clause-some : goal.expression-join-requires-in-Replication-clause-some
expression-join-requires-in-Replication-clause-some g t c =
    let n : c.len-in-Replication.result ≡ length c.in-Replication.list.items = search rules in omega (arith, n, some_part c.in-Replication.list.items (replication_is (home (draft c.args.builder.now)) (g.E.Env.names c.args.env.now) c.args.needed c.in-Replication.place (view.expr c.in-Replication.count.value) (view.exprs c.in-Replication.list.items) (subst (λ x. IsBuildable (home (draft c.args.builder.now)) (g.E.Env.names c.args.env.now) c.args.needed x) (ap view.expr c.in-Replication.is ∙ replication_view c.in-Replication.place c.in-Replication.count c.in-Replication.list) c.requires)).parts_are.shaped)

pub expression-returns-in_ok-parts-in-Replication : goal.expression-returns-in_ok-parts-in-Replication
expression-returns-in_ok-parts-in-Replication g t c =
    subst (λ x. OnOk c.join-in-Replication.result (AddsExpression (draft c.args.builder.now) (draft c.join-in-Replication.new.self) (begins_at c.args.at (typed x (g.E.Env.names c.args.env.now) c.args.needed).expression) (1 + expr_depth x))) (sym (ap view.expr c.in-Replication.is ∙ replication_view c.in-Replication.place c.in-Replication.count c.in-Replication.list))
    (subst (λ e. OnOk c.join-in-Replication.result (AddsExpression (draft c.args.builder.now) (draft c.join-in-Replication.new.self) e (1 + expr_depth (tree.Replication c.in-Replication.place (view.expr c.in-Replication.count.value) (view.exprs c.in-Replication.list.items))))) (replication_expression (g.E.Env.names c.args.env.now) c.args.needed c.args.at c.in-Replication.place c.in_ok-copies-in-Replication.copies (view.expr c.in-Replication.count.value) (view.exprs c.in-Replication.list.items) (subst (λ x. (natural 1 64 (expr_place (view.expr x)) (constant (view.expr x) (steady (g.E.Env.names c.args.env.now)))).number ≡ Some c.in_ok-copies-in-Replication.copies) c.deref-in-Replication.ensures c.in_ok-copies-in-Replication.ensures))
    (ok_up_to c.join-in-Replication.result (draft c.args.builder.now) (draft c.join-in-Replication.new.self) _ (1 + (1 + exprs_depth (view.exprs c.in-Replication.list.items))) (1 + expr_depth (tree.Replication c.in-Replication.place (view.expr c.in-Replication.count.value) (view.exprs c.in-Replication.list.items)))
    (join_arm c.join-in-Replication.result (draft c.args.builder.now) (draft c.parts-in-Replication.new.builder) (draft c.join-in-Replication.new.self) (g.E.Env.names c.args.env.now) c.args.needed c.args.at c.in_ok-copies-in-Replication.copies c.len-in-Replication.result c.in-Replication.list.items c.deref-in-Replication-2.result.now c.deref-in-Replication-2.ensures.value (omega (arith, some_part c.in-Replication.list.items (replication_is (home (draft c.args.builder.now)) (g.E.Env.names c.args.env.now) c.args.needed c.in-Replication.place (view.expr c.in-Replication.count.value) (view.exprs c.in-Replication.list.items) (subst (λ x. IsBuildable (home (draft c.args.builder.now)) (g.E.Env.names c.args.env.now) c.args.needed x) (ap view.expr c.in-Replication.is ∙ replication_view c.in-Replication.place c.in-Replication.count c.in-Replication.list) c.requires)).parts_are.shaped)) (let n : c.len-in-Replication.result ≡ length c.in-Replication.list.items = search rules in n) c.in_ok-parts-in-Replication.ensures c.join-in-Replication.ensures)
    (deeper_up_to (expr_depth (view.expr c.in-Replication.count.value)) (exprs_depth (view.exprs c.in-Replication.list.items)))))

pub parts-operand-requires : goal.parts-operand-requires
parts-operand-requires g t c κs within =
    (part_falls c.args.list.now c.loop-part.part-index c.part-item.result t (omega arith) c.part-item.is c.decreases, (within, part_after (draft c.args.builder.now) (draft c.loop-part.builder) _ _ (g.E.Env.names c.args.env.now) c.args.needed (view.expr c.part-item.result) c.loop-part.invariant (each_part (home (draft c.args.builder.now)) (g.E.Env.names c.args.env.now) c.args.needed c.args.list.now c.loop-part.part-index c.part-item.result c.requires (omega arith) c.part-item.is)))

pub parts-loop-part-init : goal.parts-loop-part-init
parts-loop-part-init g t c =
    parts_none (draft c.args.builder.now) (1 + exprs_depth (view.exprs c.args.list.now))

pub parts-loop-part-preserved : goal.parts-loop-part-preserved
parts-loop-part-preserved g t c =
    parts_are (draft c.args.builder.now) (draft c.operand.new.builder) _ _ (1 + exprs_depth (view.exprs c.args.list.now)) (sym (taken_more (g.E.Env.names c.args.env.now) c.args.needed c.args.list.now c.loop-part.part-index c.part-item.result (omega arith) c.part-item.is))
    (parts_more (draft c.args.builder.now) (draft c.loop-part.builder) (draft c.operand.new.builder) (part_expressions (g.E.Env.names c.args.env.now) c.args.needed (take c.loop-part.part-index c.args.list.now)) (typed (view.expr c.part-item.result) (g.E.Env.names c.args.env.now) c.args.needed).expression (1 + exprs_depth (view.exprs c.args.list.now)) (1 + expr_depth (view.expr c.part-item.result)) c.loop-part.invariant c.in_ok-operand.ensures
    (omega (arith, part_levels c.args.list.now c.loop-part.part-index c.part-item.result (omega arith) c.part-item.is)))

pub parts-returns : goal.parts-returns
parts-returns g t c =
    parts_are (draft c.args.builder.now) (draft c.loop-part.builder) _ _ (1 + exprs_depth (view.exprs c.args.list.now)) (taken_all (g.E.Env.names c.args.env.now) c.args.needed c.args.list.now c.loop-part.part-index (omega arith)) c.loop-part.invariant

pub expression-unary-requires-in-AsSigned : goal.expression-unary-requires-in-AsSigned
expression-unary-requires-in-AsSigned g t c =
    child_ends (home (draft c.args.builder.now)) (g.E.Env.names c.args.env.now) c.args.needed (view.expr c.deref-in-AsSigned.result.now) (draft c.args.builder.now) (draft c.operand-in-AsSigned.new.builder) (child (home (draft c.args.builder.now)) (g.E.Env.names c.args.env.now) c.args.needed c.deref-in-AsSigned.result.now c.in-Call.a.value c.deref-in-AsSigned.ensures (signed_operand (home (draft c.args.builder.now)) (g.E.Env.names c.args.env.now) c.args.needed c.in-Call.place (view.expr c.in-Call.a.value) (subst (λ f. IsBuildable (home (draft c.args.builder.now)) (g.E.Env.names c.args.env.now) c.args.needed (tree.Call c.in-Call.place (view.system_function f) (view.expr c.in-Call.a.value))) c.in-AsSigned.is (subst (λ x. IsBuildable (home (draft c.args.builder.now)) (g.E.Env.names c.args.env.now) c.args.needed (view.expr x)) c.in-Call.is c.requires)))) c.in_ok-operand-in-AsSigned.ensures

pub expression-returns-in_ok-operand-in-AsSigned : goal.expression-returns-in_ok-operand-in-AsSigned
expression-returns-in_ok-operand-in-AsSigned g t c =
    subst (λ x. OnOk c.unary-in-AsSigned.result (AddsExpression (draft c.args.builder.now) (draft c.unary-in-AsSigned.new.self) (begins_at c.args.at (typed (view.expr x) (g.E.Env.names c.args.env.now) c.args.needed).expression) (1 + expr_depth (view.expr x)))) (sym c.in-Call.is)
    (subst (λ f. OnOk c.unary-in-AsSigned.result (AddsExpression (draft c.args.builder.now) (draft c.unary-in-AsSigned.new.self) (begins_at c.args.at (typed (tree.Call c.in-Call.place (view.system_function f) (view.expr c.in-Call.a.value)) (g.E.Env.names c.args.env.now) c.args.needed).expression) (1 + (1 + expr_depth (view.expr c.in-Call.a.value))))) (sym c.in-AsSigned.is)
    (unary_arm c.unary-in-AsSigned.result (draft c.args.builder.now) (draft c.operand-in-AsSigned.new.builder) (draft c.unary-in-AsSigned.new.self) (g.E.Env.names c.args.env.now) c.args.needed c.args.at E.Signed c.in-Call.a.value c.deref-in-AsSigned.result.now c.deref-in-AsSigned.ensures c.in_ok-operand-in-AsSigned.ensures c.unary-in-AsSigned.ensures))

pub expression-unary-requires-in-AsUnsigned : goal.expression-unary-requires-in-AsUnsigned
expression-unary-requires-in-AsUnsigned g t c =
    child_ends (home (draft c.args.builder.now)) (g.E.Env.names c.args.env.now) c.args.needed (view.expr c.deref-in-AsUnsigned.result.now) (draft c.args.builder.now) (draft c.operand-in-AsUnsigned.new.builder) (child (home (draft c.args.builder.now)) (g.E.Env.names c.args.env.now) c.args.needed c.deref-in-AsUnsigned.result.now c.in-Call.a.value c.deref-in-AsUnsigned.ensures (unsigned_operand (home (draft c.args.builder.now)) (g.E.Env.names c.args.env.now) c.args.needed c.in-Call.place (view.expr c.in-Call.a.value) (subst (λ f. IsBuildable (home (draft c.args.builder.now)) (g.E.Env.names c.args.env.now) c.args.needed (tree.Call c.in-Call.place (view.system_function f) (view.expr c.in-Call.a.value))) c.in-AsUnsigned.is (subst (λ x. IsBuildable (home (draft c.args.builder.now)) (g.E.Env.names c.args.env.now) c.args.needed (view.expr x)) c.in-Call.is c.requires)))) c.in_ok-operand-in-AsUnsigned.ensures

pub expression-returns-in_ok-operand-in-AsUnsigned : goal.expression-returns-in_ok-operand-in-AsUnsigned
expression-returns-in_ok-operand-in-AsUnsigned g t c =
    subst (λ x. OnOk c.unary-in-AsUnsigned.result (AddsExpression (draft c.args.builder.now) (draft c.unary-in-AsUnsigned.new.self) (begins_at c.args.at (typed (view.expr x) (g.E.Env.names c.args.env.now) c.args.needed).expression) (1 + expr_depth (view.expr x)))) (sym c.in-Call.is)
    (subst (λ f. OnOk c.unary-in-AsUnsigned.result (AddsExpression (draft c.args.builder.now) (draft c.unary-in-AsUnsigned.new.self) (begins_at c.args.at (typed (tree.Call c.in-Call.place (view.system_function f) (view.expr c.in-Call.a.value)) (g.E.Env.names c.args.env.now) c.args.needed).expression) (1 + (1 + expr_depth (view.expr c.in-Call.a.value))))) (sym c.in-AsUnsigned.is)
    (unary_arm c.unary-in-AsUnsigned.result (draft c.args.builder.now) (draft c.operand-in-AsUnsigned.new.builder) (draft c.unary-in-AsUnsigned.new.self) (g.E.Env.names c.args.env.now) c.args.needed c.args.at E.Unsigned c.in-Call.a.value c.deref-in-AsUnsigned.result.now c.deref-in-AsUnsigned.ensures c.in_ok-operand-in-AsUnsigned.ensures c.unary-in-AsUnsigned.ensures))

pub expression-constant_bits-requires : goal.expression-constant_bits-requires
expression-constant_bits-requires g t c =
    subst (λ x. IsConstant (g.E.Env.names c.args.env.now) (view.expr x)) (sym c.in-Call.is)
    (subst (λ f. IsConstant (g.E.Env.names c.args.env.now) (tree.Call c.in-Call.place (view.system_function f) (view.expr c.in-Call.a.value))) (sym c.in-Clog2.is) (clog2_constant (home (draft c.args.builder.now)) (g.E.Env.names c.args.env.now) c.args.needed c.in-Call.place (view.expr c.in-Call.a.value) (subst (λ f. IsBuildable (home (draft c.args.builder.now)) (g.E.Env.names c.args.env.now) c.args.needed (tree.Call c.in-Call.place (view.system_function f) (view.expr c.in-Call.a.value))) c.in-Clog2.is (subst (λ x. IsBuildable (home (draft c.args.builder.now)) (g.E.Env.names c.args.env.now) c.args.needed (view.expr x)) c.in-Call.is c.requires))))

pub expression-returns-in_ok-bits-in-Clog2 : goal.expression-returns-in_ok-bits-in-Clog2
expression-returns-in_ok-bits-in-Clog2 g t c =
    let bits =
    subst (λ f. c.in_ok-bits-in-Clog2.bits ≡ constant_value (constant (tree.Call c.in-Call.place (view.system_function f) (view.expr c.in-Call.a.value)) (g.E.Env.names c.args.env.now)).expression) c.in-Clog2.is
    (subst (λ x. c.in_ok-bits-in-Clog2.bits ≡ constant_value (constant (view.expr x) (g.E.Env.names c.args.env.now)).expression) c.in-Call.is c.in_ok-bits-in-Clog2.ensures)
    in
    subst (λ x. OnOk c.literal-in-Clog2.result (AddsExpression (draft c.args.builder.now) (draft c.literal-in-Clog2.new.self) (begins_at c.args.at (typed (view.expr x) (g.E.Env.names c.args.env.now) c.args.needed).expression) (1 + expr_depth (view.expr x)))) (sym c.in-Call.is)
    (subst (λ f. OnOk c.literal-in-Clog2.result (AddsExpression (draft c.args.builder.now) (draft c.literal-in-Clog2.new.self) (begins_at c.args.at (typed (tree.Call c.in-Call.place (view.system_function f) (view.expr c.in-Call.a.value)) (g.E.Env.names c.args.env.now) c.args.needed).expression) (1 + (1 + expr_depth (view.expr c.in-Call.a.value))))) (sym c.in-Clog2.is)
    (clog2_arm c.literal-in-Clog2.result (draft c.args.builder.now) (draft c.literal-in-Clog2.new.self) (home (draft c.args.builder.now)) (g.E.Env.names c.args.env.now) c.args.needed c.args.at c.in-Call.place (view.expr c.in-Call.a.value) c.in_ok-bits-in-Clog2.bits
    (subst (λ f. IsBuildable (home (draft c.args.builder.now)) (g.E.Env.names c.args.env.now) c.args.needed (tree.Call c.in-Call.place (view.system_function f) (view.expr c.in-Call.a.value))) c.in-Clog2.is (subst (λ x. IsBuildable (home (draft c.args.builder.now)) (g.E.Env.names c.args.env.now) c.args.needed (view.expr x)) c.in-Call.is c.requires)) bits c.literal-in-Clog2.ensures))

pub selected-operand-requires : goal.selected-operand-requires
selected-operand-requires g t c κs within =
    let find = g.E.Env.names c.args.env.now in
    let d = home (draft c.args.builder.now) in
    let name = view.name c.args.name.now in
    let index = view.expr c.in-Bit.index.value in
    let n = is_array (find name.bytes) || c.args.needed in
    let s = subst (λ x. IsSelectable d find c.args.fixed c.args.needed name (view.select x)) c.in-Bit.is c.requires in
    let b = bit_index d find c.args.fixed c.args.needed name c.in-Bit.bracket index s in
    (search (rules, the_lemmas), (within, subst (λ k. IsBuildable d find k (view.expr c.deref.result.now)) (sym c.index_needed.ensures) (child d find n c.deref.result.now c.in-Bit.index.value c.deref.ensures b)))

pub selected-memory-requires : goal.selected-memory-requires
selected-memory-requires g t c =
    let find = g.E.Env.names c.args.env.now in
    let d = home (draft c.args.builder.now) in
    let name = view.name c.args.name.now in
    let index = view.expr c.in-Bit.index.value in
    let s = subst (λ x. IsSelectable d find c.args.fixed c.args.needed name (view.select x)) c.in-Bit.is c.requires in
    subst (λ x. IsWordAddressable (find name.bytes) find (view.expr x)) (sym c.deref-in-Bit.ensures) (bit_address d find c.args.fixed c.args.needed name c.in-Bit.bracket index s)

pub selected-word-requires-clause-there : goal.selected-word-requires-clause-there
selected-word-requires-clause-there g k c =
    let find = g.E.Env.names c.args.env.now in
    let d = home (draft c.args.builder.now) in
    let name = view.name c.args.name.now in
    let index = view.expr c.in-Bit.index.value in
    let n = is_array (find name.bytes) || c.args.needed in
    let s = subst (λ x. IsSelectable d find c.args.fixed c.args.needed name (view.select x)) c.in-Bit.is c.requires in
    let found : memory_of (find name.bytes) (expr_place index) (constant index find) ≡ Some c.in-Some.signal =
    ap (λ x. memory_of (find name.bytes) (expr_place (view.expr x)) (constant (view.expr x) find)) (sym c.deref-in-Bit.ensures) ∙ sym c.in_ok-there-in-Bit.ensures ∙ c.in-Some.is
    in
    let a : AddsExpression (draft c.args.builder.now) (draft c.operand.new.builder) (typed index find n).expression (1 + expr_depth index) =
    subst (λ x. AddsExpression (draft c.args.builder.now) (draft c.operand.new.builder) (typed (view.expr x) find n).expression (1 + expr_depth (view.expr x))) c.deref.ensures
    (subst (λ k. AddsExpression (draft c.args.builder.now) (draft c.operand.new.builder) (typed (view.expr c.deref.result.now) find k).expression (1 + expr_depth (view.expr c.deref.result.now))) c.index_needed.ensures c.in_ok-operand-in-Bit.ensures)
    in
    let t = selected_by (tree.BitAt c.in-Bit.bracket index) name find c.args.fixed c.args.needed in
    let w = bit_word d find c.args.fixed c.args.needed name c.in-Bit.bracket index c.in-Some.signal found s in
    (word_ends (draft c.args.builder.now) (draft c.operand.new.builder) t (typed index find n) c.in-Some.signal (1 + expr_depth index) w a (omega (arith, (bit_index d find c.args.fixed c.args.needed name c.in-Bit.bracket index s).shallow))).there

pub selected-word-requires-clause-memory : goal.selected-word-requires-clause-memory
selected-word-requires-clause-memory g k c =
    let find = g.E.Env.names c.args.env.now in
    let d = home (draft c.args.builder.now) in
    let name = view.name c.args.name.now in
    let index = view.expr c.in-Bit.index.value in
    let n = is_array (find name.bytes) || c.args.needed in
    let s = subst (λ x. IsSelectable d find c.args.fixed c.args.needed name (view.select x)) c.in-Bit.is c.requires in
    let found : memory_of (find name.bytes) (expr_place index) (constant index find) ≡ Some c.in-Some.signal =
    ap (λ x. memory_of (find name.bytes) (expr_place (view.expr x)) (constant (view.expr x) find)) (sym c.deref-in-Bit.ensures) ∙ sym c.in_ok-there-in-Bit.ensures ∙ c.in-Some.is
    in
    let a : AddsExpression (draft c.args.builder.now) (draft c.operand.new.builder) (typed index find n).expression (1 + expr_depth index) =
    subst (λ x. AddsExpression (draft c.args.builder.now) (draft c.operand.new.builder) (typed (view.expr x) find n).expression (1 + expr_depth (view.expr x))) c.deref.ensures
    (subst (λ k. AddsExpression (draft c.args.builder.now) (draft c.operand.new.builder) (typed (view.expr c.deref.result.now) find k).expression (1 + expr_depth (view.expr c.deref.result.now))) c.index_needed.ensures c.in_ok-operand-in-Bit.ensures)
    in
    let t = selected_by (tree.BitAt c.in-Bit.bracket index) name find c.args.fixed c.args.needed in
    let w = bit_word d find c.args.fixed c.args.needed name c.in-Bit.bracket index c.in-Some.signal found s in
    (word_ends (draft c.args.builder.now) (draft c.operand.new.builder) t (typed index find n) c.in-Some.signal (1 + expr_depth index) w a (omega (arith, (bit_index d find c.args.fixed c.args.needed name c.in-Bit.bracket index s).shallow))).memory

pub selected-word-requires-clause-ends : goal.selected-word-requires-clause-ends
selected-word-requires-clause-ends g k c =
    let find = g.E.Env.names c.args.env.now in
    let d = home (draft c.args.builder.now) in
    let name = view.name c.args.name.now in
    let index = view.expr c.in-Bit.index.value in
    let n = is_array (find name.bytes) || c.args.needed in
    let s = subst (λ x. IsSelectable d find c.args.fixed c.args.needed name (view.select x)) c.in-Bit.is c.requires in
    let found : memory_of (find name.bytes) (expr_place index) (constant index find) ≡ Some c.in-Some.signal =
    ap (λ x. memory_of (find name.bytes) (expr_place (view.expr x)) (constant (view.expr x) find)) (sym c.deref-in-Bit.ensures) ∙ sym c.in_ok-there-in-Bit.ensures ∙ c.in-Some.is
    in
    let a : AddsExpression (draft c.args.builder.now) (draft c.operand.new.builder) (typed index find n).expression (1 + expr_depth index) =
    subst (λ x. AddsExpression (draft c.args.builder.now) (draft c.operand.new.builder) (typed (view.expr x) find n).expression (1 + expr_depth (view.expr x))) c.deref.ensures
    (subst (λ k. AddsExpression (draft c.args.builder.now) (draft c.operand.new.builder) (typed (view.expr c.deref.result.now) find k).expression (1 + expr_depth (view.expr c.deref.result.now))) c.index_needed.ensures c.in_ok-operand-in-Bit.ensures)
    in
    let t = selected_by (tree.BitAt c.in-Bit.bracket index) name find c.args.fixed c.args.needed in
    let w = bit_word d find c.args.fixed c.args.needed name c.in-Bit.bracket index c.in-Some.signal found s in
    (word_ends (draft c.args.builder.now) (draft c.operand.new.builder) t (typed index find n) c.in-Some.signal (1 + expr_depth index) w a (omega (arith, (bit_index d find c.args.fixed c.args.needed name c.in-Bit.bracket index s).shallow))).ends

pub selected-returns-in-Some : goal.selected-returns-in-Some
selected-returns-in-Some g k c =
    let find = g.E.Env.names c.args.env.now in
    let d = home (draft c.args.builder.now) in
    let name = view.name c.args.name.now in
    let index = view.expr c.in-Bit.index.value in
    let n = is_array (find name.bytes) || c.args.needed in
    let s = subst (λ x. IsSelectable d find c.args.fixed c.args.needed name (view.select x)) c.in-Bit.is c.requires in
    let found : memory_of (find name.bytes) (expr_place index) (constant index find) ≡ Some c.in-Some.signal =
    ap (λ x. memory_of (find name.bytes) (expr_place (view.expr x)) (constant (view.expr x) find)) (sym c.deref-in-Bit.ensures) ∙ sym c.in_ok-there-in-Bit.ensures ∙ c.in-Some.is
    in
    let a : AddsExpression (draft c.args.builder.now) (draft c.operand.new.builder) (typed index find n).expression (1 + expr_depth index) =
    subst (λ x. AddsExpression (draft c.args.builder.now) (draft c.operand.new.builder) (typed (view.expr x) find n).expression (1 + expr_depth (view.expr x))) c.deref.ensures
    (subst (λ k. AddsExpression (draft c.args.builder.now) (draft c.operand.new.builder) (typed (view.expr c.deref.result.now) find k).expression (1 + expr_depth (view.expr c.deref.result.now))) c.index_needed.ensures c.in_ok-operand-in-Bit.ensures)
    in
    let t = selected_by (tree.BitAt c.in-Bit.bracket index) name find c.args.fixed c.args.needed in
    let w = bit_word d find c.args.fixed c.args.needed name c.in-Bit.bracket index c.in-Some.signal found s in
    subst (λ x. OnOk c.word.result (AddsExpression (draft c.args.builder.now) (draft c.word.new.self) (begins_at c.args.at (selected_by (view.select x) name find c.args.fixed c.args.needed).expression) (1 + select_depth (view.select x)))) (sym c.in-Bit.is)
    (word_arm c.word.result (draft c.args.builder.now) (draft c.operand.new.builder) (draft c.word.new.self) t (typed index find n) c.in-Some.signal (1 + expr_depth index) c.args.at (1 + (1 + expr_depth index)) w a c.word.ensures (omega arith))

pub selected-source-requires : goal.selected-source-requires
selected-source-requires g k c =
    let find = g.E.Env.names c.args.env.now in
    let d = home (draft c.args.builder.now) in
    let name = view.name c.args.name.now in
    let index = view.expr c.in-Bit.index.value in
    let n = is_array (find name.bytes) || c.args.needed in
    let s = subst (λ x. IsSelectable d find c.args.fixed c.args.needed name (view.select x)) c.in-Bit.is c.requires in
    let found : memory_of (find name.bytes) (expr_place index) (constant index find) ≡ None =
    ap (λ x. memory_of (find name.bytes) (expr_place (view.expr x)) (constant (view.expr x) find)) (sym c.deref-in-Bit.ensures) ∙ sym c.in_ok-there-in-Bit.ensures ∙ c.in-None.is
    in
    let a : AddsExpression (draft c.args.builder.now) (draft c.operand.new.builder) (typed index find n).expression (1 + expr_depth index) =
    subst (λ x. AddsExpression (draft c.args.builder.now) (draft c.operand.new.builder) (typed (view.expr x) find n).expression (1 + expr_depth (view.expr x))) c.deref.ensures
    (subst (λ k. AddsExpression (draft c.args.builder.now) (draft c.operand.new.builder) (typed (view.expr c.deref.result.now) find k).expression (1 + expr_depth (view.expr c.deref.result.now))) c.index_needed.ensures c.in_ok-operand-in-Bit.ensures)
    in
    subst (λ h. HasBits h c.args.fixed c.args.name.now.place (find name.bytes)) (same_home (draft c.args.builder.now) (draft c.operand.new.builder) (typed index find n).expression (1 + expr_depth index) a)
    (bit_taken d find c.args.fixed c.args.needed name c.in-Bit.bracket index found s).bits

pub selected-bit-requires : goal.selected-bit-requires
selected-bit-requires g k c =
    let find = g.E.Env.names c.args.env.now in
    let d = home (draft c.args.builder.now) in
    let name = view.name c.args.name.now in
    let index = view.expr c.in-Bit.index.value in
    let n = is_array (find name.bytes) || c.args.needed in
    let s = subst (λ x. IsSelectable d find c.args.fixed c.args.needed name (view.select x)) c.in-Bit.is c.requires in
    let found : memory_of (find name.bytes) (expr_place index) (constant index find) ≡ None =
    ap (λ x. memory_of (find name.bytes) (expr_place (view.expr x)) (constant (view.expr x) find)) (sym c.deref-in-Bit.ensures) ∙ sym c.in_ok-there-in-Bit.ensures ∙ c.in-None.is
    in
    let a : AddsExpression (draft c.args.builder.now) (draft c.operand.new.builder) (typed index find n).expression (1 + expr_depth index) =
    subst (λ x. AddsExpression (draft c.args.builder.now) (draft c.operand.new.builder) (typed (view.expr x) find n).expression (1 + expr_depth (view.expr x))) c.deref.ensures
    (subst (λ k. AddsExpression (draft c.args.builder.now) (draft c.operand.new.builder) (typed (view.expr c.deref.result.now) find k).expression (1 + expr_depth (view.expr c.deref.result.now))) c.index_needed.ensures c.in_ok-operand-in-Bit.ensures)
    in
    let b = bit_taken d find c.args.fixed c.args.needed name c.in-Bit.bracket index found s in
    select_ends d find c.args.fixed c.args.needed name (tree.BitAt c.in-Bit.bracket index) true 1 (typed index find n).expression (draft c.args.builder.now) (draft c.operand.new.builder) (draft c.source.new.builder) (1 + expr_depth index) c.in_ok-range-in-None.range
    b refl a (omega (arith, (bit_index d find c.args.fixed c.args.needed name c.in-Bit.bracket index s).shallow)) c.in_ok-range-in-None.ensures

pub selected-returns-in_ok-range-in-None : goal.selected-returns-in_ok-range-in-None
selected-returns-in_ok-range-in-None g k c =
    let find = g.E.Env.names c.args.env.now in
    let d = home (draft c.args.builder.now) in
    let name = view.name c.args.name.now in
    let index = view.expr c.in-Bit.index.value in
    let n = is_array (find name.bytes) || c.args.needed in
    let s = subst (λ x. IsSelectable d find c.args.fixed c.args.needed name (view.select x)) c.in-Bit.is c.requires in
    let found : memory_of (find name.bytes) (expr_place index) (constant index find) ≡ None =
    ap (λ x. memory_of (find name.bytes) (expr_place (view.expr x)) (constant (view.expr x) find)) (sym c.deref-in-Bit.ensures) ∙ sym c.in_ok-there-in-Bit.ensures ∙ c.in-None.is
    in
    let a : AddsExpression (draft c.args.builder.now) (draft c.operand.new.builder) (typed index find n).expression (1 + expr_depth index) =
    subst (λ x. AddsExpression (draft c.args.builder.now) (draft c.operand.new.builder) (typed (view.expr x) find n).expression (1 + expr_depth (view.expr x))) c.deref.ensures
    (subst (λ k. AddsExpression (draft c.args.builder.now) (draft c.operand.new.builder) (typed (view.expr c.deref.result.now) find k).expression (1 + expr_depth (view.expr c.deref.result.now))) c.index_needed.ensures c.in_ok-operand-in-Bit.ensures)
    in
    let b = bit_taken d find c.args.fixed c.args.needed name c.in-Bit.bracket index found s in
    subst (λ x. OnOk c.bit.result (AddsExpression (draft c.args.builder.now) (draft c.bit.new.self) (begins_at c.args.at (selected_by (view.select x) name find c.args.fixed c.args.needed).expression) (1 + select_depth (view.select x)))) (sym c.in-Bit.is)
    (select_arm c.bit.result d find c.args.fixed c.args.needed name (tree.BitAt c.in-Bit.bracket index) true 1 (typed index find n).expression (draft c.args.builder.now) (draft c.operand.new.builder) (draft c.source.new.builder) (draft c.bit.new.self) (1 + expr_depth index) c.args.at
    (1 + (1 + expr_depth index)) c.in_ok-range-in-None.range b a c.in_ok-range-in-None.ensures c.bit.ensures (omega arith))

pub selected-number_within-requires : goal.selected-number_within-requires
selected-number_within-requires g t c =
    subst (λ x. IsWithin 1 64 (steady (g.E.Env.names c.args.env.now)) (view.expr x)) (sym c.deref-in-Upward.ensures) (moving_is (home (draft c.args.builder.now)) (g.E.Env.names c.args.env.now) c.args.fixed c.args.needed true (view.name c.args.name.now) c.in-Slice.bracket tree.Upward (view.expr c.in-Slice.left.value) (view.expr c.in-Slice.right.value) (λ declared. refl) (subst (λ k. IsSelectable (home (draft c.args.builder.now)) (g.E.Env.names c.args.env.now) c.args.fixed c.args.needed (view.name c.args.name.now) (tree.Slice c.in-Slice.bracket (view.slice_kind k) (view.expr c.in-Slice.left.value) (view.expr c.in-Slice.right.value))) c.in-Upward.is (subst (λ x. IsSelectable (home (draft c.args.builder.now)) (g.E.Env.names c.args.env.now) c.args.fixed c.args.needed (view.name c.args.name.now) (view.select x)) c.in-Slice.is c.requires))).width

pub selected-operand-requires-in-Upward : goal.selected-operand-requires-in-Upward
selected-operand-requires-in-Upward g t c κs within =
    (search (rules, the_lemmas), (within, child (home (draft c.args.builder.now)) (g.E.Env.names c.args.env.now) c.args.needed c.deref-in-Upward-2.result.now c.in-Slice.left.value c.deref-in-Upward-2.ensures (moving_is (home (draft c.args.builder.now)) (g.E.Env.names c.args.env.now) c.args.fixed c.args.needed true (view.name c.args.name.now) c.in-Slice.bracket tree.Upward (view.expr c.in-Slice.left.value) (view.expr c.in-Slice.right.value) (λ declared. refl) (subst (λ k. IsSelectable (home (draft c.args.builder.now)) (g.E.Env.names c.args.env.now) c.args.fixed c.args.needed (view.name c.args.name.now) (tree.Slice c.in-Slice.bracket (view.slice_kind k) (view.expr c.in-Slice.left.value) (view.expr c.in-Slice.right.value))) c.in-Upward.is (subst (λ x. IsSelectable (home (draft c.args.builder.now)) (g.E.Env.names c.args.env.now) c.args.fixed c.args.needed (view.name c.args.name.now) (view.select x)) c.in-Slice.is c.requires))).index))

pub selected-source-requires-in-Upward : goal.selected-source-requires-in-Upward
selected-source-requires-in-Upward g t c =
    subst (λ d. HasBits d c.args.fixed c.args.name.now.place ((g.E.Env.names c.args.env.now) c.args.name.now.text)) (same_home (draft c.args.builder.now) (draft c.operand-in-Upward.new.builder) (typed (view.expr c.in-Slice.left.value) (g.E.Env.names c.args.env.now) c.args.needed).expression (1 + expr_depth (view.expr c.in-Slice.left.value)) (subst (λ x. AddsExpression (draft c.args.builder.now) (draft c.operand-in-Upward.new.builder) (typed (view.expr x) (g.E.Env.names c.args.env.now) c.args.needed).expression (1 + expr_depth (view.expr x))) c.deref-in-Upward-2.ensures c.in_ok-operand-in-Upward.ensures))
    (moving_taken (home (draft c.args.builder.now)) (g.E.Env.names c.args.env.now) c.args.fixed c.args.needed true (view.name c.args.name.now) c.in-Slice.bracket tree.Upward (view.expr c.in-Slice.left.value) (view.expr c.in-Slice.right.value) c.in_ok-width-in-Upward.width (λ declared. refl) (subst (λ k. IsSelectable (home (draft c.args.builder.now)) (g.E.Env.names c.args.env.now) c.args.fixed c.args.needed (view.name c.args.name.now) (tree.Slice c.in-Slice.bracket (view.slice_kind k) (view.expr c.in-Slice.left.value) (view.expr c.in-Slice.right.value))) c.in-Upward.is (subst (λ x. IsSelectable (home (draft c.args.builder.now)) (g.E.Env.names c.args.env.now) c.args.fixed c.args.needed (view.name c.args.name.now) (view.select x)) c.in-Slice.is c.requires)) (subst (λ x. (natural 1 64 (expr_place (view.expr x)) (constant (view.expr x) (steady (g.E.Env.names c.args.env.now)))).number ≡ Some c.in_ok-width-in-Upward.width) c.deref-in-Upward.ensures c.in_ok-width-in-Upward.ensures)).bits

pub selected-part-requires-in-Upward : goal.selected-part-requires-in-Upward
selected-part-requires-in-Upward g t c =
    select_ends (home (draft c.args.builder.now)) (g.E.Env.names c.args.env.now) c.args.fixed c.args.needed (view.name c.args.name.now) (tree.Slice c.in-Slice.bracket tree.Upward (view.expr c.in-Slice.left.value) (view.expr c.in-Slice.right.value)) true c.in_ok-width-in-Upward.width (typed (view.expr c.in-Slice.left.value) (g.E.Env.names c.args.env.now) c.args.needed).expression (draft c.args.builder.now) (draft c.operand-in-Upward.new.builder) (draft c.source-in-Upward.new.builder) (1 + expr_depth (view.expr c.in-Slice.left.value)) c.in_ok-range-in-Upward.range (moving_taken (home (draft c.args.builder.now)) (g.E.Env.names c.args.env.now) c.args.fixed c.args.needed true (view.name c.args.name.now) c.in-Slice.bracket tree.Upward (view.expr c.in-Slice.left.value) (view.expr c.in-Slice.right.value) c.in_ok-width-in-Upward.width (λ declared. refl) (subst (λ k. IsSelectable (home (draft c.args.builder.now)) (g.E.Env.names c.args.env.now) c.args.fixed c.args.needed (view.name c.args.name.now) (tree.Slice c.in-Slice.bracket (view.slice_kind k) (view.expr c.in-Slice.left.value) (view.expr c.in-Slice.right.value))) c.in-Upward.is (subst (λ x. IsSelectable (home (draft c.args.builder.now)) (g.E.Env.names c.args.env.now) c.args.fixed c.args.needed (view.name c.args.name.now) (view.select x)) c.in-Slice.is c.requires)) (subst (λ x. (natural 1 64 (expr_place (view.expr x)) (constant (view.expr x) (steady (g.E.Env.names c.args.env.now)))).number ≡ Some c.in_ok-width-in-Upward.width) c.deref-in-Upward.ensures c.in_ok-width-in-Upward.ensures)) refl (subst (λ x. AddsExpression (draft c.args.builder.now) (draft c.operand-in-Upward.new.builder) (typed (view.expr x) (g.E.Env.names c.args.env.now) c.args.needed).expression (1 + expr_depth (view.expr x))) c.deref-in-Upward-2.ensures c.in_ok-operand-in-Upward.ensures) (omega (arith, (moving_is (home (draft c.args.builder.now)) (g.E.Env.names c.args.env.now) c.args.fixed c.args.needed true (view.name c.args.name.now) c.in-Slice.bracket tree.Upward (view.expr c.in-Slice.left.value) (view.expr c.in-Slice.right.value) (λ declared. refl) (subst (λ k. IsSelectable (home (draft c.args.builder.now)) (g.E.Env.names c.args.env.now) c.args.fixed c.args.needed (view.name c.args.name.now) (tree.Slice c.in-Slice.bracket (view.slice_kind k) (view.expr c.in-Slice.left.value) (view.expr c.in-Slice.right.value))) c.in-Upward.is (subst (λ x. IsSelectable (home (draft c.args.builder.now)) (g.E.Env.names c.args.env.now) c.args.fixed c.args.needed (view.name c.args.name.now) (view.select x)) c.in-Slice.is c.requires))).index.shallow)) c.in_ok-range-in-Upward.ensures

pub selected-returns-in_ok-range-in-Upward : goal.selected-returns-in_ok-range-in-Upward
selected-returns-in_ok-range-in-Upward g t c =
    subst (λ x. OnOk c.part-in-Upward.result (AddsExpression (draft c.args.builder.now) (draft c.part-in-Upward.new.self) (begins_at c.args.at (selected_by (view.select x) (view.name c.args.name.now) (g.E.Env.names c.args.env.now) c.args.fixed c.args.needed).expression) (1 + select_depth (view.select x)))) (sym c.in-Slice.is)
    (subst (λ k. OnOk c.part-in-Upward.result (AddsExpression (draft c.args.builder.now) (draft c.part-in-Upward.new.self) (begins_at c.args.at (selected_by (tree.Slice c.in-Slice.bracket (view.slice_kind k) (view.expr c.in-Slice.left.value) (view.expr c.in-Slice.right.value)) (view.name c.args.name.now) (g.E.Env.names c.args.env.now) c.args.fixed c.args.needed).expression) (1 + (1 + max (expr_depth (view.expr c.in-Slice.left.value)) (expr_depth (view.expr c.in-Slice.right.value)))))) (sym c.in-Upward.is)
    (select_arm c.part-in-Upward.result (home (draft c.args.builder.now)) (g.E.Env.names c.args.env.now) c.args.fixed c.args.needed (view.name c.args.name.now) (tree.Slice c.in-Slice.bracket tree.Upward (view.expr c.in-Slice.left.value) (view.expr c.in-Slice.right.value)) true c.in_ok-width-in-Upward.width (typed (view.expr c.in-Slice.left.value) (g.E.Env.names c.args.env.now) c.args.needed).expression (draft c.args.builder.now) (draft c.operand-in-Upward.new.builder) (draft c.source-in-Upward.new.builder) (draft c.part-in-Upward.new.self) (1 + expr_depth (view.expr c.in-Slice.left.value)) c.args.at (1 + (1 + max (expr_depth (view.expr c.in-Slice.left.value)) (expr_depth (view.expr c.in-Slice.right.value)))) c.in_ok-range-in-Upward.range (moving_taken (home (draft c.args.builder.now)) (g.E.Env.names c.args.env.now) c.args.fixed c.args.needed true (view.name c.args.name.now) c.in-Slice.bracket tree.Upward (view.expr c.in-Slice.left.value) (view.expr c.in-Slice.right.value) c.in_ok-width-in-Upward.width (λ declared. refl) (subst (λ k. IsSelectable (home (draft c.args.builder.now)) (g.E.Env.names c.args.env.now) c.args.fixed c.args.needed (view.name c.args.name.now) (tree.Slice c.in-Slice.bracket (view.slice_kind k) (view.expr c.in-Slice.left.value) (view.expr c.in-Slice.right.value))) c.in-Upward.is (subst (λ x. IsSelectable (home (draft c.args.builder.now)) (g.E.Env.names c.args.env.now) c.args.fixed c.args.needed (view.name c.args.name.now) (view.select x)) c.in-Slice.is c.requires)) (subst (λ x. (natural 1 64 (expr_place (view.expr x)) (constant (view.expr x) (steady (g.E.Env.names c.args.env.now)))).number ≡ Some c.in_ok-width-in-Upward.width) c.deref-in-Upward.ensures c.in_ok-width-in-Upward.ensures)) (subst (λ x. AddsExpression (draft c.args.builder.now) (draft c.operand-in-Upward.new.builder) (typed (view.expr x) (g.E.Env.names c.args.env.now) c.args.needed).expression (1 + expr_depth (view.expr x))) c.deref-in-Upward-2.ensures c.in_ok-operand-in-Upward.ensures) c.in_ok-range-in-Upward.ensures c.part-in-Upward.ensures (omega arith)))

pub selected-number_within-requires-in-Downward : goal.selected-number_within-requires-in-Downward
selected-number_within-requires-in-Downward g t c =
    subst (λ x. IsWithin 1 64 (steady (g.E.Env.names c.args.env.now)) (view.expr x)) (sym c.deref-in-Downward.ensures) (moving_is (home (draft c.args.builder.now)) (g.E.Env.names c.args.env.now) c.args.fixed c.args.needed false (view.name c.args.name.now) c.in-Slice.bracket tree.Downward (view.expr c.in-Slice.left.value) (view.expr c.in-Slice.right.value) (λ declared. refl) (subst (λ k. IsSelectable (home (draft c.args.builder.now)) (g.E.Env.names c.args.env.now) c.args.fixed c.args.needed (view.name c.args.name.now) (tree.Slice c.in-Slice.bracket (view.slice_kind k) (view.expr c.in-Slice.left.value) (view.expr c.in-Slice.right.value))) c.in-Downward.is (subst (λ x. IsSelectable (home (draft c.args.builder.now)) (g.E.Env.names c.args.env.now) c.args.fixed c.args.needed (view.name c.args.name.now) (view.select x)) c.in-Slice.is c.requires))).width

pub selected-operand-requires-in-Downward : goal.selected-operand-requires-in-Downward
selected-operand-requires-in-Downward g t c κs within =
    (search (rules, the_lemmas), (within, child (home (draft c.args.builder.now)) (g.E.Env.names c.args.env.now) c.args.needed c.deref-in-Downward-2.result.now c.in-Slice.left.value c.deref-in-Downward-2.ensures (moving_is (home (draft c.args.builder.now)) (g.E.Env.names c.args.env.now) c.args.fixed c.args.needed false (view.name c.args.name.now) c.in-Slice.bracket tree.Downward (view.expr c.in-Slice.left.value) (view.expr c.in-Slice.right.value) (λ declared. refl) (subst (λ k. IsSelectable (home (draft c.args.builder.now)) (g.E.Env.names c.args.env.now) c.args.fixed c.args.needed (view.name c.args.name.now) (tree.Slice c.in-Slice.bracket (view.slice_kind k) (view.expr c.in-Slice.left.value) (view.expr c.in-Slice.right.value))) c.in-Downward.is (subst (λ x. IsSelectable (home (draft c.args.builder.now)) (g.E.Env.names c.args.env.now) c.args.fixed c.args.needed (view.name c.args.name.now) (view.select x)) c.in-Slice.is c.requires))).index))

pub selected-source-requires-in-Downward : goal.selected-source-requires-in-Downward
selected-source-requires-in-Downward g t c =
    subst (λ d. HasBits d c.args.fixed c.args.name.now.place ((g.E.Env.names c.args.env.now) c.args.name.now.text)) (same_home (draft c.args.builder.now) (draft c.operand-in-Downward.new.builder) (typed (view.expr c.in-Slice.left.value) (g.E.Env.names c.args.env.now) c.args.needed).expression (1 + expr_depth (view.expr c.in-Slice.left.value)) (subst (λ x. AddsExpression (draft c.args.builder.now) (draft c.operand-in-Downward.new.builder) (typed (view.expr x) (g.E.Env.names c.args.env.now) c.args.needed).expression (1 + expr_depth (view.expr x))) c.deref-in-Downward-2.ensures c.in_ok-operand-in-Downward.ensures))
    (moving_taken (home (draft c.args.builder.now)) (g.E.Env.names c.args.env.now) c.args.fixed c.args.needed false (view.name c.args.name.now) c.in-Slice.bracket tree.Downward (view.expr c.in-Slice.left.value) (view.expr c.in-Slice.right.value) c.in_ok-width-in-Downward.width (λ declared. refl) (subst (λ k. IsSelectable (home (draft c.args.builder.now)) (g.E.Env.names c.args.env.now) c.args.fixed c.args.needed (view.name c.args.name.now) (tree.Slice c.in-Slice.bracket (view.slice_kind k) (view.expr c.in-Slice.left.value) (view.expr c.in-Slice.right.value))) c.in-Downward.is (subst (λ x. IsSelectable (home (draft c.args.builder.now)) (g.E.Env.names c.args.env.now) c.args.fixed c.args.needed (view.name c.args.name.now) (view.select x)) c.in-Slice.is c.requires)) (subst (λ x. (natural 1 64 (expr_place (view.expr x)) (constant (view.expr x) (steady (g.E.Env.names c.args.env.now)))).number ≡ Some c.in_ok-width-in-Downward.width) c.deref-in-Downward.ensures c.in_ok-width-in-Downward.ensures)).bits

pub selected-part-requires-in-Downward : goal.selected-part-requires-in-Downward
selected-part-requires-in-Downward g t c =
    select_ends (home (draft c.args.builder.now)) (g.E.Env.names c.args.env.now) c.args.fixed c.args.needed (view.name c.args.name.now) (tree.Slice c.in-Slice.bracket tree.Downward (view.expr c.in-Slice.left.value) (view.expr c.in-Slice.right.value)) false c.in_ok-width-in-Downward.width (typed (view.expr c.in-Slice.left.value) (g.E.Env.names c.args.env.now) c.args.needed).expression (draft c.args.builder.now) (draft c.operand-in-Downward.new.builder) (draft c.source-in-Downward.new.builder) (1 + expr_depth (view.expr c.in-Slice.left.value)) c.in_ok-range-in-Downward.range (moving_taken (home (draft c.args.builder.now)) (g.E.Env.names c.args.env.now) c.args.fixed c.args.needed false (view.name c.args.name.now) c.in-Slice.bracket tree.Downward (view.expr c.in-Slice.left.value) (view.expr c.in-Slice.right.value) c.in_ok-width-in-Downward.width (λ declared. refl) (subst (λ k. IsSelectable (home (draft c.args.builder.now)) (g.E.Env.names c.args.env.now) c.args.fixed c.args.needed (view.name c.args.name.now) (tree.Slice c.in-Slice.bracket (view.slice_kind k) (view.expr c.in-Slice.left.value) (view.expr c.in-Slice.right.value))) c.in-Downward.is (subst (λ x. IsSelectable (home (draft c.args.builder.now)) (g.E.Env.names c.args.env.now) c.args.fixed c.args.needed (view.name c.args.name.now) (view.select x)) c.in-Slice.is c.requires)) (subst (λ x. (natural 1 64 (expr_place (view.expr x)) (constant (view.expr x) (steady (g.E.Env.names c.args.env.now)))).number ≡ Some c.in_ok-width-in-Downward.width) c.deref-in-Downward.ensures c.in_ok-width-in-Downward.ensures)) refl (subst (λ x. AddsExpression (draft c.args.builder.now) (draft c.operand-in-Downward.new.builder) (typed (view.expr x) (g.E.Env.names c.args.env.now) c.args.needed).expression (1 + expr_depth (view.expr x))) c.deref-in-Downward-2.ensures c.in_ok-operand-in-Downward.ensures) (omega (arith, (moving_is (home (draft c.args.builder.now)) (g.E.Env.names c.args.env.now) c.args.fixed c.args.needed false (view.name c.args.name.now) c.in-Slice.bracket tree.Downward (view.expr c.in-Slice.left.value) (view.expr c.in-Slice.right.value) (λ declared. refl) (subst (λ k. IsSelectable (home (draft c.args.builder.now)) (g.E.Env.names c.args.env.now) c.args.fixed c.args.needed (view.name c.args.name.now) (tree.Slice c.in-Slice.bracket (view.slice_kind k) (view.expr c.in-Slice.left.value) (view.expr c.in-Slice.right.value))) c.in-Downward.is (subst (λ x. IsSelectable (home (draft c.args.builder.now)) (g.E.Env.names c.args.env.now) c.args.fixed c.args.needed (view.name c.args.name.now) (view.select x)) c.in-Slice.is c.requires))).index.shallow)) c.in_ok-range-in-Downward.ensures

pub selected-returns-in_ok-range-in-Downward : goal.selected-returns-in_ok-range-in-Downward
selected-returns-in_ok-range-in-Downward g t c =
    subst (λ x. OnOk c.part-in-Downward.result (AddsExpression (draft c.args.builder.now) (draft c.part-in-Downward.new.self) (begins_at c.args.at (selected_by (view.select x) (view.name c.args.name.now) (g.E.Env.names c.args.env.now) c.args.fixed c.args.needed).expression) (1 + select_depth (view.select x)))) (sym c.in-Slice.is)
    (subst (λ k. OnOk c.part-in-Downward.result (AddsExpression (draft c.args.builder.now) (draft c.part-in-Downward.new.self) (begins_at c.args.at (selected_by (tree.Slice c.in-Slice.bracket (view.slice_kind k) (view.expr c.in-Slice.left.value) (view.expr c.in-Slice.right.value)) (view.name c.args.name.now) (g.E.Env.names c.args.env.now) c.args.fixed c.args.needed).expression) (1 + (1 + max (expr_depth (view.expr c.in-Slice.left.value)) (expr_depth (view.expr c.in-Slice.right.value)))))) (sym c.in-Downward.is)
    (select_arm c.part-in-Downward.result (home (draft c.args.builder.now)) (g.E.Env.names c.args.env.now) c.args.fixed c.args.needed (view.name c.args.name.now) (tree.Slice c.in-Slice.bracket tree.Downward (view.expr c.in-Slice.left.value) (view.expr c.in-Slice.right.value)) false c.in_ok-width-in-Downward.width (typed (view.expr c.in-Slice.left.value) (g.E.Env.names c.args.env.now) c.args.needed).expression (draft c.args.builder.now) (draft c.operand-in-Downward.new.builder) (draft c.source-in-Downward.new.builder) (draft c.part-in-Downward.new.self) (1 + expr_depth (view.expr c.in-Slice.left.value)) c.args.at (1 + (1 + max (expr_depth (view.expr c.in-Slice.left.value)) (expr_depth (view.expr c.in-Slice.right.value)))) c.in_ok-range-in-Downward.range (moving_taken (home (draft c.args.builder.now)) (g.E.Env.names c.args.env.now) c.args.fixed c.args.needed false (view.name c.args.name.now) c.in-Slice.bracket tree.Downward (view.expr c.in-Slice.left.value) (view.expr c.in-Slice.right.value) c.in_ok-width-in-Downward.width (λ declared. refl) (subst (λ k. IsSelectable (home (draft c.args.builder.now)) (g.E.Env.names c.args.env.now) c.args.fixed c.args.needed (view.name c.args.name.now) (tree.Slice c.in-Slice.bracket (view.slice_kind k) (view.expr c.in-Slice.left.value) (view.expr c.in-Slice.right.value))) c.in-Downward.is (subst (λ x. IsSelectable (home (draft c.args.builder.now)) (g.E.Env.names c.args.env.now) c.args.fixed c.args.needed (view.name c.args.name.now) (view.select x)) c.in-Slice.is c.requires)) (subst (λ x. (natural 1 64 (expr_place (view.expr x)) (constant (view.expr x) (steady (g.E.Env.names c.args.env.now)))).number ≡ Some c.in_ok-width-in-Downward.width) c.deref-in-Downward.ensures c.in_ok-width-in-Downward.ensures)) (subst (λ x. AddsExpression (draft c.args.builder.now) (draft c.operand-in-Downward.new.builder) (typed (view.expr x) (g.E.Env.names c.args.env.now) c.args.needed).expression (1 + expr_depth (view.expr x))) c.deref-in-Downward-2.ensures c.in_ok-operand-in-Downward.ensures) c.in_ok-range-in-Downward.ensures c.part-in-Downward.ensures (omega arith)))

pub selected-bounds_of-requires : goal.selected-bounds_of-requires
selected-bounds_of-requires g t c =
    subst (λ x. AreBounds (steady (g.E.Env.names c.args.env.now)) (view.expr x) (view.expr c.deref-in-Between-2.result.now)) (sym c.deref-in-Between.ensures) (subst (λ x. AreBounds (steady (g.E.Env.names c.args.env.now)) (view.expr c.in-Slice.left.value) (view.expr x)) (sym c.deref-in-Between-2.ensures) (between_is (home (draft c.args.builder.now)) (g.E.Env.names c.args.env.now) c.args.fixed c.args.needed (view.name c.args.name.now) c.in-Slice.bracket (view.expr c.in-Slice.left.value) (view.expr c.in-Slice.right.value) (subst (λ k. IsSelectable (home (draft c.args.builder.now)) (g.E.Env.names c.args.env.now) c.args.fixed c.args.needed (view.name c.args.name.now) (tree.Slice c.in-Slice.bracket (view.slice_kind k) (view.expr c.in-Slice.left.value) (view.expr c.in-Slice.right.value))) c.in-Between.is (subst (λ x. IsSelectable (home (draft c.args.builder.now)) (g.E.Env.names c.args.env.now) c.args.fixed c.args.needed (view.name c.args.name.now) (view.select x)) c.in-Slice.is c.requires))).bounds_are)

pub selected-source-requires-in-Between : goal.selected-source-requires-in-Between
selected-source-requires-in-Between g t c =
    subst (λ d. HasBits d c.args.fixed c.args.name.now.place ((g.E.Env.names c.args.env.now) c.args.name.now.text)) (same_home (draft c.args.builder.now) (draft c.literal.new.self) (E.At (expr_place (view.expr c.in-Slice.left.value)) (E.Literal (bits_of 32 (min c.in_ok-bounds-in-Between.bounds.left c.in_ok-bounds-in-Between.bounds.right)) true true)) 1 (subst (λ p. AddsExpression (draft c.args.builder.now) (draft c.literal.new.self) (E.At p (E.Literal (bits_of 32 (min c.in_ok-bounds-in-Between.bounds.left c.in_ok-bounds-in-Between.bounds.right)) true true)) 1) (c.place_of.ensures ∙ ap (λ x. expr_place (view.expr x)) c.deref-in-Between-3.ensures) (subst (λ z. AddsExpression (draft c.args.builder.now) (draft c.literal.new.self) (E.At c.place_of.result (E.Literal z true true)) 1) (c.of_number.ensures ∙ ap (bits_of 32) c.lesser.ensures) c.in_ok-literal-in-Between.ensures))) (between_taken (home (draft c.args.builder.now)) (g.E.Env.names c.args.env.now) c.args.fixed c.args.needed (view.name c.args.name.now) c.in-Slice.bracket (view.expr c.in-Slice.left.value) (view.expr c.in-Slice.right.value) c.in_ok-bounds-in-Between.bounds (subst (λ k. IsSelectable (home (draft c.args.builder.now)) (g.E.Env.names c.args.env.now) c.args.fixed c.args.needed (view.name c.args.name.now) (tree.Slice c.in-Slice.bracket (view.slice_kind k) (view.expr c.in-Slice.left.value) (view.expr c.in-Slice.right.value))) c.in-Between.is (subst (λ x. IsSelectable (home (draft c.args.builder.now)) (g.E.Env.names c.args.env.now) c.args.fixed c.args.needed (view.name c.args.name.now) (view.select x)) c.in-Slice.is c.requires)) (subst (λ x. IsRangeOf (steady (g.E.Env.names c.args.env.now)) (view.expr c.in-Slice.left.value) (view.expr x) c.in_ok-bounds-in-Between.bounds) c.deref-in-Between-2.ensures (subst (λ x. IsRangeOf (steady (g.E.Env.names c.args.env.now)) (view.expr x) (view.expr c.deref-in-Between-2.result.now) c.in_ok-bounds-in-Between.bounds) c.deref-in-Between.ensures c.in_ok-bounds-in-Between.ensures.range))).bits

pub selected-part-requires : goal.selected-part-requires
selected-part-requires g t c =
    subst (λ n. EndsInSelect (record { range = c.in_ok-range-in-Between.range; up = true; width = n }) (draft c.source-in-Between.new.builder)) (sym c.range_length.ensures) (select_ends (home (draft c.args.builder.now)) (g.E.Env.names c.args.env.now) c.args.fixed c.args.needed (view.name c.args.name.now) (tree.Slice c.in-Slice.bracket tree.Between (view.expr c.in-Slice.left.value) (view.expr c.in-Slice.right.value)) true (range_length c.in_ok-bounds-in-Between.bounds) (E.At (expr_place (view.expr c.in-Slice.left.value)) (E.Literal (bits_of 32 (min c.in_ok-bounds-in-Between.bounds.left c.in_ok-bounds-in-Between.bounds.right)) true true)) (draft c.args.builder.now) (draft c.literal.new.self) (draft c.source-in-Between.new.builder) 1 c.in_ok-range-in-Between.range (between_taken (home (draft c.args.builder.now)) (g.E.Env.names c.args.env.now) c.args.fixed c.args.needed (view.name c.args.name.now) c.in-Slice.bracket (view.expr c.in-Slice.left.value) (view.expr c.in-Slice.right.value) c.in_ok-bounds-in-Between.bounds (subst (λ k. IsSelectable (home (draft c.args.builder.now)) (g.E.Env.names c.args.env.now) c.args.fixed c.args.needed (view.name c.args.name.now) (tree.Slice c.in-Slice.bracket (view.slice_kind k) (view.expr c.in-Slice.left.value) (view.expr c.in-Slice.right.value))) c.in-Between.is (subst (λ x. IsSelectable (home (draft c.args.builder.now)) (g.E.Env.names c.args.env.now) c.args.fixed c.args.needed (view.name c.args.name.now) (view.select x)) c.in-Slice.is c.requires)) (subst (λ x. IsRangeOf (steady (g.E.Env.names c.args.env.now)) (view.expr c.in-Slice.left.value) (view.expr x) c.in_ok-bounds-in-Between.bounds) c.deref-in-Between-2.ensures (subst (λ x. IsRangeOf (steady (g.E.Env.names c.args.env.now)) (view.expr x) (view.expr c.deref-in-Between-2.result.now) c.in_ok-bounds-in-Between.bounds) c.deref-in-Between.ensures c.in_ok-bounds-in-Between.ensures.range))) refl (subst (λ p. AddsExpression (draft c.args.builder.now) (draft c.literal.new.self) (E.At p (E.Literal (bits_of 32 (min c.in_ok-bounds-in-Between.bounds.left c.in_ok-bounds-in-Between.bounds.right)) true true)) 1) (c.place_of.ensures ∙ ap (λ x. expr_place (view.expr x)) c.deref-in-Between-3.ensures) (subst (λ z. AddsExpression (draft c.args.builder.now) (draft c.literal.new.self) (E.At c.place_of.result (E.Literal z true true)) 1) (c.of_number.ensures ∙ ap (bits_of 32) c.lesser.ensures) c.in_ok-literal-in-Between.ensures)) (omega arith) c.in_ok-range-in-Between.ensures)

pub selected-returns-in_ok-range-in-Between : goal.selected-returns-in_ok-range-in-Between
selected-returns-in_ok-range-in-Between g t c =
    subst (λ x. OnOk c.part.result (AddsExpression (draft c.args.builder.now) (draft c.part.new.self) (begins_at c.args.at (selected_by (view.select x) (view.name c.args.name.now) (g.E.Env.names c.args.env.now) c.args.fixed c.args.needed).expression) (1 + select_depth (view.select x)))) (sym c.in-Slice.is)
    (subst (λ k. OnOk c.part.result (AddsExpression (draft c.args.builder.now) (draft c.part.new.self) (begins_at c.args.at (selected_by (tree.Slice c.in-Slice.bracket (view.slice_kind k) (view.expr c.in-Slice.left.value) (view.expr c.in-Slice.right.value)) (view.name c.args.name.now) (g.E.Env.names c.args.env.now) c.args.fixed c.args.needed).expression) (1 + (1 + max (expr_depth (view.expr c.in-Slice.left.value)) (expr_depth (view.expr c.in-Slice.right.value)))))) (sym c.in-Between.is)
    (select_arm c.part.result (home (draft c.args.builder.now)) (g.E.Env.names c.args.env.now) c.args.fixed c.args.needed (view.name c.args.name.now) (tree.Slice c.in-Slice.bracket tree.Between (view.expr c.in-Slice.left.value) (view.expr c.in-Slice.right.value)) true (range_length c.in_ok-bounds-in-Between.bounds) (E.At (expr_place (view.expr c.in-Slice.left.value)) (E.Literal (bits_of 32 (min c.in_ok-bounds-in-Between.bounds.left c.in_ok-bounds-in-Between.bounds.right)) true true)) (draft c.args.builder.now) (draft c.literal.new.self) (draft c.source-in-Between.new.builder) (draft c.part.new.self) 1 c.args.at (1 + (1 + max (expr_depth (view.expr c.in-Slice.left.value)) (expr_depth (view.expr c.in-Slice.right.value)))) c.in_ok-range-in-Between.range (between_taken (home (draft c.args.builder.now)) (g.E.Env.names c.args.env.now) c.args.fixed c.args.needed (view.name c.args.name.now) c.in-Slice.bracket (view.expr c.in-Slice.left.value) (view.expr c.in-Slice.right.value) c.in_ok-bounds-in-Between.bounds (subst (λ k. IsSelectable (home (draft c.args.builder.now)) (g.E.Env.names c.args.env.now) c.args.fixed c.args.needed (view.name c.args.name.now) (tree.Slice c.in-Slice.bracket (view.slice_kind k) (view.expr c.in-Slice.left.value) (view.expr c.in-Slice.right.value))) c.in-Between.is (subst (λ x. IsSelectable (home (draft c.args.builder.now)) (g.E.Env.names c.args.env.now) c.args.fixed c.args.needed (view.name c.args.name.now) (view.select x)) c.in-Slice.is c.requires)) (subst (λ x. IsRangeOf (steady (g.E.Env.names c.args.env.now)) (view.expr c.in-Slice.left.value) (view.expr x) c.in_ok-bounds-in-Between.bounds) c.deref-in-Between-2.ensures (subst (λ x. IsRangeOf (steady (g.E.Env.names c.args.env.now)) (view.expr x) (view.expr c.deref-in-Between-2.result.now) c.in_ok-bounds-in-Between.bounds) c.deref-in-Between.ensures c.in_ok-bounds-in-Between.ensures.range))) (subst (λ p. AddsExpression (draft c.args.builder.now) (draft c.literal.new.self) (E.At p (E.Literal (bits_of 32 (min c.in_ok-bounds-in-Between.bounds.left c.in_ok-bounds-in-Between.bounds.right)) true true)) 1) (c.place_of.ensures ∙ ap (λ x. expr_place (view.expr x)) c.deref-in-Between-3.ensures) (subst (λ z. AddsExpression (draft c.args.builder.now) (draft c.literal.new.self) (E.At c.place_of.result (E.Literal z true true)) 1) (c.of_number.ensures ∙ ap (bits_of 32) c.lesser.ensures) c.in_ok-literal-in-Between.ensures)) c.in_ok-range-in-Between.ensures (subst (λ n. (p k : Draft) (t u : E.Expression) (x y : ℕ) → AddsExpression p k t x → AddsExpression k (draft c.source-in-Between.new.builder) u y → OnOk c.part.result (AddsExpression p (draft c.part.new.self) (E.At c.args.at (E.Select (source_of u) (record { range = c.in_ok-range-in-Between.range; up = true; width = n }) t)) (1 + max x y))) c.range_length.ensures c.part.ensures) (omega arith)))

pub expression-operand-requires : goal.expression-operand-requires
expression-operand-requires g t c κs within =
    (omega (arith, falls c.args.e.now c.deref-in-Unary.result.now _ _ (unary_size _ _ c.in-Unary.a) c.in-Unary.is c.deref-in-Unary.ensures, c.decreases), (within, child (home (draft c.args.builder.now)) (g.E.Env.names c.args.env.now) c.args.needed c.deref-in-Unary.result.now c.in-Unary.a.value c.deref-in-Unary.ensures (unary_operand (home (draft c.args.builder.now)) (g.E.Env.names c.args.env.now) c.args.needed _ _ (view.expr c.in-Unary.a.value) (subst (λ x. IsBuildable (home (draft c.args.builder.now)) (g.E.Env.names c.args.env.now) c.args.needed (view.expr x)) c.in-Unary.is c.requires))))

pub expression-expression-requires : goal.expression-expression-requires
expression-expression-requires g t c κs within =
    (omega (arith, falls c.args.e.now c.deref-in-Brackets.result.now _ _ (brackets_size _ c.in-Brackets.inner) c.in-Brackets.is c.deref-in-Brackets.ensures, c.decreases), (within, child (home (draft c.args.builder.now)) (g.E.Env.names c.args.env.now) c.args.needed c.deref-in-Brackets.result.now c.in-Brackets.inner.value c.deref-in-Brackets.ensures (brackets_inner (home (draft c.args.builder.now)) (g.E.Env.names c.args.env.now) c.args.needed _ (view.expr c.in-Brackets.inner.value) (subst (λ x. IsBuildable (home (draft c.args.builder.now)) (g.E.Env.names c.args.env.now) c.args.needed (view.expr x)) c.in-Brackets.is c.requires))))

pub expression-operand-requires-in-AsSigned : goal.expression-operand-requires-in-AsSigned
expression-operand-requires-in-AsSigned g t c κs within =
    (omega (arith, falls c.args.e.now c.deref-in-AsSigned.result.now _ _ (call_size _ _ c.in-Call.a) c.in-Call.is c.deref-in-AsSigned.ensures, c.decreases), (within, child (home (draft c.args.builder.now)) (g.E.Env.names c.args.env.now) c.args.needed c.deref-in-AsSigned.result.now c.in-Call.a.value c.deref-in-AsSigned.ensures (signed_operand (home (draft c.args.builder.now)) (g.E.Env.names c.args.env.now) c.args.needed c.in-Call.place (view.expr c.in-Call.a.value) (subst (λ f. IsBuildable (home (draft c.args.builder.now)) (g.E.Env.names c.args.env.now) c.args.needed (tree.Call c.in-Call.place (view.system_function f) (view.expr c.in-Call.a.value))) c.in-AsSigned.is (subst (λ x. IsBuildable (home (draft c.args.builder.now)) (g.E.Env.names c.args.env.now) c.args.needed (view.expr x)) c.in-Call.is c.requires)))))

pub expression-operand-requires-in-AsUnsigned : goal.expression-operand-requires-in-AsUnsigned
expression-operand-requires-in-AsUnsigned g t c κs within =
    (omega (arith, falls c.args.e.now c.deref-in-AsUnsigned.result.now _ _ (call_size _ _ c.in-Call.a) c.in-Call.is c.deref-in-AsUnsigned.ensures, c.decreases), (within, child (home (draft c.args.builder.now)) (g.E.Env.names c.args.env.now) c.args.needed c.deref-in-AsUnsigned.result.now c.in-Call.a.value c.deref-in-AsUnsigned.ensures (unsigned_operand (home (draft c.args.builder.now)) (g.E.Env.names c.args.env.now) c.args.needed c.in-Call.place (view.expr c.in-Call.a.value) (subst (λ f. IsBuildable (home (draft c.args.builder.now)) (g.E.Env.names c.args.env.now) c.args.needed (tree.Call c.in-Call.place (view.system_function f) (view.expr c.in-Call.a.value))) c.in-AsUnsigned.is (subst (λ x. IsBuildable (home (draft c.args.builder.now)) (g.E.Env.names c.args.env.now) c.args.needed (view.expr x)) c.in-Call.is c.requires)))))

pub expression-returns-in-Brackets : goal.expression-returns-in-Brackets
expression-returns-in-Brackets g t c =
    let inner = view.expr c.in-Brackets.inner.value in
    let adds : OnOk c.expression.result (AddsExpression (draft c.args.builder.now) (draft c.expression.new.builder) (begins_at c.args.at (typed inner (g.E.Env.names c.args.env.now) c.args.needed).expression) (1 + expr_depth inner)) =
    subst (λ x. OnOk c.expression.result (AddsExpression (draft c.args.builder.now) (draft c.expression.new.builder) (begins_at c.args.at (typed (view.expr x) (g.E.Env.names c.args.env.now) c.args.needed).expression) (1 + expr_depth (view.expr x)))) c.deref-in-Brackets.ensures c.expression.ensures in
    subst (λ x. OnOk c.expression.result (AddsExpression (draft c.args.builder.now) (draft c.expression.new.builder) (begins_at c.args.at (typed (view.expr x) (g.E.Env.names c.args.env.now) c.args.needed).expression) (1 + expr_depth (view.expr x)))) (sym c.in-Brackets.is)
    (ok_up_to c.expression.result (draft c.args.builder.now) (draft c.expression.new.builder) (begins_at c.args.at (typed (tree.Brackets c.in-Brackets.place inner) (g.E.Env.names c.args.env.now) c.args.needed).expression) (1 + expr_depth inner) (1 + (1 + expr_depth inner)) (subst (λ e. OnOk c.expression.result (AddsExpression (draft c.args.builder.now) (draft c.expression.new.builder) e (1 + expr_depth inner))) (sym (begins_twice c.args.at c.in-Brackets.place (typed inner (g.E.Env.names c.args.env.now) c.args.needed).expression)) adds) (omega arith))

pub operand-expression-requires : goal.operand-expression-requires
operand-expression-requires g t c κs within = (omega (arith, c.decreases), (within, c.requires))

pub operand-returns : goal.operand-returns
operand-returns g t c =
    let e = view.expr c.args.e.now in
    let tree = (typed e (g.E.Env.names c.args.env.now) c.args.needed).expression in
    subst (λ x. OnOk c.expression.result (AddsExpression (draft c.args.builder.now) (draft c.expression.new.builder) x (1 + expr_depth e)))
    (ap (λ (p : ℕ). begins_at p tree) c.place_of.ensures ∙ begins_itself e (g.E.Env.names c.args.env.now) c.args.needed) c.expression.ensures

pub expression-call_parts-requires : goal.expression-call_parts-requires
expression-call_parts-requires g t c κs within =
    let find = g.E.Env.names c.args.env.now in
    let k = call_is (home (draft c.args.builder.now)) find c.args.needed (view.name c.in-Apply.name) (view.exprs c.in-Apply.list.items) (subst (IsBuildable (home (draft c.args.builder.now)) find c.args.needed) (ap view.expr c.in-Apply.is ∙ apply_view c.in-Apply.name c.in-Apply.list) c.requires) in (
      (let less : most the_size c.deref.result.now < the_size c.args.e.now = subst (λ es. most the_size es < the_size c.args.e.now) (sym c.deref.ensures.value) (subst (λ x. most the_size c.in-Apply.list.items < the_size x) (sym c.in-Apply.is) (arguments_size c.in-Apply.name c.in-Apply.list)) in omega (arith, less, c.decreases)),
      (
        within,
        (
          subst (AreArguments (home (draft c.args.builder.now)) find c.args.needed) (sym (ap view.exprs c.deref.ensures.value)) k.parts,
          (record { function = k.function; is = k.means }, passable_there (home (draft c.args.builder.now)) (find c.in-Apply.name.text) k.function k.means k.passable),
        ),
      ),
    )

pub call_parts-arguments-requires : goal.call_parts-arguments-requires
call_parts-arguments-requires g t c κs within = (omega (arith, c.decreases), (within, c.requires.arguments))

pub call_parts-passed-requires : goal.call_parts-passed-requires
call_parts-passed-requires g t c = record {
  callable = c.requires.callable;
  passable = passable_behind (draft c.args.builder.now) (draft c.arguments.new.builder) (part_expressions (g.E.Env.names c.args.env.now) c.args.needed c.args.list.now) (1 + exprs_depth (view.exprs c.args.list.now)) (g.E.Env.names c.args.env.now c.args.name.now.text) c.in_ok-arguments.ensures c.requires.passable;
}

pub call_parts-returns-clause-parts : goal.call_parts-returns-clause-parts
call_parts-returns-clause-parts g t c f e =
    parts_both (draft c.args.builder.now) (draft c.arguments.new.builder) (draft c.passed.new.builder) (part_expressions (g.E.Env.names c.args.env.now) c.args.needed c.args.list.now) (passed_expressions c.args.name.now.place f.passed) (exprs_depth (view.exprs c.args.list.now)) c.in_ok-arguments.ensures (c.in_ok-passed.ensures f e)

pub expression-called-requires : goal.expression-called-requires
expression-called-requires g t c =
    let find = g.E.Env.names c.args.env.now in
    let k = call_is (home (draft c.args.builder.now)) find c.args.needed (view.name c.in-Apply.name) (view.exprs c.in-Apply.list.items) (subst (IsBuildable (home (draft c.args.builder.now)) find c.args.needed) (ap view.expr c.in-Apply.is ∙ apply_view c.in-Apply.name c.in-Apply.list) c.requires) in
    record { function = k.function; is = k.means }

pub expression-call-requires-clause-there : goal.expression-call-requires-clause-there
expression-call-requires-clause-there g t c =
    let find = g.E.Env.names c.args.env.now in
    let k = call_is (home (draft c.args.builder.now)) find c.args.needed (view.name c.in-Apply.name) (view.exprs c.in-Apply.list.items) (subst (IsBuildable (home (draft c.args.builder.now)) find c.args.needed) (ap view.expr c.in-Apply.is ∙ apply_view c.in-Apply.name c.in-Apply.list) c.requires) in
    let n = c.in_ok-count-in-Apply.ensures.count k.function k.means in
    let same : length c.deref.result.now ≡ length c.in-Apply.list.items = ap length c.deref.ensures.value in
    let many = call_many (home (draft c.args.builder.now)) find c.args.needed (view.name c.in-Apply.name) c.in-Apply.list.items k in (
      record { header = k.function.header; statement = k.function.statement },
      function_at (draft c.args.builder.now) (draft c.call_parts.new.builder) (part_expressions find c.args.needed c.deref.result.now ++ passed_expressions c.in-Apply.name.place k.function.passed) (1 + exprs_depth (view.exprs c.deref.result.now)) find (view.name c.in-Apply.name) k.function c.called.result (c.in_ok-count-in-Apply.ensures.parts k.function k.means) c.requires.numbered k.means (c.called.ensures k.function k.means),
      omega (arith, n, same, many),
    )

pub expression-call-requires-clause-some : goal.expression-call-requires-clause-some
expression-call-requires-clause-some g t c =
    let find = g.E.Env.names c.args.env.now in
    let b = subst (IsBuildable (home (draft c.args.builder.now)) find c.args.needed) (ap view.expr c.in-Apply.is ∙ apply_view c.in-Apply.name c.in-Apply.list) c.requires in
    let k = call_is (home (draft c.args.builder.now)) find c.args.needed (view.name c.in-Apply.name) (view.exprs c.in-Apply.list.items) b in
    let n = c.in_ok-count-in-Apply.ensures.count k.function k.means in
    let same : length c.deref.result.now ≡ length c.in-Apply.list.items = ap length c.deref.ensures.value in
    omega (arith, n, same, some_part c.in-Apply.list.items b.shaped.1)

pub expression-call-requires-clause-arguments : goal.expression-call-requires-clause-arguments
expression-call-requires-clause-arguments g t c =
    let find = g.E.Env.names c.args.env.now in
    let k = call_is (home (draft c.args.builder.now)) find c.args.needed (view.name c.in-Apply.name) (view.exprs c.in-Apply.list.items) (subst (IsBuildable (home (draft c.args.builder.now)) find c.args.needed) (ap view.expr c.in-Apply.is ∙ apply_view c.in-Apply.name c.in-Apply.list) c.requires) in
    let n = c.in_ok-count-in-Apply.ensures.count k.function k.means in
    ends_parts (draft c.args.builder.now) (draft c.call_parts.new.builder) (part_expressions find c.args.needed c.deref.result.now ++ passed_expressions c.in-Apply.name.place k.function.passed) (1 + exprs_depth (view.exprs c.deref.result.now)) c.in_ok-count-in-Apply.count (c.in_ok-count-in-Apply.ensures.parts k.function k.means)
    (omega (arith, ap (λ xs. exprs_depth (view.exprs xs)) c.deref.ensures.value, k.parts.shallow)) (n ∙ sym (held_count find c.args.needed c.in-Apply.name.place k.function.passed c.deref.result.now))

pub expression-returns-in_ok-count-in-Apply : goal.expression-returns-in_ok-count-in-Apply
expression-returns-in_ok-count-in-Apply g t c =
    let find = g.E.Env.names c.args.env.now in
    let k = call_is (home (draft c.args.builder.now)) find c.args.needed (view.name c.in-Apply.name) (view.exprs c.in-Apply.list.items) (subst (IsBuildable (home (draft c.args.builder.now)) find c.args.needed) (ap view.expr c.in-Apply.is ∙ apply_view c.in-Apply.name c.in-Apply.list) c.requires) in
    let parts = c.in_ok-count-in-Apply.ensures.parts k.function k.means in
    let there = function_at (draft c.args.builder.now) (draft c.call_parts.new.builder) (part_expressions find c.args.needed c.deref.result.now ++ passed_expressions c.in-Apply.name.place k.function.passed) (1 + exprs_depth (view.exprs c.deref.result.now)) find (view.name c.in-Apply.name) k.function c.called.result parts c.requires.numbered k.means (c.called.ensures k.function k.means) in
    subst (λ x. OnOk c.call.result (AddsExpression (draft c.args.builder.now) (draft c.call.new.self) (begins_at c.args.at (typed x find c.args.needed).expression) (1 + expr_depth x))) (sym (ap view.expr c.in-Apply.is ∙ apply_view c.in-Apply.name c.in-Apply.list))
    (call_arm c.call.result (draft c.args.builder.now) (draft c.call_parts.new.builder) (draft c.call.new.self) find c.args.needed c.args.at c.in_ok-count-in-Apply.count (view.name c.in-Apply.name) k.function c.in-Apply.list.items c.deref.result.now c.deref.ensures.value (c.in_ok-count-in-Apply.ensures.count k.function k.means) k.expression parts
    (λ q ts m a l. c.call.ensures q (record { header = k.function.header; statement = k.function.statement }) ts m there a l))

pub arguments-operand-requires : goal.arguments-operand-requires
arguments-operand-requires g t c κs within =
    (part_falls c.args.list.now c.loop-argument.argument-index c.argument-item.result t (omega arith) c.argument-item.is c.decreases, (within, part_after (draft c.args.builder.now) (draft c.loop-argument.builder) _ _ (g.E.Env.names c.args.env.now) c.args.needed (view.expr c.argument-item.result) c.loop-argument.invariant (each_argument (home (draft c.args.builder.now)) (g.E.Env.names c.args.env.now) c.args.needed c.args.list.now c.loop-argument.argument-index c.argument-item.result c.requires (omega arith) c.argument-item.is)))

pub arguments-loop-argument-init : goal.arguments-loop-argument-init
arguments-loop-argument-init g t c =
    parts_none (draft c.args.builder.now) (1 + exprs_depth (view.exprs c.args.list.now))

pub arguments-loop-argument-preserved : goal.arguments-loop-argument-preserved
arguments-loop-argument-preserved g t c =
    parts_are (draft c.args.builder.now) (draft c.operand.new.builder) _ _ (1 + exprs_depth (view.exprs c.args.list.now)) (sym (taken_more (g.E.Env.names c.args.env.now) c.args.needed c.args.list.now c.loop-argument.argument-index c.argument-item.result (omega arith) c.argument-item.is))
    (parts_more (draft c.args.builder.now) (draft c.loop-argument.builder) (draft c.operand.new.builder) (part_expressions (g.E.Env.names c.args.env.now) c.args.needed (take c.loop-argument.argument-index c.args.list.now)) (typed (view.expr c.argument-item.result) (g.E.Env.names c.args.env.now) c.args.needed).expression (1 + exprs_depth (view.exprs c.args.list.now)) (1 + expr_depth (view.expr c.argument-item.result)) c.loop-argument.invariant c.in_ok-operand.ensures
    (omega (arith, part_levels c.args.list.now c.loop-argument.argument-index c.argument-item.result (omega arith) c.argument-item.is)))

pub arguments-returns : goal.arguments-returns
arguments-returns g t c =
    parts_are (draft c.args.builder.now) (draft c.loop-argument.builder) _ _ (1 + exprs_depth (view.exprs c.args.list.now)) (taken_all (g.E.Env.names c.args.env.now) c.args.needed c.args.list.now c.loop-argument.argument-index (omega arith)) c.loop-argument.invariant

pub selected-operand-requires-in-Word : goal.selected-operand-requires-in-Word
selected-operand-requires-in-Word g t c κs within =
    let find = g.E.Env.names c.args.env.now in
    let d = home (draft c.args.builder.now) in
    let name = view.name c.args.name.now in
    let m = find name.bytes in
    let n = is_array m || c.args.needed in
    let address = view.expr c.in-Word.address.value in
    let part = view.select c.in-Word.part.value in
    let f = further_is d find c.args.fixed c.args.needed name c.in-Word.bracket address part (subst (λ x. IsSelectable d find c.args.fixed c.args.needed name (view.select x)) c.in-Word.is c.requires) in
    (search (rules, the_lemmas), (within, subst (λ k. IsBuildable d find k (view.expr c.deref-in-Word.result.now)) (sym c.index_needed-in-Word.ensures) (child d find n c.deref-in-Word.result.now c.in-Word.address.value c.deref-in-Word.ensures f.address_is)))

pub selected-bits_taken-requires : goal.selected-bits_taken-requires
selected-bits_taken-requires g t c κs within =
    let find = g.E.Env.names c.args.env.now in
    let d = home (draft c.args.builder.now) in
    let name = view.name c.args.name.now in
    let m = find name.bytes in
    let n = is_array m || c.args.needed in
    let address = view.expr c.in-Word.address.value in
    let part = view.select c.in-Word.part.value in
    let f = further_is d find c.args.fixed c.args.needed name c.in-Word.bracket address part (subst (λ x. IsSelectable d find c.args.fixed c.args.needed name (view.select x)) c.in-Word.is c.requires) in
    let a : AddsExpression (draft c.args.builder.now) (draft c.operand-in-Word.new.builder) (typed address find n).expression (1 + expr_depth address) =
    subst (λ x. AddsExpression (draft c.args.builder.now) (draft c.operand-in-Word.new.builder) (typed (view.expr x) find n).expression (1 + expr_depth (view.expr x))) c.deref-in-Word.ensures
    (subst (λ k. AddsExpression (draft c.args.builder.now) (draft c.operand-in-Word.new.builder) (typed (view.expr c.deref-in-Word.result.now) find k).expression (1 + expr_depth (view.expr c.deref-in-Word.result.now))) c.index_needed-in-Word.ensures c.in_ok-operand-in-Word.ensures)
    in
    let k = takable_after (draft c.args.builder.now) (draft c.operand-in-Word.new.builder) (typed address find n).expression (1 + expr_depth address) find c.args.needed f.words.range part a f.takable in
    (search (rules, the_lemmas), (within, (f.words.range, subst (λ x. IsTakable (home (draft c.operand-in-Word.new.builder)) find c.args.needed f.words.range (view.select x)) (sym c.deref-in-Word-2.ensures) k)))

pub selected-words-requires-clause-words : goal.selected-words-requires-clause-words
selected-words-requires-clause-words g t c =
    let find = g.E.Env.names c.args.env.now in
    let d = home (draft c.args.builder.now) in
    let name = view.name c.args.name.now in
    let address = view.expr c.in-Word.address.value in
    let part = view.select c.in-Word.part.value in
    let f = further_is d find c.args.fixed c.args.needed name c.in-Word.bracket address part (subst (λ x. IsSelectable d find c.args.fixed c.args.needed name (view.select x)) c.in-Word.is c.requires) in
    f.words

pub selected-words-requires-clause-address : goal.selected-words-requires-clause-address
selected-words-requires-clause-address g t c =
    let find = g.E.Env.names c.args.env.now in
    let d = home (draft c.args.builder.now) in
    let name = view.name c.args.name.now in
    let m = find name.bytes in
    let address = view.expr c.in-Word.address.value in
    let part = view.select c.in-Word.part.value in
    let f = further_is d find c.args.fixed c.args.needed name c.in-Word.bracket address part (subst (λ x. IsSelectable d find c.args.fixed c.args.needed name (view.select x)) c.in-Word.is c.requires) in
    subst (λ x. IsWordAddressable m find (view.expr x)) (sym c.deref-in-Word-3.ensures) f.addressable

pub selected-word_part-requires-clause-there : goal.selected-word_part-requires-clause-there
selected-word_part-requires-clause-there g t c =
    let find = g.E.Env.names c.args.env.now in
    let d = home (draft c.args.builder.now) in
    let name = view.name c.args.name.now in
    let m = find name.bytes in
    let n = is_array m || c.args.needed in
    let address = view.expr c.in-Word.address.value in
    let part = view.select c.in-Word.part.value in
    let f = further_is d find c.args.fixed c.args.needed name c.in-Word.bracket address part (subst (λ x. IsSelectable d find c.args.fixed c.args.needed name (view.select x)) c.in-Word.is c.requires) in
    let a : AddsExpression (draft c.args.builder.now) (draft c.operand-in-Word.new.builder) (typed address find n).expression (1 + expr_depth address) =
    subst (λ x. AddsExpression (draft c.args.builder.now) (draft c.operand-in-Word.new.builder) (typed (view.expr x) find n).expression (1 + expr_depth (view.expr x))) c.deref-in-Word.ensures
    (subst (λ k. AddsExpression (draft c.args.builder.now) (draft c.operand-in-Word.new.builder) (typed (view.expr c.deref-in-Word.result.now) find k).expression (1 + expr_depth (view.expr c.deref-in-Word.result.now))) c.index_needed-in-Word.ensures c.in_ok-operand-in-Word.ensures)
    in
    let k = takable_after (draft c.args.builder.now) (draft c.operand-in-Word.new.builder) (typed address find n).expression (1 + expr_depth address) find c.args.needed f.words.range part a f.takable in
    let there : IsTakable (home (draft c.operand-in-Word.new.builder)) find c.args.needed f.words.range (view.select c.deref-in-Word-2.result.now) = subst (λ x. IsTakable (home (draft c.operand-in-Word.new.builder)) find c.args.needed f.words.range (view.select x)) (sym c.deref-in-Word-2.ensures) k in
    let b : AddsExpression (draft c.operand-in-Word.new.builder) (draft c.bits_taken.new.builder) (taken_by (Some f.words.range) part find c.args.needed).index (select_depth part) =
    subst (λ x. AddsExpression (draft c.operand-in-Word.new.builder) (draft c.bits_taken.new.builder) (taken_by (Some f.words.range) (view.select x) find c.args.needed).index (select_depth (view.select x))) c.deref-in-Word-2.ensures (c.in_ok-bits-in-Word.ensures.adds f.words.range there)
    in
    let l = looked_up d find c.args.needed m address part (selected_by (tree.OfWord c.in-Word.bracket address part) name find c.args.fixed c.args.needed) f c.in_ok-m-in-Word.m.0 c.in_ok-m-in-Word.m.1 c.in_ok-bits-in-Word.bits.0 c.in_ok-bits-in-Word.bits.1
    (ap (λ x. memory_of m (expr_place (view.expr x)) (constant (view.expr x) find)) (sym c.deref-in-Word-3.ensures) ∙ c.in_ok-m-in-Word.ensures.number) (c.in_ok-m-in-Word.ensures.range f.words.memory f.words.is)
    (ap (λ x. (taken_by (Some f.words.range) (view.select x) find c.args.needed).part) (sym c.deref-in-Word-2.ensures) ∙ c.in_ok-bits-in-Word.ensures.part f.words.range there)
    in
    (further_ends d find c.args.needed m address part (selected_by (tree.OfWord c.in-Word.bracket address part) name find c.args.fixed c.args.needed) f c.in_ok-m-in-Word.m.0 c.in_ok-m-in-Word.m.1 c.in_ok-bits-in-Word.bits.0 c.in_ok-bits-in-Word.bits.1
    (draft c.args.builder.now) (draft c.operand-in-Word.new.builder) (draft c.bits_taken.new.builder) refl l a b).there

pub selected-word_part-requires-clause-formed : goal.selected-word_part-requires-clause-formed
selected-word_part-requires-clause-formed g t c =
    let find = g.E.Env.names c.args.env.now in
    let d = home (draft c.args.builder.now) in
    let name = view.name c.args.name.now in
    let m = find name.bytes in
    let n = is_array m || c.args.needed in
    let address = view.expr c.in-Word.address.value in
    let part = view.select c.in-Word.part.value in
    let f = further_is d find c.args.fixed c.args.needed name c.in-Word.bracket address part (subst (λ x. IsSelectable d find c.args.fixed c.args.needed name (view.select x)) c.in-Word.is c.requires) in
    let a : AddsExpression (draft c.args.builder.now) (draft c.operand-in-Word.new.builder) (typed address find n).expression (1 + expr_depth address) =
    subst (λ x. AddsExpression (draft c.args.builder.now) (draft c.operand-in-Word.new.builder) (typed (view.expr x) find n).expression (1 + expr_depth (view.expr x))) c.deref-in-Word.ensures
    (subst (λ k. AddsExpression (draft c.args.builder.now) (draft c.operand-in-Word.new.builder) (typed (view.expr c.deref-in-Word.result.now) find k).expression (1 + expr_depth (view.expr c.deref-in-Word.result.now))) c.index_needed-in-Word.ensures c.in_ok-operand-in-Word.ensures)
    in
    let k = takable_after (draft c.args.builder.now) (draft c.operand-in-Word.new.builder) (typed address find n).expression (1 + expr_depth address) find c.args.needed f.words.range part a f.takable in
    let there : IsTakable (home (draft c.operand-in-Word.new.builder)) find c.args.needed f.words.range (view.select c.deref-in-Word-2.result.now) = subst (λ x. IsTakable (home (draft c.operand-in-Word.new.builder)) find c.args.needed f.words.range (view.select x)) (sym c.deref-in-Word-2.ensures) k in
    let b : AddsExpression (draft c.operand-in-Word.new.builder) (draft c.bits_taken.new.builder) (taken_by (Some f.words.range) part find c.args.needed).index (select_depth part) =
    subst (λ x. AddsExpression (draft c.operand-in-Word.new.builder) (draft c.bits_taken.new.builder) (taken_by (Some f.words.range) (view.select x) find c.args.needed).index (select_depth (view.select x))) c.deref-in-Word-2.ensures (c.in_ok-bits-in-Word.ensures.adds f.words.range there)
    in
    let l = looked_up d find c.args.needed m address part (selected_by (tree.OfWord c.in-Word.bracket address part) name find c.args.fixed c.args.needed) f c.in_ok-m-in-Word.m.0 c.in_ok-m-in-Word.m.1 c.in_ok-bits-in-Word.bits.0 c.in_ok-bits-in-Word.bits.1
    (ap (λ x. memory_of m (expr_place (view.expr x)) (constant (view.expr x) find)) (sym c.deref-in-Word-3.ensures) ∙ c.in_ok-m-in-Word.ensures.number) (c.in_ok-m-in-Word.ensures.range f.words.memory f.words.is)
    (ap (λ x. (taken_by (Some f.words.range) (view.select x) find c.args.needed).part) (sym c.deref-in-Word-2.ensures) ∙ c.in_ok-bits-in-Word.ensures.part f.words.range there)
    in
    (further_ends d find c.args.needed m address part (selected_by (tree.OfWord c.in-Word.bracket address part) name find c.args.fixed c.args.needed) f c.in_ok-m-in-Word.m.0 c.in_ok-m-in-Word.m.1 c.in_ok-bits-in-Word.bits.0 c.in_ok-bits-in-Word.bits.1
    (draft c.args.builder.now) (draft c.operand-in-Word.new.builder) (draft c.bits_taken.new.builder) refl l a b).formed

pub selected-word_part-requires-clause-ends : goal.selected-word_part-requires-clause-ends
selected-word_part-requires-clause-ends g t c =
    let find = g.E.Env.names c.args.env.now in
    let d = home (draft c.args.builder.now) in
    let name = view.name c.args.name.now in
    let m = find name.bytes in
    let n = is_array m || c.args.needed in
    let address = view.expr c.in-Word.address.value in
    let part = view.select c.in-Word.part.value in
    let f = further_is d find c.args.fixed c.args.needed name c.in-Word.bracket address part (subst (λ x. IsSelectable d find c.args.fixed c.args.needed name (view.select x)) c.in-Word.is c.requires) in
    let a : AddsExpression (draft c.args.builder.now) (draft c.operand-in-Word.new.builder) (typed address find n).expression (1 + expr_depth address) =
    subst (λ x. AddsExpression (draft c.args.builder.now) (draft c.operand-in-Word.new.builder) (typed (view.expr x) find n).expression (1 + expr_depth (view.expr x))) c.deref-in-Word.ensures
    (subst (λ k. AddsExpression (draft c.args.builder.now) (draft c.operand-in-Word.new.builder) (typed (view.expr c.deref-in-Word.result.now) find k).expression (1 + expr_depth (view.expr c.deref-in-Word.result.now))) c.index_needed-in-Word.ensures c.in_ok-operand-in-Word.ensures)
    in
    let k = takable_after (draft c.args.builder.now) (draft c.operand-in-Word.new.builder) (typed address find n).expression (1 + expr_depth address) find c.args.needed f.words.range part a f.takable in
    let there : IsTakable (home (draft c.operand-in-Word.new.builder)) find c.args.needed f.words.range (view.select c.deref-in-Word-2.result.now) = subst (λ x. IsTakable (home (draft c.operand-in-Word.new.builder)) find c.args.needed f.words.range (view.select x)) (sym c.deref-in-Word-2.ensures) k in
    let b : AddsExpression (draft c.operand-in-Word.new.builder) (draft c.bits_taken.new.builder) (taken_by (Some f.words.range) part find c.args.needed).index (select_depth part) =
    subst (λ x. AddsExpression (draft c.operand-in-Word.new.builder) (draft c.bits_taken.new.builder) (taken_by (Some f.words.range) (view.select x) find c.args.needed).index (select_depth (view.select x))) c.deref-in-Word-2.ensures (c.in_ok-bits-in-Word.ensures.adds f.words.range there)
    in
    let l = looked_up d find c.args.needed m address part (selected_by (tree.OfWord c.in-Word.bracket address part) name find c.args.fixed c.args.needed) f c.in_ok-m-in-Word.m.0 c.in_ok-m-in-Word.m.1 c.in_ok-bits-in-Word.bits.0 c.in_ok-bits-in-Word.bits.1
    (ap (λ x. memory_of m (expr_place (view.expr x)) (constant (view.expr x) find)) (sym c.deref-in-Word-3.ensures) ∙ c.in_ok-m-in-Word.ensures.number) (c.in_ok-m-in-Word.ensures.range f.words.memory f.words.is)
    (ap (λ x. (taken_by (Some f.words.range) (view.select x) find c.args.needed).part) (sym c.deref-in-Word-2.ensures) ∙ c.in_ok-bits-in-Word.ensures.part f.words.range there)
    in
    (further_ends d find c.args.needed m address part (selected_by (tree.OfWord c.in-Word.bracket address part) name find c.args.fixed c.args.needed) f c.in_ok-m-in-Word.m.0 c.in_ok-m-in-Word.m.1 c.in_ok-bits-in-Word.bits.0 c.in_ok-bits-in-Word.bits.1
    (draft c.args.builder.now) (draft c.operand-in-Word.new.builder) (draft c.bits_taken.new.builder) refl l a b).ends

pub selected-returns-in_ok-m-in-Word : goal.selected-returns-in_ok-m-in-Word
selected-returns-in_ok-m-in-Word g t c =
    let find = g.E.Env.names c.args.env.now in
    let d = home (draft c.args.builder.now) in
    let name = view.name c.args.name.now in
    let m = find name.bytes in
    let n = is_array m || c.args.needed in
    let address = view.expr c.in-Word.address.value in
    let part = view.select c.in-Word.part.value in
    let f = further_is d find c.args.fixed c.args.needed name c.in-Word.bracket address part (subst (λ x. IsSelectable d find c.args.fixed c.args.needed name (view.select x)) c.in-Word.is c.requires) in
    let a : AddsExpression (draft c.args.builder.now) (draft c.operand-in-Word.new.builder) (typed address find n).expression (1 + expr_depth address) =
    subst (λ x. AddsExpression (draft c.args.builder.now) (draft c.operand-in-Word.new.builder) (typed (view.expr x) find n).expression (1 + expr_depth (view.expr x))) c.deref-in-Word.ensures
    (subst (λ k. AddsExpression (draft c.args.builder.now) (draft c.operand-in-Word.new.builder) (typed (view.expr c.deref-in-Word.result.now) find k).expression (1 + expr_depth (view.expr c.deref-in-Word.result.now))) c.index_needed-in-Word.ensures c.in_ok-operand-in-Word.ensures)
    in
    let k = takable_after (draft c.args.builder.now) (draft c.operand-in-Word.new.builder) (typed address find n).expression (1 + expr_depth address) find c.args.needed f.words.range part a f.takable in
    let there : IsTakable (home (draft c.operand-in-Word.new.builder)) find c.args.needed f.words.range (view.select c.deref-in-Word-2.result.now) = subst (λ x. IsTakable (home (draft c.operand-in-Word.new.builder)) find c.args.needed f.words.range (view.select x)) (sym c.deref-in-Word-2.ensures) k in
    let b : AddsExpression (draft c.operand-in-Word.new.builder) (draft c.bits_taken.new.builder) (taken_by (Some f.words.range) part find c.args.needed).index (select_depth part) =
    subst (λ x. AddsExpression (draft c.operand-in-Word.new.builder) (draft c.bits_taken.new.builder) (taken_by (Some f.words.range) (view.select x) find c.args.needed).index (select_depth (view.select x))) c.deref-in-Word-2.ensures (c.in_ok-bits-in-Word.ensures.adds f.words.range there)
    in
    let l = looked_up d find c.args.needed m address part (selected_by (tree.OfWord c.in-Word.bracket address part) name find c.args.fixed c.args.needed) f c.in_ok-m-in-Word.m.0 c.in_ok-m-in-Word.m.1 c.in_ok-bits-in-Word.bits.0 c.in_ok-bits-in-Word.bits.1
    (ap (λ x. memory_of m (expr_place (view.expr x)) (constant (view.expr x) find)) (sym c.deref-in-Word-3.ensures) ∙ c.in_ok-m-in-Word.ensures.number) (c.in_ok-m-in-Word.ensures.range f.words.memory f.words.is)
    (ap (λ x. (taken_by (Some f.words.range) (view.select x) find c.args.needed).part) (sym c.deref-in-Word-2.ensures) ∙ c.in_ok-bits-in-Word.ensures.part f.words.range there)
    in
    subst (λ x. OnOk c.word_part.result (AddsExpression (draft c.args.builder.now) (draft c.word_part.new.self) (begins_at c.args.at (selected_by (view.select x) name find c.args.fixed c.args.needed).expression) (1 + select_depth (view.select x)))) (sym c.in-Word.is)
    (further_arm c.word_part.result d find c.args.needed m address part (selected_by (tree.OfWord c.in-Word.bracket address part) name find c.args.fixed c.args.needed) f c.in_ok-m-in-Word.m.0 c.in_ok-m-in-Word.m.1 c.in_ok-bits-in-Word.bits.0 c.in_ok-bits-in-Word.bits.1
    (draft c.args.builder.now) (draft c.operand-in-Word.new.builder) (draft c.bits_taken.new.builder) (draft c.word_part.new.self) c.args.at refl l a b c.word_part.ensures)

pub bits_taken-operand-requires : goal.bits_taken-operand-requires
bits_taken-operand-requires g t c κs within =
    let find = g.E.Env.names c.args.env.now in
    let d = home (draft c.args.builder.now) in
    let k = subst (λ x. IsTakable d find c.args.needed c.requires.0 (view.select x)) c.in-Bit.is c.requires.1 in
    (search (rules, the_lemmas), (within, child d find c.args.needed c.deref.result.now c.in-Bit.index.value c.deref.ensures (index_parts d find c.args.needed c.requires.0 c.in-Bit.bracket (view.expr c.in-Bit.index.value) k)))

pub bits_taken-returns-in_ok-operand-in-Bit-clause-adds : goal.bits_taken-returns-in_ok-operand-in-Bit-clause-adds
bits_taken-returns-in_ok-operand-in-Bit-clause-adds g t c r k =
    let find = g.E.Env.names c.args.env.now in
    subst (λ x. AddsExpression (draft c.args.builder.now) (draft c.operand.new.builder) (taken_by (Some r) (view.select x) find c.args.needed).index (select_depth (view.select x))) (sym c.in-Bit.is)
    (subst (λ x. AddsExpression (draft c.args.builder.now) (draft c.operand.new.builder) (typed (view.expr x) find c.args.needed).expression (1 + expr_depth (view.expr x))) c.deref.ensures c.in_ok-operand-in-Bit.ensures)

pub bits_taken-returns-in_ok-operand-in-Bit-clause-part : goal.bits_taken-returns-in_ok-operand-in-Bit-clause-part
bits_taken-returns-in_ok-operand-in-Bit-clause-part g t c r k = ap (λ x. (taken_by (Some r) (view.select x) (g.E.Env.names c.args.env.now) c.args.needed).part) c.in-Bit.is

pub bits_taken-number_within-requires : goal.bits_taken-number_within-requires
bits_taken-number_within-requires g t c =
    let find = g.E.Env.names c.args.env.now in
    let d = home (draft c.args.builder.now) in
    let left = view.expr c.in-Slice.left.value in
    let right = view.expr c.in-Slice.right.value in
    let k = subst (λ x. IsTakable d find c.args.needed c.requires.0 (tree.Slice c.in-Slice.bracket (view.slice_kind x) left right)) c.in-Upward.is (subst (λ x. IsTakable d find c.args.needed c.requires.0 (view.select x)) c.in-Slice.is c.requires.1) in
    subst (λ x. IsWithin 1 64 (steady find) (view.expr x)) (sym c.deref-in-Upward.ensures) (moving_parts d find c.args.needed c.requires.0 true c.in-Slice.bracket tree.Upward left right refl k).width

pub bits_taken-operand-requires-in-Upward : goal.bits_taken-operand-requires-in-Upward
bits_taken-operand-requires-in-Upward g t c κs within =
    let find = g.E.Env.names c.args.env.now in
    let d = home (draft c.args.builder.now) in
    let left = view.expr c.in-Slice.left.value in
    let right = view.expr c.in-Slice.right.value in
    let k = subst (λ x. IsTakable d find c.args.needed c.requires.0 (tree.Slice c.in-Slice.bracket (view.slice_kind x) left right)) c.in-Upward.is (subst (λ x. IsTakable d find c.args.needed c.requires.0 (view.select x)) c.in-Slice.is c.requires.1) in
    (search (rules, the_lemmas), (within, child d find c.args.needed c.deref-in-Upward-2.result.now c.in-Slice.left.value c.deref-in-Upward-2.ensures (moving_parts d find c.args.needed c.requires.0 true c.in-Slice.bracket tree.Upward left right refl k).index))

pub bits_taken-returns-in_ok-operand-in-Upward-clause-adds : goal.bits_taken-returns-in_ok-operand-in-Upward-clause-adds
bits_taken-returns-in_ok-operand-in-Upward-clause-adds g t c r k =
    let find = g.E.Env.names c.args.env.now in
    let d = home (draft c.args.builder.now) in
    let left = view.expr c.in-Slice.left.value in
    let right = view.expr c.in-Slice.right.value in
    let n : (natural 1 64 (expr_place right) (constant right (steady find))).number ≡ Some c.in_ok-width-in-Upward.width = subst (λ x. (natural 1 64 (expr_place (view.expr x)) (constant (view.expr x) (steady find))).number ≡ Some c.in_ok-width-in-Upward.width) c.deref-in-Upward.ensures c.in_ok-width-in-Upward.ensures in
    let fs = (typed left find c.args.needed).faults ++ (natural 1 64 (expr_place right) (typed right (steady find) true)).faults in
    let is = moving_bits find c.args.needed r true c.in-Slice.bracket tree.Upward left right c.in_ok-width-in-Upward.width refl n in
    let x = view.select c.args.part.now in
    let index = taken_index (taken_by (Some r) x find c.args.needed) r true c.in_ok-width-in-Upward.width (typed left find c.args.needed) fs (ap (λ x. taken_by (Some r) (view.select x) find c.args.needed) c.in-Slice.is ∙ ap (λ x. taken_by (Some r) (tree.Slice c.in-Slice.bracket (view.slice_kind x) left right) find c.args.needed) c.in-Upward.is ∙ is) in
    let a = subst (λ x. AddsExpression (draft c.args.builder.now) (draft c.operand-in-Upward.new.builder) (typed (view.expr x) find c.args.needed).expression (1 + expr_depth (view.expr x))) c.deref-in-Upward-2.ensures c.in_ok-operand-in-Upward.ensures in
    let deep : 1 + expr_depth left ≤ select_depth x = subst (λ z. 1 + expr_depth left ≤ select_depth (view.select z)) (sym c.in-Slice.is) (omega arith) in
    subst (λ z. AddsExpression (draft c.args.builder.now) (draft c.operand-in-Upward.new.builder) z (select_depth x)) (sym index) (up_to (draft c.args.builder.now) (draft c.operand-in-Upward.new.builder) (typed left find c.args.needed).expression (1 + expr_depth left) (select_depth x) a deep)

pub bits_taken-returns-in_ok-operand-in-Upward-clause-part : goal.bits_taken-returns-in_ok-operand-in-Upward-clause-part
bits_taken-returns-in_ok-operand-in-Upward-clause-part g t c r k =
    let find = g.E.Env.names c.args.env.now in
    let d = home (draft c.args.builder.now) in
    let left = view.expr c.in-Slice.left.value in
    let right = view.expr c.in-Slice.right.value in
    let n : (natural 1 64 (expr_place right) (constant right (steady find))).number ≡ Some c.in_ok-width-in-Upward.width = subst (λ x. (natural 1 64 (expr_place (view.expr x)) (constant (view.expr x) (steady find))).number ≡ Some c.in_ok-width-in-Upward.width) c.deref-in-Upward.ensures c.in_ok-width-in-Upward.ensures in
    let fs = (typed left find c.args.needed).faults ++ (natural 1 64 (expr_place right) (typed right (steady find) true)).faults in
    let is = moving_bits find c.args.needed r true c.in-Slice.bracket tree.Upward left right c.in_ok-width-in-Upward.width refl n in
    taken_part (taken_by (Some r) (view.select c.args.part.now) find c.args.needed) r true c.in_ok-width-in-Upward.width (typed left find c.args.needed) fs (ap (λ x. taken_by (Some r) (view.select x) find c.args.needed) c.in-Slice.is ∙ ap (λ x. taken_by (Some r) (tree.Slice c.in-Slice.bracket (view.slice_kind x) left right) find c.args.needed) c.in-Upward.is ∙ is)

pub bits_taken-number_within-requires-in-Downward : goal.bits_taken-number_within-requires-in-Downward
bits_taken-number_within-requires-in-Downward g t c =
    let find = g.E.Env.names c.args.env.now in
    let d = home (draft c.args.builder.now) in
    let left = view.expr c.in-Slice.left.value in
    let right = view.expr c.in-Slice.right.value in
    let k = subst (λ x. IsTakable d find c.args.needed c.requires.0 (tree.Slice c.in-Slice.bracket (view.slice_kind x) left right)) c.in-Downward.is (subst (λ x. IsTakable d find c.args.needed c.requires.0 (view.select x)) c.in-Slice.is c.requires.1) in
    subst (λ x. IsWithin 1 64 (steady find) (view.expr x)) (sym c.deref-in-Downward.ensures) (moving_parts d find c.args.needed c.requires.0 false c.in-Slice.bracket tree.Downward left right refl k).width

pub bits_taken-operand-requires-in-Downward : goal.bits_taken-operand-requires-in-Downward
bits_taken-operand-requires-in-Downward g t c κs within =
    let find = g.E.Env.names c.args.env.now in
    let d = home (draft c.args.builder.now) in
    let left = view.expr c.in-Slice.left.value in
    let right = view.expr c.in-Slice.right.value in
    let k = subst (λ x. IsTakable d find c.args.needed c.requires.0 (tree.Slice c.in-Slice.bracket (view.slice_kind x) left right)) c.in-Downward.is (subst (λ x. IsTakable d find c.args.needed c.requires.0 (view.select x)) c.in-Slice.is c.requires.1) in
    (search (rules, the_lemmas), (within, child d find c.args.needed c.deref-in-Downward-2.result.now c.in-Slice.left.value c.deref-in-Downward-2.ensures (moving_parts d find c.args.needed c.requires.0 false c.in-Slice.bracket tree.Downward left right refl k).index))

pub bits_taken-returns-in_ok-operand-in-Downward-clause-adds : goal.bits_taken-returns-in_ok-operand-in-Downward-clause-adds
bits_taken-returns-in_ok-operand-in-Downward-clause-adds g t c r k =
    let find = g.E.Env.names c.args.env.now in
    let d = home (draft c.args.builder.now) in
    let left = view.expr c.in-Slice.left.value in
    let right = view.expr c.in-Slice.right.value in
    let n : (natural 1 64 (expr_place right) (constant right (steady find))).number ≡ Some c.in_ok-width-in-Downward.width = subst (λ x. (natural 1 64 (expr_place (view.expr x)) (constant (view.expr x) (steady find))).number ≡ Some c.in_ok-width-in-Downward.width) c.deref-in-Downward.ensures c.in_ok-width-in-Downward.ensures in
    let fs = (typed left find c.args.needed).faults ++ (natural 1 64 (expr_place right) (typed right (steady find) true)).faults in
    let is = moving_bits find c.args.needed r false c.in-Slice.bracket tree.Downward left right c.in_ok-width-in-Downward.width refl n in
    let x = view.select c.args.part.now in
    let index = taken_index (taken_by (Some r) x find c.args.needed) r false c.in_ok-width-in-Downward.width (typed left find c.args.needed) fs (ap (λ x. taken_by (Some r) (view.select x) find c.args.needed) c.in-Slice.is ∙ ap (λ x. taken_by (Some r) (tree.Slice c.in-Slice.bracket (view.slice_kind x) left right) find c.args.needed) c.in-Downward.is ∙ is) in
    let a = subst (λ x. AddsExpression (draft c.args.builder.now) (draft c.operand-in-Downward.new.builder) (typed (view.expr x) find c.args.needed).expression (1 + expr_depth (view.expr x))) c.deref-in-Downward-2.ensures c.in_ok-operand-in-Downward.ensures in
    let deep : 1 + expr_depth left ≤ select_depth x = subst (λ z. 1 + expr_depth left ≤ select_depth (view.select z)) (sym c.in-Slice.is) (omega arith) in
    subst (λ z. AddsExpression (draft c.args.builder.now) (draft c.operand-in-Downward.new.builder) z (select_depth x)) (sym index) (up_to (draft c.args.builder.now) (draft c.operand-in-Downward.new.builder) (typed left find c.args.needed).expression (1 + expr_depth left) (select_depth x) a deep)

pub bits_taken-returns-in_ok-operand-in-Downward-clause-part : goal.bits_taken-returns-in_ok-operand-in-Downward-clause-part
bits_taken-returns-in_ok-operand-in-Downward-clause-part g t c r k =
    let find = g.E.Env.names c.args.env.now in
    let d = home (draft c.args.builder.now) in
    let left = view.expr c.in-Slice.left.value in
    let right = view.expr c.in-Slice.right.value in
    let n : (natural 1 64 (expr_place right) (constant right (steady find))).number ≡ Some c.in_ok-width-in-Downward.width = subst (λ x. (natural 1 64 (expr_place (view.expr x)) (constant (view.expr x) (steady find))).number ≡ Some c.in_ok-width-in-Downward.width) c.deref-in-Downward.ensures c.in_ok-width-in-Downward.ensures in
    let fs = (typed left find c.args.needed).faults ++ (natural 1 64 (expr_place right) (typed right (steady find) true)).faults in
    let is = moving_bits find c.args.needed r false c.in-Slice.bracket tree.Downward left right c.in_ok-width-in-Downward.width refl n in
    taken_part (taken_by (Some r) (view.select c.args.part.now) find c.args.needed) r false c.in_ok-width-in-Downward.width (typed left find c.args.needed) fs (ap (λ x. taken_by (Some r) (view.select x) find c.args.needed) c.in-Slice.is ∙ ap (λ x. taken_by (Some r) (tree.Slice c.in-Slice.bracket (view.slice_kind x) left right) find c.args.needed) c.in-Downward.is ∙ is)

pub bits_taken-bounds_of-requires : goal.bits_taken-bounds_of-requires
bits_taken-bounds_of-requires g t c =
    let find = g.E.Env.names c.args.env.now in
    let d = home (draft c.args.builder.now) in
    let left = view.expr c.in-Slice.left.value in
    let right = view.expr c.in-Slice.right.value in
    let k = subst (λ x. IsTakable d find c.args.needed c.requires.0 (tree.Slice c.in-Slice.bracket (view.slice_kind x) left right)) c.in-Between.is (subst (λ x. IsTakable d find c.args.needed c.requires.0 (view.select x)) c.in-Slice.is c.requires.1) in
    subst (λ x. AreBounds (steady find) (view.expr x) (view.expr c.deref-in-Between-2.result.now)) (sym c.deref-in-Between.ensures)
    (subst (λ x. AreBounds (steady find) left (view.expr x)) (sym c.deref-in-Between-2.ensures) (between_parts d find c.args.needed c.requires.0 c.in-Slice.bracket left right k).bounds_are)

pub bits_taken-returns-in_ok-literal-in-Between-clause-adds : goal.bits_taken-returns-in_ok-literal-in-Between-clause-adds
bits_taken-returns-in_ok-literal-in-Between-clause-adds g t c r h =
    let find = g.E.Env.names c.args.env.now in
    let d = home (draft c.args.builder.now) in
    let left = view.expr c.in-Slice.left.value in
    let right = view.expr c.in-Slice.right.value in
    let k = subst (λ x. IsTakable d find c.args.needed r (tree.Slice c.in-Slice.bracket (view.slice_kind x) left right)) c.in-Between.is (subst (λ x. IsTakable d find c.args.needed r (view.select x)) c.in-Slice.is h) in
    let q = c.in_ok-bounds-in-Between.bounds in
    let of : IsRangeOf (steady find) left right q = subst (λ x. IsRangeOf (steady find) (view.expr x) right q) c.deref-in-Between.ensures (subst (λ x. IsRangeOf (steady find) (view.expr c.deref-in-Between.result.now) (view.expr x) q) c.deref-in-Between-2.ensures c.in_ok-bounds-in-Between.ensures.range) in
    let fs = (bounds c.in-Slice.bracket (expr_place left) (typed left (steady find) true) (expr_place right) (typed right (steady find) true)).faults in
    let is = between_bits d find c.args.needed r q c.in-Slice.bracket left right k of in
    let all : taken_by (Some r) (view.select c.args.part.now) find c.args.needed ≡ taken (Some r) true (range_length q) (lesser_bound (expr_place left) q) fs =
    ap (λ x. taken_by (Some r) (view.select x) find c.args.needed) c.in-Slice.is ∙ ap (λ x. taken_by (Some r) (tree.Slice c.in-Slice.bracket (view.slice_kind x) left right) find c.args.needed) c.in-Between.is ∙ is
    in
    let x = view.select c.args.part.now in
    let index = taken_index (taken_by (Some r) x find c.args.needed) r true (range_length q) (lesser_bound (expr_place left) q) fs all in
    let a : AddsExpression (draft c.args.builder.now) (draft c.literal.new.self) (E.At (expr_place left) (E.Literal (bits_of 32 (min q.left q.right)) true true)) 1 =
    subst (λ p. AddsExpression (draft c.args.builder.now) (draft c.literal.new.self) (E.At p (E.Literal (bits_of 32 (min q.left q.right)) true true)) 1) (c.place_of.ensures ∙ ap (λ x. expr_place (view.expr x)) c.deref-in-Between-3.ensures)
    (subst (λ z. AddsExpression (draft c.args.builder.now) (draft c.literal.new.self) (E.At c.place_of.result (E.Literal z true true)) 1) (c.of_number.ensures ∙ ap (bits_of 32) c.lesser.ensures) c.in_ok-literal-in-Between.ensures)
    in
    let deep : 1 ≤ select_depth x = subst (λ z. 1 ≤ select_depth (view.select z)) (sym c.in-Slice.is) (omega arith) in
    subst (λ z. AddsExpression (draft c.args.builder.now) (draft c.literal.new.self) z (select_depth x)) (sym index) (up_to (draft c.args.builder.now) (draft c.literal.new.self) (E.At (expr_place left) (E.Literal (bits_of 32 (min q.left q.right)) true true)) 1 (select_depth x) a deep)

pub bits_taken-returns-in_ok-literal-in-Between-clause-part : goal.bits_taken-returns-in_ok-literal-in-Between-clause-part
bits_taken-returns-in_ok-literal-in-Between-clause-part g t c r h =
    let find = g.E.Env.names c.args.env.now in
    let d = home (draft c.args.builder.now) in
    let left = view.expr c.in-Slice.left.value in
    let right = view.expr c.in-Slice.right.value in
    let k = subst (λ x. IsTakable d find c.args.needed r (tree.Slice c.in-Slice.bracket (view.slice_kind x) left right)) c.in-Between.is (subst (λ x. IsTakable d find c.args.needed r (view.select x)) c.in-Slice.is h) in
    let q = c.in_ok-bounds-in-Between.bounds in
    let of : IsRangeOf (steady find) left right q = subst (λ x. IsRangeOf (steady find) (view.expr x) right q) c.deref-in-Between.ensures (subst (λ x. IsRangeOf (steady find) (view.expr c.deref-in-Between.result.now) (view.expr x) q) c.deref-in-Between-2.ensures c.in_ok-bounds-in-Between.ensures.range) in
    let fs = (bounds c.in-Slice.bracket (expr_place left) (typed left (steady find) true) (expr_place right) (typed right (steady find) true)).faults in
    let is = between_bits d find c.args.needed r q c.in-Slice.bracket left right k of in
    let all : taken_by (Some r) (view.select c.args.part.now) find c.args.needed ≡ taken (Some r) true (range_length q) (lesser_bound (expr_place left) q) fs =
    ap (λ x. taken_by (Some r) (view.select x) find c.args.needed) c.in-Slice.is ∙ ap (λ x. taken_by (Some r) (tree.Slice c.in-Slice.bracket (view.slice_kind x) left right) find c.args.needed) c.in-Between.is ∙ is
    in
    subst (λ n. (taken_by (Some r) (view.select c.args.part.now) find c.args.needed).part ≡ record { range = r; up = true; width = n }) (sym c.range_length.ensures)
    (taken_part (taken_by (Some r) (view.select c.args.part.now) find c.args.needed) r true (range_length q) (lesser_bound (expr_place left) q) fs all)
