use Rattle.std.proofs.Common.{rules, ◌≡◌, ◌+◌, ◌≤◌, ◌++◌, ◌∷◌, [], Option, Some, None, true, false, OnOk, IfOk, IfSome, length, map, max, take, refl, ap, subst, sym, ◌∙◌, arith}
use Rattle.vs_grammar.specs.Depths.{expr_depth, statement_depth, fallback_depth, statements_depth, arms_depth}
use Rattle.vs_ast.specs.Views as view
use Rattle.vs_ast.proofs.Rows.{statement_rows, arm_rows}
use Rattle.vs_ast.specs.declared.statements.Statement.{Statement, the_lemmas}
use Rattle.vs_four.specs.Logic.{BitList}
use Rattle.vs_grammar.specs.Trees as tree
use Rattle.vs_const.specs.Meanings.{Find, turning, IsFair}
use Rattle.vs_const.specs.Expressions.{constant, typed}
use Rattle.vs_elaborated.specs.Statements.{TypedStatement, scope_locals, scoped, typed_statement, given}
use Rattle.vs_bodies.specs.Bodies.{body_of}
use Rattle.vs_bodies.specs.Layers.{within}
use Rattle.vs_build.specs.Drafts.{home, Adds, AddsStatement}
use Rattle.vs_build.specs.Growth.{draft}
use Rattle.vs_build.specs.Executable.{IsExecutable, AreExecutable, AreLabels, copies, part_statements, labelled}
use Rattle.vs_build.proofs.Executed.{adds_none, adds_these, adds_both, only_trees, one_tree, one_statement, labels_of, statements_of, other_view, conditional_of, executable_after, executable_is, one_branch, one_more, ends_in_parts, block_names, for_view, loop_of, sequence_parts, sequence_arm, parts_count, each_part, part_levels, part_falls, parts_taken, parts_all, case_of_parts, choosable_after, arm_at, arms_more, arms_all, case_ends, subject_arms, subject_alone, subject_default, conditional_alone, conditional_else, case_arm, no_default, some_default, deep_default, arm_statement_falls}
use Rattle.vs_build.proofs.Lists.{fair_of}
use Rattle.vs_build.proofs.LoopFacts.{copies_none, copies_over, copies_stop, loop_is, turn_fair, TurnsBuilt, no_turn, turn_copy, one_turn, built_adds, built_count, copies_most, loop_ends, loop_arm}
use Rattle.vs_build.proofs.statements.+statements.Goals as goal

pub statement-operand-requires : goal.statement-operand-requires
statement-operand-requires g t c =
    let find = within (g.S.Surroundings.declared c.args.here.now.around.now) c.args.here.now.layers.now (g.S.Env.names c.args.here.now.around.now) in
    let body = body_of c.args.kind true (g.S.Surroundings.declared c.args.here.now.around.now) in
    (conditional_of (home (draft c.args.builder.now)) body find c.args.s.now c.in-If.place c.in-If.condition c.in-If.taken c.in-If.other c.in-If.is c.requires).test

pub statement-statement-requires : goal.statement-statement-requires
statement-statement-requires g t c κs within_all =
    let find = within (g.S.Surroundings.declared c.args.here.now.around.now) c.args.here.now.layers.now (g.S.Env.names c.args.here.now.around.now) in
    let body = body_of c.args.kind true (g.S.Surroundings.declared c.args.here.now.around.now) in
    (search (rules, the_lemmas), (within_all, executable_after (draft c.args.builder.now) (draft c.operand.new.builder) ((typed (view.expr c.in-If.condition) find false).expression ∷ []) [] (1 + expr_depth (view.expr c.in-If.condition)) body find (view.statement c.deref.result.now) (one_tree (draft c.args.builder.now) (draft c.operand.new.builder) (typed (view.expr c.in-If.condition) find false).expression (1 + expr_depth (view.expr c.in-If.condition)) c.in_ok-operand-in-If.ensures) (executable_is (home (draft c.args.builder.now)) body find c.deref.result.now c.in-If.taken.value c.deref.ensures (conditional_of (home (draft c.args.builder.now)) body find c.args.s.now c.in-If.place c.in-If.condition c.in-If.taken c.in-If.other c.in-If.is c.requires).first)))

pub statement-conditional-requires-clause-ends : goal.statement-conditional-requires-clause-ends
statement-conditional-requires-clause-ends g t c =
    let find = within (g.S.Surroundings.declared c.args.here.now.around.now) c.args.here.now.layers.now (g.S.Env.names c.args.here.now.around.now) in
    let body = body_of c.args.kind true (g.S.Surroundings.declared c.args.here.now.around.now) in
    ends_in_parts (draft c.args.builder.now) (draft c.statement.new.builder) ((typed (view.expr c.in-If.condition) find false).expression ∷ []) ((typed_statement (view.statement c.in-If.taken.value) body find).statement ∷ []) 254 1 1 (one_branch (draft c.args.builder.now) (draft c.operand.new.builder) (draft c.statement.new.builder) body find (view.expr c.in-If.condition) c.deref.result.now c.in-If.taken.value 254 c.deref.ensures c.in_ok-operand-in-If.ensures c.in_ok-statement-in-If.ensures (omega (arith, (conditional_of (home (draft c.args.builder.now)) body find c.args.s.now c.in-If.place c.in-If.condition c.in-If.taken c.in-If.other c.in-If.is c.requires).test.shallow)) (omega (arith, (conditional_of (home (draft c.args.builder.now)) body find c.args.s.now c.in-If.place c.in-If.condition c.in-If.taken c.in-If.other c.in-If.is c.requires).first.shallow))) (omega arith) refl refl

pub statement-statement-requires-in-Some : goal.statement-statement-requires-in-Some
statement-statement-requires-in-Some g t c κs within_all =
    let find = within (g.S.Surroundings.declared c.args.here.now.around.now) c.args.here.now.layers.now (g.S.Env.names c.args.here.now.around.now) in
    let body = body_of c.args.kind true (g.S.Surroundings.declared c.args.here.now.around.now) in
    (search (rules, the_lemmas), (within_all, executable_after (draft c.args.builder.now) (draft c.statement.new.builder) ((typed (view.expr c.in-If.condition) find false).expression ∷ []) ((typed_statement (view.statement c.in-If.taken.value) body find).statement ∷ []) 254 body find (view.statement c.deref-in-Some.result.now) (one_branch (draft c.args.builder.now) (draft c.operand.new.builder) (draft c.statement.new.builder) body find (view.expr c.in-If.condition) c.deref.result.now c.in-If.taken.value 254 c.deref.ensures c.in_ok-operand-in-If.ensures c.in_ok-statement-in-If.ensures (omega (arith, (conditional_of (home (draft c.args.builder.now)) body find c.args.s.now c.in-If.place c.in-If.condition c.in-If.taken c.in-If.other c.in-If.is c.requires).test.shallow)) (omega (arith, (conditional_of (home (draft c.args.builder.now)) body find c.args.s.now c.in-If.place c.in-If.condition c.in-If.taken c.in-If.other c.in-If.is c.requires).first.shallow))) (executable_is (home (draft c.args.builder.now)) body find c.deref-in-Some.result.now c.in-Some.other.value c.deref-in-Some.ensures ((conditional_of (home (draft c.args.builder.now)) body find c.args.s.now c.in-If.place c.in-If.condition c.in-If.taken c.in-If.other c.in-If.is c.requires).second (view.statement c.in-Some.other.value) (ap other_view c.in-Some.is)))))

pub statement-conditional-requires-in-Some-clause-ends : goal.statement-conditional-requires-in-Some-clause-ends
statement-conditional-requires-in-Some-clause-ends g t c =
    let find = within (g.S.Surroundings.declared c.args.here.now.around.now) c.args.here.now.layers.now (g.S.Env.names c.args.here.now.around.now) in
    let body = body_of c.args.kind true (g.S.Surroundings.declared c.args.here.now.around.now) in
    ends_in_parts (draft c.args.builder.now) (draft c.statement-in-Some.new.builder) (((typed (view.expr c.in-If.condition) find false).expression ∷ []) ++ []) (((typed_statement (view.statement c.in-If.taken.value) body find).statement ∷ []) ++ (typed_statement (view.statement c.in-Some.other.value) body find).statement ∷ []) 254 1 2 (one_more (draft c.args.builder.now) (draft c.statement.new.builder) (draft c.statement-in-Some.new.builder) ((typed (view.expr c.in-If.condition) find false).expression ∷ []) ((typed_statement (view.statement c.in-If.taken.value) body find).statement ∷ []) body find c.deref-in-Some.result.now c.in-Some.other.value 254 c.deref-in-Some.ensures (one_branch (draft c.args.builder.now) (draft c.operand.new.builder) (draft c.statement.new.builder) body find (view.expr c.in-If.condition) c.deref.result.now c.in-If.taken.value 254 c.deref.ensures c.in_ok-operand-in-If.ensures c.in_ok-statement-in-If.ensures (omega (arith, (conditional_of (home (draft c.args.builder.now)) body find c.args.s.now c.in-If.place c.in-If.condition c.in-If.taken c.in-If.other c.in-If.is c.requires).test.shallow)) (omega (arith, (conditional_of (home (draft c.args.builder.now)) body find c.args.s.now c.in-If.place c.in-If.condition c.in-If.taken c.in-If.other c.in-If.is c.requires).first.shallow))) c.in_ok-statement-in-Some.ensures (omega (arith, ((conditional_of (home (draft c.args.builder.now)) body find c.args.s.now c.in-If.place c.in-If.condition c.in-If.taken c.in-If.other c.in-If.is c.requires).second (view.statement c.in-Some.other.value) (ap other_view c.in-Some.is)).shallow))) (omega arith) refl refl

pub statement-returns-in-None : goal.statement-returns-in-None
statement-returns-in-None g t c =
    let find = within (g.S.Surroundings.declared c.args.here.now.around.now) c.args.here.now.layers.now (g.S.Env.names c.args.here.now.around.now) in
    let body = body_of c.args.kind true (g.S.Surroundings.declared c.args.here.now.around.now) in
    conditional_alone c.conditional.result (draft c.args.builder.now) (draft c.operand.new.builder) (draft c.statement.new.builder) (draft c.conditional.new.self) body find c.args.s.now c.deref.result.now c.in-If.place c.in-If.condition c.in-If.taken c.in-If.other c.in-If.is c.in-None.is c.deref.ensures c.in_ok-operand-in-If.ensures c.in_ok-statement-in-If.ensures c.conditional.ensures

pub statement-returns-in_ok-statement-in-Some : goal.statement-returns-in_ok-statement-in-Some
statement-returns-in_ok-statement-in-Some g t c =
    let find = within (g.S.Surroundings.declared c.args.here.now.around.now) c.args.here.now.layers.now (g.S.Env.names c.args.here.now.around.now) in
    let body = body_of c.args.kind true (g.S.Surroundings.declared c.args.here.now.around.now) in
    conditional_else c.conditional-in-Some.result (draft c.args.builder.now) (draft c.operand.new.builder) (draft c.statement.new.builder) (draft c.statement-in-Some.new.builder) (draft c.conditional-in-Some.new.self) body find c.args.s.now c.deref.result.now c.deref-in-Some.result.now c.in-If.place c.in-If.condition c.in-If.taken c.in-Some.other c.in-If.other c.in-If.is c.in-Some.is c.deref.ensures c.deref-in-Some.ensures c.in_ok-operand-in-If.ensures c.in_ok-statement-in-If.ensures c.in_ok-statement-in-Some.ensures c.conditional-in-Some.ensures

pub statement-operand-requires-in-Case : goal.statement-operand-requires-in-Case
statement-operand-requires-in-Case g t c =
    let find = within (g.S.Surroundings.declared c.args.here.now.around.now) c.args.here.now.layers.now (g.S.Env.names c.args.here.now.around.now) in
    let body = body_of c.args.kind true (g.S.Surroundings.declared c.args.here.now.around.now) in
    (case_of_parts (home (draft c.args.builder.now)) body find c.args.s.now c.in-Case.place c.in-Case.compared c.in-Case.subject c.in-Case.list c.in-Case.other c.in-Case.is c.requires).subject_is

pub statement-arms-requires : goal.statement-arms-requires
statement-arms-requires g t c κs within_all =
    let find = within (g.S.Surroundings.declared c.args.here.now.around.now) c.args.here.now.layers.now (g.S.Env.names c.args.here.now.around.now) in
    let body = body_of c.args.kind true (g.S.Surroundings.declared c.args.here.now.around.now) in
    (search (rules, arm_rows, the_lemmas), (within_all, choosable_after (draft c.args.builder.now) (draft c.operand-in-Case.new.builder) (typed (view.expr c.in-Case.subject) find false).expression (1 + expr_depth (view.expr c.in-Case.subject)) body find c.deref-in-Case.result.now c.in-Case.list.items c.deref-in-Case.ensures.value c.in_ok-operand-in-Case.ensures (case_of_parts (home (draft c.args.builder.now)) body find c.args.s.now c.in-Case.place c.in-Case.compared c.in-Case.subject c.in-Case.list c.in-Case.other c.in-Case.is c.requires).arms_are))

pub statement-case-requires-clause-ends : goal.statement-case-requires-clause-ends
statement-case-requires-clause-ends g t c =
    let find = within (g.S.Surroundings.declared c.args.here.now.around.now) c.args.here.now.layers.now (g.S.Env.names c.args.here.now.around.now) in
    let body = body_of c.args.kind true (g.S.Surroundings.declared c.args.here.now.around.now) in
    case_ends (draft c.args.builder.now) (draft c.arms.new.builder) body find (typed (view.expr c.in-Case.subject) find false).expression c.in-Case.list.items c.deref-in-None-other.result.now [] c.expression_count-first.result 0 254 c.deref-in-None-other.ensures.value (case_of_parts (home (draft c.args.builder.now)) body find c.args.s.now c.in-Case.place c.in-Case.compared c.in-Case.subject c.in-Case.list c.in-Case.other c.in-Case.is c.requires).arms_are.shaped c.expression_count-first.ensures (subject_alone (draft c.args.builder.now) (draft c.arms.new.builder) (typed (view.expr c.in-Case.subject) find false).expression (labels_of (labelled body find (view.arms c.in-Case.list.items))) (statements_of (labelled body find (view.arms c.in-Case.list.items))) 254 (subject_arms (draft c.args.builder.now) (draft c.operand-in-Case.new.builder) (draft c.arms.new.builder) body find (view.expr c.in-Case.subject) c.in-Case.list.items c.deref-in-Case.result.now 254 c.deref-in-Case.ensures.value c.in_ok-operand-in-Case.ensures c.in_ok-arms-in-Case.ensures (omega (arith, (case_of_parts (home (draft c.args.builder.now)) body find c.args.s.now c.in-Case.place c.in-Case.compared c.in-Case.subject c.in-Case.list c.in-Case.other c.in-Case.is c.requires).subject_is.shallow)) (omega (arith, (case_of_parts (home (draft c.args.builder.now)) body find c.args.s.now c.in-Case.place c.in-Case.compared c.in-Case.subject c.in-Case.list c.in-Case.other c.in-Case.is c.requires).arms_are.shallow)))) refl (omega arith)

pub statement-statement-requires-in-Some-other : goal.statement-statement-requires-in-Some-other
statement-statement-requires-in-Some-other g t c κs within_all =
    let find = within (g.S.Surroundings.declared c.args.here.now.around.now) c.args.here.now.layers.now (g.S.Env.names c.args.here.now.around.now) in
    let body = body_of c.args.kind true (g.S.Surroundings.declared c.args.here.now.around.now) in
    (search (rules, arm_rows, the_lemmas), (within_all, executable_after (draft c.args.builder.now) (draft c.arms.new.builder) ((typed (view.expr c.in-Case.subject) find false).expression ∷ (labels_of (labelled body find (view.arms c.in-Case.list.items)))) (statements_of (labelled body find (view.arms c.in-Case.list.items))) 254 body find (view.statement c.deref-in-Some-other.result.now) (subject_arms (draft c.args.builder.now) (draft c.operand-in-Case.new.builder) (draft c.arms.new.builder) body find (view.expr c.in-Case.subject) c.in-Case.list.items c.deref-in-Case.result.now 254 c.deref-in-Case.ensures.value c.in_ok-operand-in-Case.ensures c.in_ok-arms-in-Case.ensures (omega (arith, (case_of_parts (home (draft c.args.builder.now)) body find c.args.s.now c.in-Case.place c.in-Case.compared c.in-Case.subject c.in-Case.list c.in-Case.other c.in-Case.is c.requires).subject_is.shallow)) (omega (arith, (case_of_parts (home (draft c.args.builder.now)) body find c.args.s.now c.in-Case.place c.in-Case.compared c.in-Case.subject c.in-Case.list c.in-Case.other c.in-Case.is c.requires).arms_are.shallow))) (executable_is (home (draft c.args.builder.now)) body find c.deref-in-Some-other.result.now c.in-Some-other.other.value c.deref-in-Some-other.ensures ((case_of_parts (home (draft c.args.builder.now)) body find c.args.s.now c.in-Case.place c.in-Case.compared c.in-Case.subject c.in-Case.list c.in-Case.other c.in-Case.is c.requires).second (view.statement c.in-Some-other.other.value) (ap other_view c.in-Some-other.is)))))

pub statement-case-requires-in-Some-other-clause-ends : goal.statement-case-requires-in-Some-other-clause-ends
statement-case-requires-in-Some-other-clause-ends g t c =
    let find = within (g.S.Surroundings.declared c.args.here.now.around.now) c.args.here.now.layers.now (g.S.Env.names c.args.here.now.around.now) in
    let body = body_of c.args.kind true (g.S.Surroundings.declared c.args.here.now.around.now) in
    case_ends (draft c.args.builder.now) (draft c.statement-in-Some-other.new.builder) body find (typed (view.expr c.in-Case.subject) find false).expression c.in-Case.list.items c.deref-in-Some-other-2.result.now ((typed_statement (view.statement c.in-Some-other.other.value) body find).statement ∷ []) c.expression_count-first.result 1 254 c.deref-in-Some-other-2.ensures.value (case_of_parts (home (draft c.args.builder.now)) body find c.args.s.now c.in-Case.place c.in-Case.compared c.in-Case.subject c.in-Case.list c.in-Case.other c.in-Case.is c.requires).arms_are.shaped c.expression_count-first.ensures (subject_default (draft c.args.builder.now) (draft c.arms.new.builder) (draft c.statement-in-Some-other.new.builder) (typed (view.expr c.in-Case.subject) find false).expression (labels_of (labelled body find (view.arms c.in-Case.list.items))) (statements_of (labelled body find (view.arms c.in-Case.list.items))) body find c.deref-in-Some-other.result.now c.in-Some-other.other.value 254 c.deref-in-Some-other.ensures (subject_arms (draft c.args.builder.now) (draft c.operand-in-Case.new.builder) (draft c.arms.new.builder) body find (view.expr c.in-Case.subject) c.in-Case.list.items c.deref-in-Case.result.now 254 c.deref-in-Case.ensures.value c.in_ok-operand-in-Case.ensures c.in_ok-arms-in-Case.ensures (omega (arith, (case_of_parts (home (draft c.args.builder.now)) body find c.args.s.now c.in-Case.place c.in-Case.compared c.in-Case.subject c.in-Case.list c.in-Case.other c.in-Case.is c.requires).subject_is.shallow)) (omega (arith, (case_of_parts (home (draft c.args.builder.now)) body find c.args.s.now c.in-Case.place c.in-Case.compared c.in-Case.subject c.in-Case.list c.in-Case.other c.in-Case.is c.requires).arms_are.shallow))) c.in_ok-statement-in-Some-other.ensures (omega (arith, ((case_of_parts (home (draft c.args.builder.now)) body find c.args.s.now c.in-Case.place c.in-Case.compared c.in-Case.subject c.in-Case.list c.in-Case.other c.in-Case.is c.requires).second (view.statement c.in-Some-other.other.value) (ap other_view c.in-Some-other.is)).shallow))) refl (omega arith)

pub statement-returns-in-None-other : goal.statement-returns-in-None-other
statement-returns-in-None-other g t c =
    let find = within (g.S.Surroundings.declared c.args.here.now.around.now) c.args.here.now.layers.now (g.S.Env.names c.args.here.now.around.now) in
    let body = body_of c.args.kind true (g.S.Surroundings.declared c.args.here.now.around.now) in
    case_arm c.case.result (draft c.args.builder.now) (draft c.arms.new.builder) (draft c.case.new.self) body find c.args.s.now c.in-Case.place c.in-Case.compared c.in-Case.subject c.in-Case.list c.deref-in-None-other.result.now c.in-Case.other None 0 c.in-Case.is c.deref-in-None-other.ensures.value (no_default body find c.in-Case.other c.in-None-other.is) refl
    (subject_alone (draft c.args.builder.now) (draft c.arms.new.builder) (typed (view.expr c.in-Case.subject) find false).expression (labels_of (labelled body find (view.arms c.in-Case.list.items))) (statements_of (labelled body find (view.arms c.in-Case.list.items))) (1 + max (expr_depth (view.expr c.in-Case.subject)) (max (arms_depth (view.arms c.in-Case.list.items)) (fallback_depth (other_view c.in-Case.other)))) (subject_arms (draft c.args.builder.now) (draft c.operand-in-Case.new.builder) (draft c.arms.new.builder) body find (view.expr c.in-Case.subject) c.in-Case.list.items c.deref-in-Case.result.now (1 + max (expr_depth (view.expr c.in-Case.subject)) (max (arms_depth (view.arms c.in-Case.list.items)) (fallback_depth (other_view c.in-Case.other)))) c.deref-in-Case.ensures.value c.in_ok-operand-in-Case.ensures c.in_ok-arms-in-Case.ensures (omega arith) (omega arith))) c.case.ensures

pub statement-returns-in_ok-statement-in-Some-other : goal.statement-returns-in_ok-statement-in-Some-other
statement-returns-in_ok-statement-in-Some-other g t c =
    let find = within (g.S.Surroundings.declared c.args.here.now.around.now) c.args.here.now.layers.now (g.S.Env.names c.args.here.now.around.now) in
    let body = body_of c.args.kind true (g.S.Surroundings.declared c.args.here.now.around.now) in
    case_arm c.case-in-Some-other.result (draft c.args.builder.now) (draft c.statement-in-Some-other.new.builder) (draft c.case-in-Some-other.new.self) body find c.args.s.now c.in-Case.place c.in-Case.compared c.in-Case.subject c.in-Case.list c.deref-in-Some-other-2.result.now c.in-Case.other (Some (typed_statement (view.statement c.in-Some-other.other.value) body find).statement) 1 c.in-Case.is c.deref-in-Some-other-2.ensures.value (some_default body find c.in-Case.other c.in-Some-other.other c.in-Some-other.is) refl
    (subject_default (draft c.args.builder.now) (draft c.arms.new.builder) (draft c.statement-in-Some-other.new.builder) (typed (view.expr c.in-Case.subject) find false).expression (labels_of (labelled body find (view.arms c.in-Case.list.items))) (statements_of (labelled body find (view.arms c.in-Case.list.items))) body find c.deref-in-Some-other.result.now c.in-Some-other.other.value (1 + max (expr_depth (view.expr c.in-Case.subject)) (max (arms_depth (view.arms c.in-Case.list.items)) (fallback_depth (other_view c.in-Case.other)))) c.deref-in-Some-other.ensures (subject_arms (draft c.args.builder.now) (draft c.operand-in-Case.new.builder) (draft c.arms.new.builder) body find (view.expr c.in-Case.subject) c.in-Case.list.items c.deref-in-Case.result.now (1 + max (expr_depth (view.expr c.in-Case.subject)) (max (arms_depth (view.arms c.in-Case.list.items)) (fallback_depth (other_view c.in-Case.other)))) c.deref-in-Case.ensures.value c.in_ok-operand-in-Case.ensures c.in_ok-arms-in-Case.ensures (omega arith) (omega arith)) c.in_ok-statement-in-Some-other.ensures (omega (arith, deep_default c.in-Case.other c.in-Some-other.other c.in-Some-other.is))) c.case-in-Some-other.ensures

pub statement-parts-requires : goal.statement-parts-requires
statement-parts-requires g t c κs within_all =
    let find = within (g.S.Surroundings.declared c.args.here.now.around.now) c.args.here.now.layers.now (g.S.Env.names c.args.here.now.around.now) in
    let body = body_of c.args.kind true (g.S.Surroundings.declared c.args.here.now.around.now) in
    let are = sequence_parts (home (draft c.args.builder.now)) body find c.args.s.now c.in-Sequence.place c.in-Sequence.scope c.in-Sequence.list c.deref-in-None-scope.result.now c.in-Sequence.is c.deref-in-None-scope.ensures.value c.requires in
    (search (rules, statement_rows, the_lemmas), (within_all, subst (λ o. AreExecutable (home (draft c.args.builder.now)) body (block_names body o find) (view.statements c.deref-in-None-scope.result.now)) c.in-None-scope.is are))

pub statement-named_parts-requires : goal.statement-named_parts-requires
statement-named_parts-requires g t c κs within_all =
    let find = within (g.S.Surroundings.declared c.args.here.now.around.now) c.args.here.now.layers.now (g.S.Env.names c.args.here.now.around.now) in
    let body = body_of c.args.kind true (g.S.Surroundings.declared c.args.here.now.around.now) in
    let are = sequence_parts (home (draft c.args.builder.now)) body find c.args.s.now c.in-Sequence.place c.in-Sequence.scope c.in-Sequence.list c.deref-in-Some-scope.result.now c.in-Sequence.is c.deref-in-Some-scope.ensures.value c.requires in
    (search (rules, statement_rows, the_lemmas), (within_all, subst (λ o. AreExecutable (home (draft c.args.builder.now)) body (block_names body o find) (view.statements c.deref-in-Some-scope.result.now)) c.in-Some-scope.is are))

pub statement-sequence-requires : goal.statement-sequence-requires
statement-sequence-requires g t c =
    let find = within (g.S.Surroundings.declared c.args.here.now.around.now) c.args.here.now.layers.now (g.S.Env.names c.args.here.now.around.now) in
    let body = body_of c.args.kind true (g.S.Surroundings.declared c.args.here.now.around.now) in
    let are = subst (λ o. AreExecutable (home (draft c.args.builder.now)) body (block_names body o find) (view.statements c.deref-in-None-scope.result.now)) c.in-None-scope.is (sequence_parts (home (draft c.args.builder.now)) body find c.args.s.now c.in-Sequence.place c.in-Sequence.scope c.in-Sequence.list c.deref-in-None-scope.result.now c.in-Sequence.is c.deref-in-None-scope.ensures.value c.requires) in
    let n : c.len.result ≡ length c.in-Sequence.list.items = search rules in
    ends_in_parts (draft c.args.builder.now) (draft c.parts.new.builder) [] (part_statements body (block_names body None find) c.deref-in-None-scope.result.now) (1 + statements_depth (view.statements c.deref-in-None-scope.result.now)) 0 c.len.result c.in_ok-parts-in-None-scope.ensures (omega (arith, are.shallow)) refl
    (parts_count body (block_names body None find) c.deref-in-None-scope.result.now ∙ ap length c.deref-in-None-scope.ensures.value ∙ sym n)

pub statement-returns-in_ok-parts-in-None-scope : goal.statement-returns-in_ok-parts-in-None-scope
statement-returns-in_ok-parts-in-None-scope g t c =
    let find = within (g.S.Surroundings.declared c.args.here.now.around.now) c.args.here.now.layers.now (g.S.Env.names c.args.here.now.around.now) in
    let body = body_of c.args.kind true (g.S.Surroundings.declared c.args.here.now.around.now) in
    let n : c.len.result ≡ length c.in-Sequence.list.items = search rules in
    sequence_arm c.sequence.result (draft c.args.builder.now) (draft c.parts.new.builder) (draft c.sequence.new.self) body find c.args.s.now c.in-Sequence.place c.len.result c.in-Sequence.scope c.in-Sequence.list c.deref-in-None-scope.result.now c.in-Sequence.is c.deref-in-None-scope.ensures.value n
    (subst (λ o. Adds (draft c.args.builder.now) (draft c.parts.new.builder) [] (part_statements body (block_names body o find) c.deref-in-None-scope.result.now) (1 + statements_depth (view.statements c.deref-in-None-scope.result.now))) (sym c.in-None-scope.is) c.in_ok-parts-in-None-scope.ensures) c.sequence.ensures

pub statement-sequence-requires-in-Some-scope : goal.statement-sequence-requires-in-Some-scope
statement-sequence-requires-in-Some-scope g t c =
    let find = within (g.S.Surroundings.declared c.args.here.now.around.now) c.args.here.now.layers.now (g.S.Env.names c.args.here.now.around.now) in
    let body = body_of c.args.kind true (g.S.Surroundings.declared c.args.here.now.around.now) in
    let are = subst (λ o. AreExecutable (home (draft c.args.builder.now)) body (block_names body o find) (view.statements c.deref-in-Some-scope.result.now)) c.in-Some-scope.is (sequence_parts (home (draft c.args.builder.now)) body find c.args.s.now c.in-Sequence.place c.in-Sequence.scope c.in-Sequence.list c.deref-in-Some-scope.result.now c.in-Sequence.is c.deref-in-Some-scope.ensures.value c.requires) in
    let n : c.len-in-Some-scope.result ≡ length c.in-Sequence.list.items = search rules in
    ends_in_parts (draft c.args.builder.now) (draft c.named_parts.new.builder) [] (part_statements body (block_names body (Some c.in-Some-scope.scope) find) c.deref-in-Some-scope.result.now) (1 + statements_depth (view.statements c.deref-in-Some-scope.result.now)) 0 c.len-in-Some-scope.result c.in_ok-named_parts-in-Some-scope.ensures (omega (arith, are.shallow)) refl
    (parts_count body (block_names body (Some c.in-Some-scope.scope) find) c.deref-in-Some-scope.result.now ∙ ap length c.deref-in-Some-scope.ensures.value ∙ sym n)

pub statement-returns-in_ok-named_parts-in-Some-scope : goal.statement-returns-in_ok-named_parts-in-Some-scope
statement-returns-in_ok-named_parts-in-Some-scope g t c =
    let find = within (g.S.Surroundings.declared c.args.here.now.around.now) c.args.here.now.layers.now (g.S.Env.names c.args.here.now.around.now) in
    let body = body_of c.args.kind true (g.S.Surroundings.declared c.args.here.now.around.now) in
    let n : c.len-in-Some-scope.result ≡ length c.in-Sequence.list.items = search rules in
    sequence_arm c.sequence-in-Some-scope.result (draft c.args.builder.now) (draft c.named_parts.new.builder) (draft c.sequence-in-Some-scope.new.self) body find c.args.s.now c.in-Sequence.place c.len-in-Some-scope.result c.in-Sequence.scope c.in-Sequence.list c.deref-in-Some-scope.result.now c.in-Sequence.is c.deref-in-Some-scope.ensures.value n
    (subst (λ o. Adds (draft c.args.builder.now) (draft c.named_parts.new.builder) [] (part_statements body (block_names body o find) c.deref-in-Some-scope.result.now) (1 + statements_depth (view.statements c.deref-in-Some-scope.result.now))) (sym c.in-Some-scope.is) c.in_ok-named_parts-in-Some-scope.ensures) c.sequence-in-Some-scope.ensures

pub statement-overflow_add-count : goal.statement-overflow_add-count
statement-overflow_add-count g t c =
    let find = within (g.S.Surroundings.declared c.args.here.now.around.now) c.args.here.now.layers.now (g.S.Env.names c.args.here.now.around.now) in
    let body = body_of c.args.kind true (g.S.Surroundings.declared c.args.here.now.around.now) in
    let s = view.statement c.deref-in-For.result.now in
    let head = view.loop_head c.in-For.head in
    let few : c.in_ok-count-in-For.count ≤ 4096 = omega (arith, copies_most 4096 (λ inner. typed_statement s body inner) head find (given (constant head.first find)), c.in_ok-count-in-For.ensures.count) in
    search rules

pub statement-sequence-requires-in-For : goal.statement-sequence-requires-in-For
statement-sequence-requires-in-For g t c =
    let find = within (g.S.Surroundings.declared c.args.here.now.around.now) c.args.here.now.layers.now (g.S.Env.names c.args.here.now.around.now) in
    let body = body_of c.args.kind true (g.S.Surroundings.declared c.args.here.now.around.now) in
    let x = loop_of (home (draft c.args.builder.now)) body find c.args.s.now c.in-For.head c.in-For.body c.deref-in-For.result.now c.in-For.is c.deref-in-For.ensures c.requires in
    let s = view.statement c.deref-in-For.result.now in
    let head = view.loop_head c.in-For.head in
    let all = copies 4096 (λ inner. typed_statement s body inner) head find (given (constant head.first find)) in
    loop_ends (draft c.args.builder.now) (draft c.loop_turns.new.builder) (draft c.empty-in-For.new.self) all (1 + statement_depth s) c.in_ok-count-in-For.count c.in_ok-count-in-For.ensures.copies (omega arith) (omega (arith, x.shallow)) c.in_ok-empty-in-For.ensures c.in_ok-count-in-For.ensures.count

pub statement-returns-in_ok-empty-in-For : goal.statement-returns-in_ok-empty-in-For
statement-returns-in_ok-empty-in-For g t c =
    let find = within (g.S.Surroundings.declared c.args.here.now.around.now) c.args.here.now.layers.now (g.S.Env.names c.args.here.now.around.now) in
    let body = body_of c.args.kind true (g.S.Surroundings.declared c.args.here.now.around.now) in
    let x = loop_of (home (draft c.args.builder.now)) body find c.args.s.now c.in-For.head c.in-For.body c.deref-in-For.result.now c.in-For.is c.deref-in-For.ensures c.requires in
    let s = view.statement c.deref-in-For.result.now in
    let head = view.loop_head c.in-For.head in
    let same : tree.For head s ≡ view.statement c.args.s.now = ap (λ (z : Statement). tree.For head (view.statement z)) c.deref-in-For.ensures ∙ sym (ap view.statement c.in-For.is ∙ for_view c.in-For.head c.in-For.body) in
    subst (λ z. OnOk c.sequence-in-For.result (AddsStatement (draft c.args.builder.now) (draft c.sequence-in-For.new.self) (typed_statement z body find).statement (1 + statement_depth z))) same
    (loop_arm c.sequence-in-For.result (draft c.args.builder.now) (draft c.loop_turns.new.builder) (draft c.empty-in-For.new.self) (draft c.sequence-in-For.new.self) body find head s c.in_ok-count-in-For.count (loop_is (home (draft c.args.builder.now)) body find head s x) c.in_ok-count-in-For.ensures.copies c.in_ok-empty-in-For.ensures c.in_ok-count-in-For.ensures.count c.sequence-in-For.ensures)

pub parts-statement-requires : goal.parts-statement-requires
parts-statement-requires g t c κs within_all =
    let find = within (g.S.Surroundings.declared c.args.here.now.around.now) c.args.here.now.layers.now (g.S.Env.names c.args.here.now.around.now) in
    let body = body_of c.args.kind true (g.S.Surroundings.declared c.args.here.now.around.now) in
    (part_falls c.args.list.now c.loop-part.part-index c.part-item.result t (omega arith) c.part-item.is c.decreases, (within_all, executable_after (draft c.args.builder.now) (draft c.loop-part.builder) [] (part_statements body find (take c.loop-part.part-index c.args.list.now)) (1 + statements_depth (view.statements c.args.list.now)) body find (view.statement c.part-item.result) c.loop-part.invariant (each_part (home (draft c.args.builder.now)) body find c.args.list.now c.loop-part.part-index c.part-item.result c.requires (omega arith) c.part-item.is)))

pub parts-loop-part-init : goal.parts-loop-part-init
parts-loop-part-init g t c =
    adds_none (draft c.args.builder.now) (1 + statements_depth (view.statements c.args.list.now))

pub parts-loop-part-preserved : goal.parts-loop-part-preserved
parts-loop-part-preserved g t c =
    let find = within (g.S.Surroundings.declared c.args.here.now.around.now) c.args.here.now.layers.now (g.S.Env.names c.args.here.now.around.now) in
    let body = body_of c.args.kind true (g.S.Surroundings.declared c.args.here.now.around.now) in
    adds_these (draft c.args.builder.now) (draft c.statement.new.builder) [] [] _ _ (1 + statements_depth (view.statements c.args.list.now)) refl (sym (parts_taken body find c.args.list.now c.loop-part.part-index c.part-item.result (omega arith) c.part-item.is))
    (adds_both (draft c.args.builder.now) (draft c.loop-part.builder) (draft c.statement.new.builder) [] [] (part_statements body find (take c.loop-part.part-index c.args.list.now)) ((typed_statement (view.statement c.part-item.result) body find).statement ∷ []) (1 + statements_depth (view.statements c.args.list.now)) (1 + statement_depth (view.statement c.part-item.result)) (1 + statements_depth (view.statements c.args.list.now)) c.loop-part.invariant
    (one_statement (draft c.loop-part.builder) (draft c.statement.new.builder) (typed_statement (view.statement c.part-item.result) body find).statement (1 + statement_depth (view.statement c.part-item.result)) c.in_ok-statement.ensures) (omega arith) (omega (arith, part_levels c.args.list.now c.loop-part.part-index c.part-item.result (omega arith) c.part-item.is)))

pub parts-returns : goal.parts-returns
parts-returns g t c =
    let find = within (g.S.Surroundings.declared c.args.here.now.around.now) c.args.here.now.layers.now (g.S.Env.names c.args.here.now.around.now) in
    let body = body_of c.args.kind true (g.S.Surroundings.declared c.args.here.now.around.now) in
    adds_these (draft c.args.builder.now) (draft c.loop-part.builder) [] [] _ _ (1 + statements_depth (view.statements c.args.list.now)) refl (parts_all body find c.args.list.now c.loop-part.part-index (omega arith)) c.loop-part.invariant

pub arms-labels-requires : goal.arms-labels-requires
arms-labels-requires g t c =
    let find = within (g.S.Surroundings.declared c.args.here.now.around.now) c.args.here.now.layers.now (g.S.Env.names c.args.here.now.around.now) in
    let body = body_of c.args.kind true (g.S.Surroundings.declared c.args.here.now.around.now) in
    let d : home (draft c.args.builder.now) ≡ home (draft c.loop-arm.builder) = sym (ap home c.loop-arm.invariant.is) in
    subst (λ xs. AreLabels (home (draft c.loop-arm.builder)) find (map view.expr xs)) (sym c.deref.ensures.value) (subst (λ z. AreLabels z find (map view.expr c.arm-item.result.labels.items)) d (arm_at (home (draft c.args.builder.now)) body find c.args.list.now c.loop-arm.arm-index c.arm-item.result c.requires (omega arith) c.arm-item.is).labels_are)

pub arms-statement-requires : goal.arms-statement-requires
arms-statement-requires g t c κs within_all =
    let find = within (g.S.Surroundings.declared c.args.here.now.around.now) c.args.here.now.layers.now (g.S.Env.names c.args.here.now.around.now) in
    let body = body_of c.args.kind true (g.S.Surroundings.declared c.args.here.now.around.now) in (
      arm_statement_falls c.args.list.now c.loop-arm.arm-index c.arm-item.result t (omega arith) c.arm-item.is c.decreases,
      (
        within_all,
        executable_after (draft c.loop-arm.builder) (draft c.labels.new.builder) _ [] _ body find (view.statement c.arm-item.result.statement) (only_trees (draft c.loop-arm.builder) (draft c.labels.new.builder) _ _ c.in_ok-labels.ensures)
            (executable_after (draft c.args.builder.now) (draft c.loop-arm.builder) (labels_of (labelled body find (view.arms (take c.loop-arm.arm-index c.args.list.now)))) (statements_of (labelled body find (view.arms (take c.loop-arm.arm-index c.args.list.now)))) (1 + arms_depth (view.arms c.args.list.now)) body find (view.statement c.arm-item.result.statement) c.loop-arm.invariant (arm_at (home (draft c.args.builder.now)) body find c.args.list.now c.loop-arm.arm-index c.arm-item.result c.requires (omega arith) c.arm-item.is).statement_is),
      ),
    )

pub arms-loop-arm-init : goal.arms-loop-arm-init
arms-loop-arm-init g t c =
    adds_none (draft c.args.builder.now) (1 + arms_depth (view.arms c.args.list.now))

pub arms-loop-arm-preserved : goal.arms-loop-arm-preserved
arms-loop-arm-preserved g t c =
    let find = within (g.S.Surroundings.declared c.args.here.now.around.now) c.args.here.now.layers.now (g.S.Env.names c.args.here.now.around.now) in
    let body = body_of c.args.kind true (g.S.Surroundings.declared c.args.here.now.around.now) in
    arms_more (draft c.args.builder.now) (draft c.loop-arm.builder) (draft c.labels.new.builder) (draft c.statement.new.builder) body find c.args.list.now c.loop-arm.arm-index c.arm-item.result c.deref.result.now (1 + arms_depth (view.arms c.args.list.now)) c.deref.ensures.value (omega arith) c.arm-item.is (omega arith) c.loop-arm.invariant c.in_ok-labels.ensures c.in_ok-statement.ensures

pub arms-returns : goal.arms-returns
arms-returns g t c =
    let find = within (g.S.Surroundings.declared c.args.here.now.around.now) c.args.here.now.layers.now (g.S.Env.names c.args.here.now.around.now) in
    let body = body_of c.args.kind true (g.S.Surroundings.declared c.args.here.now.around.now) in
    let e = arms_all body find c.args.list.now c.loop-arm.arm-index (omega arith) in
    adds_these (draft c.args.builder.now) (draft c.loop-arm.builder) (labels_of (labelled body find (view.arms (take c.loop-arm.arm-index c.args.list.now)))) (labels_of (labelled body find (view.arms c.args.list.now))) (statements_of (labelled body find (view.arms (take c.loop-arm.arm-index c.args.list.now)))) (statements_of (labelled body find (view.arms c.args.list.now))) (1 + arms_depth (view.arms c.args.list.now)) (ap labels_of e) (ap statements_of e) c.loop-arm.invariant

pub statement-loop_turns-requires : goal.statement-loop_turns-requires
statement-loop_turns-requires g t c κs within_all =
    let find = within (g.S.Surroundings.declared c.args.here.now.around.now) c.args.here.now.layers.now (g.S.Env.names c.args.here.now.around.now) in
    let body = body_of c.args.kind true (g.S.Surroundings.declared c.args.here.now.around.now) in
    (search (rules, statement_rows, the_lemmas), (within_all, loop_of (home (draft c.args.builder.now)) body find c.args.s.now c.in-For.head c.in-For.body c.deref-in-For.result.now c.in-For.is c.deref-in-For.ensures c.requires))

pub named_parts-parts-requires : goal.named_parts-parts-requires
named_parts-parts-requires g t c κs within_all =
    let find = within (g.S.Surroundings.declared c.args.here.now.around.now) c.args.here.now.layers.now (g.S.Env.names c.args.here.now.around.now) in
    let body = body_of c.args.kind true (g.S.Surroundings.declared c.args.here.now.around.now) in
    let locals = scope_locals (Some (view.block_scope c.args.scope.now)) in
    let around : within (g.S.Surroundings.declared c.args.here.now.around.now) c.in_block-layers.result (g.S.Env.names c.args.here.now.around.now) ≡ scoped (g.S.Surroundings.declared c.args.here.now.around.now) locals find = c.in_block-layers.ensures (g.S.Surroundings.declared c.args.here.now.around.now) (g.S.Env.names c.args.here.now.around.now) locals c.in_ok-block.ensures.locals in
    (omega (arith, c.decreases), (within_all, subst (λ f. AreExecutable (home (draft c.args.builder.now)) body f (view.statements c.args.list.now)) (sym around) c.requires))

pub named_parts-returns : goal.named_parts-returns
named_parts-returns g t c =
    let find = within (g.S.Surroundings.declared c.args.here.now.around.now) c.args.here.now.layers.now (g.S.Env.names c.args.here.now.around.now) in
    let body = body_of c.args.kind true (g.S.Surroundings.declared c.args.here.now.around.now) in
    let locals = scope_locals (Some (view.block_scope c.args.scope.now)) in
    let around : within (g.S.Surroundings.declared c.args.here.now.around.now) c.in_block-layers.result (g.S.Env.names c.args.here.now.around.now) ≡ scoped (g.S.Surroundings.declared c.args.here.now.around.now) locals find = c.in_block-layers.ensures (g.S.Surroundings.declared c.args.here.now.around.now) (g.S.Env.names c.args.here.now.around.now) locals c.in_ok-block.ensures.locals in
    subst (λ f. OnOk c.parts.result (Adds (draft c.args.builder.now) (draft c.parts.new.builder) [] (part_statements body f c.args.list.now) (1 + statements_depth (view.statements c.args.list.now)))) around c.parts.ensures

pub loop_turns-value_given-requires-clause-shaped : goal.loop_turns-value_given-requires-clause-shaped
loop_turns-value_given-requires-clause-shaped g t c = c.requires.shaped.0.first

pub loop_turns-value_given-requires-clause-fair : goal.loop_turns-value_given-requires-clause-fair
loop_turns-value_given-requires-clause-fair g t c =
    let find = within (g.S.Surroundings.declared c.args.here.now.around.now) c.args.here.now.layers.now (g.S.Env.names c.args.here.now.around.now) in
    fair_of (home (draft c.args.builder.now)) false find c.requires.sound

pub loop_turns-loop-count-init : goal.loop_turns-loop-count-init
loop_turns-loop-count-init g t c =
    let find = within (g.S.Surroundings.declared c.args.here.now.around.now) c.args.here.now.layers.now (g.S.Env.names c.args.here.now.around.now) in
    let body = body_of c.args.kind true (g.S.Surroundings.declared c.args.here.now.around.now) in
    let head = view.loop_head c.args.head.now in
    let s = view.statement c.args.body.now in
    (no_turn (λ inner. typed_statement s body inner) head find (given (constant head.first find)) (draft c.args.builder.now) (1 + statement_depth s) c.in_ok-value.value c.in_ok-value.ensures.given (loop_is (home (draft c.args.builder.now)) body find head s c.requires).clean, c.in_ok-value.ensures.length)

pub loop_turns-returns-in-None-clause-copies : goal.loop_turns-returns-in-None-clause-copies
loop_turns-returns-in-None-clause-copies g t c =
    let find = within (g.S.Surroundings.declared c.args.here.now.around.now) c.args.here.now.layers.now (g.S.Env.names c.args.here.now.around.now) in
    let body = body_of c.args.kind true (g.S.Surroundings.declared c.args.here.now.around.now) in
    let head = view.loop_head c.args.head.now in
    let s = view.statement c.args.body.now in
    let copy : Find → TypedStatement = λ inner. typed_statement s body inner in
    built_adds copy head find (given (constant head.first find)) (draft c.args.builder.now) (draft c.loop-count.builder) (1 + statement_depth s) c.loop-count.count c.loop-count.value c.loop-count.invariant.0
    (ap (copies c.loop-count.invariant.0.left copy head find) c.in-None.is ∙ copies_none c.loop-count.invariant.0.left copy head find)

pub loop_turns-returns-in-None-clause-count : goal.loop_turns-returns-in-None-clause-count
loop_turns-returns-in-None-clause-count g t c =
    let find = within (g.S.Surroundings.declared c.args.here.now.around.now) c.args.here.now.layers.now (g.S.Env.names c.args.here.now.around.now) in
    let body = body_of c.args.kind true (g.S.Surroundings.declared c.args.here.now.around.now) in
    let head = view.loop_head c.args.head.now in
    let s = view.statement c.args.body.now in
    let copy : Find → TypedStatement = λ inner. typed_statement s body inner in
    built_count copy head find (given (constant head.first find)) (draft c.args.builder.now) (draft c.loop-count.builder) (1 + statement_depth s) c.loop-count.count c.loop-count.value c.loop-count.invariant.0
    (ap (copies c.loop-count.invariant.0.left copy head find) c.in-None.is ∙ copies_none c.loop-count.invariant.0.left copy head find)

pub loop_turns-goes_on-requires-clause-shaped : goal.loop_turns-goes_on-requires-clause-shaped
loop_turns-goes_on-requires-clause-shaped g t c = c.requires.shaped.0.test

pub loop_turns-goes_on-requires-clause-fair : goal.loop_turns-goes_on-requires-clause-fair
loop_turns-goes_on-requires-clause-fair g t c =
    let find = within (g.S.Surroundings.declared c.args.here.now.around.now) c.args.here.now.layers.now (g.S.Env.names c.args.here.now.around.now) in
    let body = body_of c.args.kind true (g.S.Surroundings.declared c.args.here.now.around.now) in
    (turn_fair (home (draft c.args.builder.now)) body find (view.loop_head c.args.head.now) (view.statement c.args.body.now) c.in-Some.bits (subst (λ (v : Option BitList). IfSome v (λ b. length b ≡ 32)) c.in-Some.is c.loop-count.invariant.1) c.requires).fair

pub loop_turns-returns-then-not-more-clause-copies : goal.loop_turns-returns-then-not-more-clause-copies
loop_turns-returns-then-not-more-clause-copies g t c =
    let find = within (g.S.Surroundings.declared c.args.here.now.around.now) c.args.here.now.layers.now (g.S.Env.names c.args.here.now.around.now) in
    let body = body_of c.args.kind true (g.S.Surroundings.declared c.args.here.now.around.now) in
    let head = view.loop_head c.args.head.now in
    let s = view.statement c.args.body.now in
    let copy : Find → TypedStatement = λ inner. typed_statement s body inner in
    built_adds copy head find (given (constant head.first find)) (draft c.args.builder.now) (draft c.loop-count.builder) (1 + statement_depth s) c.loop-count.count c.loop-count.value c.loop-count.invariant.0
    (ap (copies c.loop-count.invariant.0.left copy head find) c.in-Some.is ∙ copies_stop c.loop-count.invariant.0.left copy head find c.in-Some.bits (sym c.in_ok-more-in-Some.ensures ∙ c.if-not-more.true))

pub loop_turns-returns-then-not-more-clause-count : goal.loop_turns-returns-then-not-more-clause-count
loop_turns-returns-then-not-more-clause-count g t c =
    let find = within (g.S.Surroundings.declared c.args.here.now.around.now) c.args.here.now.layers.now (g.S.Env.names c.args.here.now.around.now) in
    let body = body_of c.args.kind true (g.S.Surroundings.declared c.args.here.now.around.now) in
    let head = view.loop_head c.args.head.now in
    let s = view.statement c.args.body.now in
    let copy : Find → TypedStatement = λ inner. typed_statement s body inner in
    built_count copy head find (given (constant head.first find)) (draft c.args.builder.now) (draft c.loop-count.builder) (1 + statement_depth s) c.loop-count.count c.loop-count.value c.loop-count.invariant.0
    (ap (copies c.loop-count.invariant.0.left copy head find) c.in-Some.is ∙ copies_stop c.loop-count.invariant.0.left copy head find c.in-Some.bits (sym c.in_ok-more-in-Some.ensures ∙ c.if-not-more.true))

pub loop_turns-turn-requires : goal.loop_turns-turn-requires
loop_turns-turn-requires g t c κs within_all =
    let find = within (g.S.Surroundings.declared c.args.here.now.around.now) c.args.here.now.layers.now (g.S.Env.names c.args.here.now.around.now) in
    let body = body_of c.args.kind true (g.S.Surroundings.declared c.args.here.now.around.now) in
    let head = view.loop_head c.args.head.now in
    let s = view.statement c.args.body.now in
    let copy : Find → TypedStatement = λ inner. typed_statement s body inner in
    let first = given (constant head.first find) in
    let word = subst (λ (v : Option BitList). IfSome v (λ b. length b ≡ 32)) c.in-Some.is c.loop-count.invariant.1 in
    let before = subst (λ (v : Option BitList). TurnsBuilt copy head find first (draft c.args.builder.now) (draft c.loop-count.builder) (1 + statement_depth s) c.loop-count.count v) c.in-Some.is c.loop-count.invariant.0 in
    let more = sym c.in_ok-more-in-Some.ensures ∙ c.if-not-more.false in
    let here = turn_copy (home (draft c.args.builder.now)) body find head s first (draft c.args.builder.now) (draft c.loop-count.builder) (1 + statement_depth s) c.loop-count.count c.in-Some.bits word c.requires (omega (arith, c.loop-count-test.true)) more before in
    (omega (arith, c.decreases), (within_all, (word, (turn_fair (home (draft c.args.builder.now)) body find head s c.in-Some.bits word c.requires, executable_after (draft c.args.builder.now) (draft c.loop-count.builder) [] before.made (1 + statement_depth s) body (turning find head.variable.bytes c.in-Some.bits) s before.adds here))))

pub loop_turns-loop-count-preserved : goal.loop_turns-loop-count-preserved
loop_turns-loop-count-preserved g t c =
    let find = within (g.S.Surroundings.declared c.args.here.now.around.now) c.args.here.now.layers.now (g.S.Env.names c.args.here.now.around.now) in
    let body = body_of c.args.kind true (g.S.Surroundings.declared c.args.here.now.around.now) in
    let head = view.loop_head c.args.head.now in
    let s = view.statement c.args.body.now in
    let copy : Find → TypedStatement = λ inner. typed_statement s body inner in
    let first = given (constant head.first find) in
    let before = subst (λ (v : Option BitList). TurnsBuilt copy head find first (draft c.args.builder.now) (draft c.loop-count.builder) (1 + statement_depth s) c.loop-count.count v) c.in-Some.is c.loop-count.invariant.0 in
    let more = sym c.in_ok-more-in-Some.ensures ∙ c.if-not-more.false in
    (one_turn copy head find first (draft c.args.builder.now) (draft c.loop-count.builder) (draft c.turn.new.builder) (1 + statement_depth s) (1 + statement_depth s) c.loop-count.count c.in-Some.bits c.in_ok-value-in-Some.value (omega (arith, c.loop-count-test.true)) more before c.in_ok-value-in-Some.ensures.copied (omega arith) c.in_ok-value-in-Some.ensures.next, c.in_ok-value-in-Some.ensures.length)

pub loop_turns-returns-clause-copies : goal.loop_turns-returns-clause-copies
loop_turns-returns-clause-copies g t c =
    let find = within (g.S.Surroundings.declared c.args.here.now.around.now) c.args.here.now.layers.now (g.S.Env.names c.args.here.now.around.now) in
    let body = body_of c.args.kind true (g.S.Surroundings.declared c.args.here.now.around.now) in
    let head = view.loop_head c.args.head.now in
    let s = view.statement c.args.body.now in
    let copy : Find → TypedStatement = λ inner. typed_statement s body inner in
    built_adds copy head find (given (constant head.first find)) (draft c.args.builder.now) (draft c.loop-count.builder) (1 + statement_depth s) c.loop-count.count c.loop-count.value c.loop-count.invariant.0
    (copies_over c.loop-count.invariant.0.left copy head find c.loop-count.value (omega (arith, c.loop-count.invariant.0.all, c.loop-count-test.false)))

pub loop_turns-returns-clause-count : goal.loop_turns-returns-clause-count
loop_turns-returns-clause-count g t c =
    let find = within (g.S.Surroundings.declared c.args.here.now.around.now) c.args.here.now.layers.now (g.S.Env.names c.args.here.now.around.now) in
    let body = body_of c.args.kind true (g.S.Surroundings.declared c.args.here.now.around.now) in
    let head = view.loop_head c.args.head.now in
    let s = view.statement c.args.body.now in
    let copy : Find → TypedStatement = λ inner. typed_statement s body inner in
    let n = built_count copy head find (given (constant head.first find)) (draft c.args.builder.now) (draft c.loop-count.builder) (1 + statement_depth s) c.loop-count.count c.loop-count.value c.loop-count.invariant.0
    (copies_over c.loop-count.invariant.0.left copy head find c.loop-count.value (omega (arith, c.loop-count.invariant.0.all, c.loop-count-test.false))) in
    omega (arith, n, c.loop-count.invariant.0.all, c.loop-count-test.false)

pub turn-statement-requires : goal.turn-statement-requires
turn-statement-requires g t c κs within_all =
    let find = within (g.S.Surroundings.declared c.args.here.now.around.now) c.args.here.now.layers.now (g.S.Env.names c.args.here.now.around.now) in
    let body = body_of c.args.kind true (g.S.Surroundings.declared c.args.here.now.around.now) in
    let inner = turning find (view.loop_head c.args.head.now).variable.bytes c.args.bits in
    let same : within (g.S.Surroundings.declared c.args.here.now.around.now) c.in_turn-layers.result (g.S.Env.names c.args.here.now.around.now) ≡ inner = c.in_turn-layers.ensures (g.S.Surroundings.declared c.args.here.now.around.now) (g.S.Env.names c.args.here.now.around.now) in
    (omega (arith, c.decreases), (within_all, subst (λ f. IsExecutable (home (draft c.args.builder.now)) body f (view.statement c.args.body.now)) (sym same) c.requires.copy))

pub turn-value_given-requires-clause-shaped : goal.turn-value_given-requires-clause-shaped
turn-value_given-requires-clause-shaped g t c = c.requires.next.shaped

pub turn-value_given-requires-clause-fair : goal.turn-value_given-requires-clause-fair
turn-value_given-requires-clause-fair g t c =
    let find = within (g.S.Surroundings.declared c.args.here.now.around.now) c.args.here.now.layers.now (g.S.Env.names c.args.here.now.around.now) in
    let inner = turning find (view.loop_head c.args.head.now).variable.bytes c.args.bits in
    let same : within (g.S.Surroundings.declared c.args.here.now.around.now) c.in_turn-layers.result (g.S.Env.names c.args.here.now.around.now) ≡ inner = c.in_turn-layers.ensures (g.S.Surroundings.declared c.args.here.now.around.now) (g.S.Env.names c.args.here.now.around.now) in
    subst IsFair (sym same) c.requires.next.fair

pub turn-returns-clause-copied : goal.turn-returns-clause-copied
turn-returns-clause-copied g t c =
    let find = within (g.S.Surroundings.declared c.args.here.now.around.now) c.args.here.now.layers.now (g.S.Env.names c.args.here.now.around.now) in
    let body = body_of c.args.kind true (g.S.Surroundings.declared c.args.here.now.around.now) in
    let inner = turning find (view.loop_head c.args.head.now).variable.bytes c.args.bits in
    let same : within (g.S.Surroundings.declared c.args.here.now.around.now) c.in_turn-layers.result (g.S.Env.names c.args.here.now.around.now) ≡ inner = c.in_turn-layers.ensures (g.S.Surroundings.declared c.args.here.now.around.now) (g.S.Env.names c.args.here.now.around.now) in
    let built = subst (λ f. AddsStatement (draft c.args.builder.now) (draft c.statement.new.builder) (typed_statement (view.statement c.args.body.now) body f).statement (1 + statement_depth (view.statement c.args.body.now))) same c.in_ok-statement.ensures in
    search (rules, built)

pub turn-returns-clause-next : goal.turn-returns-clause-next
turn-returns-clause-next g t c =
    let find = within (g.S.Surroundings.declared c.args.here.now.around.now) c.args.here.now.layers.now (g.S.Env.names c.args.here.now.around.now) in
    let head = view.loop_head c.args.head.now in
    let inner = turning find head.variable.bytes c.args.bits in
    let same : within (g.S.Surroundings.declared c.args.here.now.around.now) c.in_turn-layers.result (g.S.Env.names c.args.here.now.around.now) ≡ inner = c.in_turn-layers.ensures (g.S.Surroundings.declared c.args.here.now.around.now) (g.S.Env.names c.args.here.now.around.now) in
    subst (λ f. IfOk c.value_given.result (λ n. n ≡ given (constant head.next f))) same c.value_given.ensures.given
