use Rattle.std.proofs.Common.{◌≡◌, ◌+◌, ◌++◌, false, take, map, List, Some, refl, ap, ◌∙◌}
use Rattle.vs_ast.specs.declared.expressions.Expr.{Expr}
use Rattle.vs_ast.specs.declared.statements.Statement.{Statement}
use Rattle.vs_ast.specs.Views as view
use Rattle.vs_const.proofs.Mentioning.{both_told, none_told}
use Rattle.vs_const.specs.Meanings.{Barred}
use Rattle.vs_const.specs.MentionViews.{all_told, all_told_of}
use Rattle.vs_const.specs.Mentions.{mentions}
use Rattle.vs_const.specs.declared.rules.Rule.TheVariants.{LoopVariable}
use Rattle.vs_elaborated.specs.Reads.{label_mentions, statement_mentions}
use Rattle.vs_elaborated.specs.Statements.{scope_locals}
use Rattle.vs_bodies.specs.Mentions.{names_at}
use Rattle.vs_bodies.proofs.MentionedParts.{ok_same, ok_then, all_parts, arm_of, arms_of, arms_split, case_alone, case_default, if_alone, if_else, part_more, sequence_alone, sequence_block, sequence_of}
use Rattle.vs_bodies.proofs.reads.+statements.Goals as goal

pub push_statement-returns-in-None : goal.push_statement-returns-in-None
push_statement-returns-in-None g t c =
    let find = names_at (g.E.Env.names c.args.here.now.around.now.env.now) c.args.here.now.layers.now in
    let w = c.in-If in
    both_told (all_told c.args.list.now.items) (all_told c.push_mentions-in-If.new.list.items) (all_told c.push_statement.new.list.items) (mentions (view.expr w.condition) find false) (statement_mentions (view.statement w.taken.value) find)
    (statement_mentions (view.statement c.args.s.now) find) c.in_ok-push_mentions-in-If.ensures
    (c.in_ok-push_statement-in-If.ensures ∙ ap (λ (x : Statement). all_told c.push_mentions-in-If.new.list.items ++ all_told_of (statement_mentions (view.statement x) find)) c.deref.ensures)
    (if_alone find c.args.s.now w.place w.condition w.taken w.other w.is c.in-None.is)

pub push_statement-returns-in-Some : goal.push_statement-returns-in-Some
push_statement-returns-in-Some g t c =
    let find = names_at (g.E.Env.names c.args.here.now.around.now.env.now) c.args.here.now.layers.now in
    let w = c.in-If in
    let old = all_told c.args.list.now.items in
    let both : all_told c.push_statement.new.list.items ≡ old ++ all_told_of (mentions (view.expr w.condition) find false ++ statement_mentions (view.statement w.taken.value) find) =
    both_told old (all_told c.push_mentions-in-If.new.list.items) (all_told c.push_statement.new.list.items) (mentions (view.expr w.condition) find false) (statement_mentions (view.statement w.taken.value) find) _
    c.in_ok-push_mentions-in-If.ensures
    (c.in_ok-push_statement-in-If.ensures ∙ ap (λ (x : Statement). all_told c.push_mentions-in-If.new.list.items ++ all_told_of (statement_mentions (view.statement x) find)) c.deref.ensures) refl in
    ok_then c.push_statement-in-Some.result old (all_told c.push_statement.new.list.items) (all_told c.push_statement-in-Some.new.list.items)
    (mentions (view.expr w.condition) find false ++ statement_mentions (view.statement w.taken.value) find) (statement_mentions (view.statement c.deref-in-Some.result.now) find) (statement_mentions (view.statement c.args.s.now) find) both
    (ap (λ (x : Statement). (mentions (view.expr w.condition) find false ++ statement_mentions (view.statement w.taken.value) find) ++ statement_mentions (view.statement x) find) c.deref-in-Some.ensures
    ∙ if_else find c.args.s.now w.place w.condition w.taken c.in-Some.other w.other w.is c.in-Some.is)
    c.push_statement-in-Some.ensures

pub push_statement-returns-in-None-other : goal.push_statement-returns-in-None-other
push_statement-returns-in-None-other g t c =
    let find = names_at (g.E.Env.names c.args.here.now.around.now.env.now) c.args.here.now.layers.now in
    let w = c.in-Case in
    both_told (all_told c.args.list.now.items) (all_told c.push_mentions-in-Case.new.list.items) (all_told c.push_arms.new.list.items) (mentions (view.expr w.subject) find false) (arms_of find w.arms.items)
    (statement_mentions (view.statement c.args.s.now) find) c.in_ok-push_mentions-in-Case.ensures
    (c.in_ok-push_arms-in-Case.ensures ∙ ap (λ xs. all_told c.push_mentions-in-Case.new.list.items ++ all_told_of (arms_of find xs)) c.deref-in-Case.ensures.value)
    (case_alone find c.args.s.now w.place w.kind w.subject w.arms w.other w.is c.in-None-other.is)

pub push_statement-returns-in-Some-other : goal.push_statement-returns-in-Some-other
push_statement-returns-in-Some-other g t c =
    let find = names_at (g.E.Env.names c.args.here.now.around.now.env.now) c.args.here.now.layers.now in
    let w = c.in-Case in
    let old = all_told c.args.list.now.items in
    let both : all_told c.push_arms.new.list.items ≡ old ++ all_told_of (mentions (view.expr w.subject) find false ++ arms_of find w.arms.items) =
    both_told old (all_told c.push_mentions-in-Case.new.list.items) (all_told c.push_arms.new.list.items) (mentions (view.expr w.subject) find false) (arms_of find w.arms.items) _ c.in_ok-push_mentions-in-Case.ensures
    (c.in_ok-push_arms-in-Case.ensures ∙ ap (λ xs. all_told c.push_mentions-in-Case.new.list.items ++ all_told_of (arms_of find xs)) c.deref-in-Case.ensures.value) refl in
    ok_then c.push_statement-in-Some-other.result old (all_told c.push_arms.new.list.items) (all_told c.push_statement-in-Some-other.new.list.items) (mentions (view.expr w.subject) find false ++ arms_of find w.arms.items)
    (statement_mentions (view.statement c.deref-in-Some-other.result.now) find) (statement_mentions (view.statement c.args.s.now) find) both
    (ap (λ (x : Statement). (mentions (view.expr w.subject) find false ++ arms_of find w.arms.items) ++ statement_mentions (view.statement x) find) c.deref-in-Some-other.ensures
    ∙ case_default find c.args.s.now w.place w.kind w.subject w.arms c.in-Some-other.other w.other w.is c.in-Some-other.is)
    c.push_statement-in-Some-other.ensures

pub push_statement-returns-in-None-scope : goal.push_statement-returns-in-None-scope
push_statement-returns-in-None-scope g t c =
    let find = names_at (g.E.Env.names c.args.here.now.around.now.env.now) c.args.here.now.layers.now in
    let w = c.in-Sequence in
    ok_same c.push_sequence.result (all_told c.args.list.now.items) (all_told c.push_sequence.new.list.items) (sequence_of find c.deref-in-None-scope.result.now) (statement_mentions (view.statement c.args.s.now) find)
    (sequence_alone find c.args.s.now w.place w.scope w.parts c.deref-in-None-scope.result.now w.is c.in-None-scope.is c.deref-in-None-scope.ensures.value) c.push_sequence.ensures

pub push_statement-returns-in_ok-block-in-Some-scope : goal.push_statement-returns-in_ok-block-in-Some-scope
push_statement-returns-in_ok-block-in-Some-scope g t c =
    let find = names_at (g.E.Env.names c.args.here.now.around.now.env.now) c.args.here.now.layers.now in
    let w = c.in-Sequence in
    let locals = scope_locals (Some (view.block_scope c.in-Some-scope.scope)) in
    let inner = names_at (g.E.Env.names c.args.here.now.around.now.env.now) c.in_block-layers.result in
    ok_same c.push_sequence-in-Some-scope.result (all_told c.args.list.now.items) (all_told c.push_sequence-in-Some-scope.new.list.items) (sequence_of inner c.deref-in-Some-scope.result.now) (statement_mentions (view.statement c.args.s.now) find)
    (sequence_block find inner c.args.s.now w.place w.scope c.in-Some-scope.scope w.parts c.deref-in-Some-scope.result.now w.is c.in-Some-scope.is c.deref-in-Some-scope.ensures.value
    (c.in_block-layers.ensures (λ place. Barred LoopVariable) (g.E.Env.names c.args.here.now.around.now.env.now) locals c.in_ok-block-in-Some-scope.ensures.locals))
    c.push_sequence-in-Some-scope.ensures

pub push_sequence-loop-s-init : goal.push_sequence-loop-s-init
push_sequence-loop-s-init g t c = none_told (all_told c.args.list.now.items)

pub push_sequence-loop-s-preserved : goal.push_sequence-loop-s-preserved
push_sequence-loop-s-preserved g t c =
    let find = names_at (g.E.Env.names c.args.here.now.around.now.env.now) c.args.here.now.layers.now in
    let xs = c.args.parts.now in
    let i = c.loop-s.s-index in
    both_told (all_told c.args.list.now.items) (all_told c.loop-s.list.items) (all_told c.push_statement.new.list.items) (sequence_of find (take i xs)) (statement_mentions (view.statement c.s-item.result) find) (sequence_of find (take (i + 1) xs))
    c.loop-s.invariant c.in_ok-push_statement.ensures (part_more (sequence_of find) (λ (x : Statement). statement_mentions (view.statement x) find) refl (λ x ys. refl) xs i c.s-item.result c.loop-s-test.true c.s-item.is)

pub push_sequence-returns : goal.push_sequence-returns
push_sequence-returns g t c =
    all_parts (sequence_of (names_at (g.E.Env.names c.args.here.now.around.now.env.now) c.args.here.now.layers.now)) c.args.parts.now c.loop-s.s-index (all_told c.args.list.now.items) (all_told c.loop-s.list.items) c.loop-s-test.false c.loop-s.invariant

pub push_arms-loop-arm-init : goal.push_arms-loop-arm-init
push_arms-loop-arm-init g t c = none_told (all_told c.args.list.now.items)

pub push_arms-loop-arm-preserved : goal.push_arms-loop-arm-preserved
push_arms-loop-arm-preserved g t c =
    let find = names_at (g.E.Env.names c.args.here.now.around.now.env.now) c.args.here.now.layers.now in
    let xs = c.args.arms.now in
    let i = c.loop-arm.arm-index in
    let a = c.arm-item.result in
    let mid = all_told c.push_labels.new.list.items in
    let one : all_told c.push_statement.new.list.items ≡ all_told c.loop-arm.list.items ++ all_told_of (arm_of find a) =
    both_told (all_told c.loop-arm.list.items) mid (all_told c.push_statement.new.list.items) (label_mentions (map view.expr a.labels.items) find) (statement_mentions (view.statement a.statement) find) (arm_of find a)
    (c.in_ok-push_labels.ensures ∙ ap (λ (es : List Expr). all_told c.loop-arm.list.items ++ all_told_of (label_mentions (map view.expr es) find)) c.deref.ensures.value) c.in_ok-push_statement.ensures refl in
    both_told (all_told c.args.list.now.items) (all_told c.loop-arm.list.items) (all_told c.push_statement.new.list.items) (arms_of find (take i xs)) (arm_of find a) (arms_of find (take (i + 1) xs)) c.loop-arm.invariant one
    (part_more (arms_of find) (arm_of find) refl (arms_split find) xs i a c.loop-arm-test.true c.arm-item.is)

pub push_arms-returns : goal.push_arms-returns
push_arms-returns g t c =
    all_parts (arms_of (names_at (g.E.Env.names c.args.here.now.around.now.env.now) c.args.here.now.layers.now)) c.args.arms.now c.loop-arm.arm-index (all_told c.args.list.now.items) (all_told c.loop-arm.list.items) c.loop-arm-test.false c.loop-arm.invariant
