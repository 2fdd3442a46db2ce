use Rattle.std.proofs.Common.{◌≡◌, List, ◌++◌, Some, OnOk, map, flat_map, sym, ap, subst, ◌∙◌}
use Rattle.std.proofs.lemmas.List.{take_all, append-nil}
use Rattle.vs_ast.specs.declared.statements.CaseArm.{CaseArm}
use Rattle.vs_ast.specs.declared.statements.Statement.{Statement}
use Rattle.vs_ast.specs.Views as view
use Rattle.vs_elaborated.specs.Heads as spec
use Rattle.vs_elaborated.specs.Statements.{scope_locals}
use Rattle.vs_scope.specs.Frames.{view_env}
use Rattle.vs_items.specs.Loops.{head}
use Rattle.vs_items.proofs.HeadSteps.{gathered_as, both_gathered, then_gathered, none_gathered, case_alone_heads, case_default_heads, plain_heads, block_heads, flat_more, part_heads, arm_heads, parts_headed, arms_headed}
use Rattle.vs_items.proofs.heads.+heads.Goals as goal

pub push_heads-returns-in-None-other : goal.push_heads-returns-in-None-other
push_heads-returns-in-None-other t c = λ locals a.
    let env = view_env c.args.here.now in
    let w = c.in-Case in
    gathered_as c.args.list.now.items c.push_arms.new.list.items _ _
    (ap (λ (xs : List CaseArm). spec.headed_arms (view.arms xs) locals env) c.deref-in-Case.ensures.value ∙ sym (append-nil (spec.headed_arms (view.arms w.arms.items) locals env))
    ∙ case_alone_heads locals env c.args.s.now w.place w.kind w.subject w.arms w.other w.is c.in-None-other.is)
    (c.in_ok-push_arms-in-Case.ensures locals a)

pub push_heads-returns-in-Some-other : goal.push_heads-returns-in-Some-other
push_heads-returns-in-Some-other t c = λ locals a.
    let env = view_env c.args.here.now in
    let w = c.in-Case in
    subst (λ (hs : List spec.Head). OnOk c.push_heads-in-Some-other.result (map head c.push_heads-in-Some-other.new.list.items ≡ hs))
    (then_gathered c.args.list.now.items c.push_arms.new.list.items (spec.headed_arms (view.arms c.deref-in-Case.result.now) locals env) (spec.headed (view.statement c.deref-in-Some-other.result.now) locals env) (spec.headed (view.statement c.args.s.now) locals env)
    (c.in_ok-push_arms-in-Case.ensures locals a)
    (ap (λ (xs : List CaseArm). spec.headed_arms (view.arms xs) locals env ++ spec.headed (view.statement c.deref-in-Some-other.result.now) locals env) c.deref-in-Case.ensures.value
    ∙ ap (λ (x : Statement). spec.headed_arms (view.arms w.arms.items) locals env ++ spec.headed (view.statement x) locals env) c.deref-in-Some-other.ensures
    ∙ case_default_heads locals env c.args.s.now w.place w.kind w.subject w.arms c.in-Some-other.other w.other w.is c.in-Some-other.is))
    (c.push_heads-in-Some-other.ensures locals a)

pub push_heads-returns-in-None-scope : goal.push_heads-returns-in-None-scope
push_heads-returns-in-None-scope t c = λ locals a.
    let env = view_env c.args.here.now in
    let w = c.in-Sequence in
    subst (λ (hs : List spec.Head). OnOk c.push_sequence.result (map head c.push_sequence.new.list.items ≡ map head c.args.list.now.items ++ hs))
    (ap (λ (xs : List Statement). spec.headed_sequence (view.statements xs) locals env) c.deref-in-None-scope.ensures.value ∙ plain_heads locals env c.args.s.now w.place w.scope w.parts w.is c.in-None-scope.is)
    (c.push_sequence.ensures locals a)

pub push_heads-returns-in-Some-scope : goal.push_heads-returns-in-Some-scope
push_heads-returns-in-Some-scope t c = λ locals a.
    let env = view_env c.args.here.now in
    let w = c.in-Sequence in
    let own = scope_locals (Some (view.block_scope c.in-Some-scope.scope)) in
    subst (λ (hs : List spec.Head). OnOk c.push_block.result (map head c.push_block.new.list.items ≡ map head c.args.list.now.items ++ hs))
    (ap (λ (xs : List Statement). spec.headed_sequence (view.statements xs) (own ++ locals) env) c.deref-in-Some-scope.ensures.value
    ∙ block_heads locals env c.args.s.now w.place w.scope c.in-Some-scope.scope w.parts w.is c.in-Some-scope.is)
    (c.push_block.ensures locals a)

pub push_sequence-loop-s-init : goal.push_sequence-loop-s-init
push_sequence-loop-s-init t c = λ locals a. none_gathered c.args.list.now.items

pub push_sequence-loop-s-preserved : goal.push_sequence-loop-s-preserved
push_sequence-loop-s-preserved t c = λ locals a.
    gathered_as c.args.list.now.items c.push_heads.new.list.items _ _ (flat_more (part_heads locals (view_env c.args.here.now)) c.args.parts.now c.loop-s.s-index c.s-item.result c.loop-s-test.true c.s-item.is)
    (both_gathered c.args.list.now.items c.loop-s.list.items c.push_heads.new.list.items _ _ (c.loop-s.invariant locals a) (c.in_ok-push_heads.ensures locals a))

pub push_sequence-returns : goal.push_sequence-returns
push_sequence-returns t c = λ locals a.
    let env = view_env c.args.here.now in
    gathered_as c.args.list.now.items c.loop-s.list.items _ _ (ap (flat_map (part_heads locals env)) (take_all c.loop-s.s-index c.args.parts.now c.loop-s-test.false) ∙ parts_headed locals env c.args.parts.now) (c.loop-s.invariant locals a)

pub push_arms-loop-arm-init : goal.push_arms-loop-arm-init
push_arms-loop-arm-init t c = λ locals a. none_gathered c.args.list.now.items

pub push_arms-loop-arm-preserved : goal.push_arms-loop-arm-preserved
push_arms-loop-arm-preserved t c = λ locals a.
    gathered_as c.args.list.now.items c.push_heads.new.list.items _ _ (flat_more (arm_heads locals (view_env c.args.here.now)) c.args.arms.now c.loop-arm.arm-index c.arm-item.result c.loop-arm-test.true c.arm-item.is)
    (both_gathered c.args.list.now.items c.loop-arm.list.items c.push_heads.new.list.items _ _ (c.loop-arm.invariant locals a) (c.in_ok-push_heads.ensures locals a))

pub push_arms-returns : goal.push_arms-returns
push_arms-returns t c = λ locals a.
    let env = view_env c.args.here.now in
    gathered_as c.args.list.now.items c.loop-arm.list.items _ _ (ap (flat_map (arm_heads locals env)) (take_all c.loop-arm.arm-index c.args.arms.now c.loop-arm-test.false) ∙ arms_headed locals env c.args.arms.now) (c.loop-arm.invariant locals a)
