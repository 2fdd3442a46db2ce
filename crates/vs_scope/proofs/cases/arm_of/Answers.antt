use Rattle.std.proofs.Common.{◌≡◌, ℕ, Option, List, map, drop, sym, ap, ◌∙◌, subst, add-one}
use Rattle.vs_ast.specs.Views as view
use Rattle.vs_ast.specs.declared.expressions.Expr.{Expr}
use Rattle.vs_ast.specs.declared.items.GenerateArm.{GenerateArm}
use Rattle.vs_grammar.specs.Shapes.{Each}
use Rattle.vs_elaborated.specs.Constructs.{arm_of, same_bits}
use Rattle.vs_scope.specs.Cases.{IsFit, has_value}
use Rattle.vs_scope.specs.Frames.{view_env}
use Rattle.vs_scope.proofs.CaseLabels.{shifted, arm_fit, arm_start, arm_next, arm_here, arm_end}
use Rattle.vs_scope.proofs.cases.arm_of.Goals as goal

pub loop-k-init : goal.loop-k-init
loop-k-init c = arm_start (same_bits c.args.subject) c.args.width c.args.signed (view_env c.args.here.now) c.args.arms.now

pub has_label-requires-clause-fit : goal.has_label-requires-clause-fit
has_label-requires-clause-fit c =
    subst (λ (x : List Expr). Each (IsFit c.args.width (view_env c.args.here.now)) (map view.expr x)) (sym (c.as_slice-list.ensures.value ∙ ap (λ (a : GenerateArm). a.labels.items) (sym c.index-arms-k.is)))
    (arm_fit c.args.width (view_env c.args.here.now) c.args.arms.now c.loop-k.k c.index-arms-k.result c.loop-k-test.true c.index-arms-k.is c.requires.fit)

pub loop-k-preserved : goal.loop-k-preserved
loop-k-preserved c =
    let f = same_bits c.args.subject in
    let env = view_env c.args.here.now in
    let all : Option ℕ = arm_of f c.args.width c.args.signed env (view.generate_arms c.args.arms.now) in
    subst (λ (n : ℕ). all ≡ shifted n (arm_of f c.args.width c.args.signed env (view.generate_arms (drop n c.args.arms.now)))) (sym (add-one c.loop-k.k))
    (arm_next f c.args.width c.args.signed env c.args.arms.now c.loop-k.k c.index-arms-k.result all c.loop-k-test.true c.index-arms-k.is c.loop-k.invariant
    (ap (λ (x : List Expr). has_value f c.args.width c.args.signed env (map view.expr x)) (sym (c.as_slice-list.ensures.value ∙ ap (λ (a : GenerateArm). a.labels.items) (sym c.index-arms-k.is))) ∙ sym c.in_ok-found.ensures ∙ c.if-found.false))

pub returns-then-found : goal.returns-then-found
returns-then-found c =
    let f = same_bits c.args.subject in
    let env = view_env c.args.here.now in
    let all : Option ℕ = arm_of f c.args.width c.args.signed env (view.generate_arms c.args.arms.now) in
    arm_here f c.args.width c.args.signed env c.args.arms.now c.loop-k.k c.index-arms-k.result all c.loop-k-test.true c.index-arms-k.is c.loop-k.invariant
    (ap (λ (x : List Expr). has_value f c.args.width c.args.signed env (map view.expr x)) (sym (c.as_slice-list.ensures.value ∙ ap (λ (a : GenerateArm). a.labels.items) (sym c.index-arms-k.is))) ∙ sym c.in_ok-found.ensures ∙ c.if-found.true)

pub returns : goal.returns
returns c =
    let f = same_bits c.args.subject in
    let env = view_env c.args.here.now in
    arm_end f c.args.width c.args.signed env c.args.arms.now c.loop-k.k _ c.loop-k-test.false c.loop-k.invariant
