use Rattle.std.proofs.Common.{ℕ, suc, List, map, drop, sym, subst, add-one}
use Rattle.vs_ast.specs.Views as view
use Rattle.vs_ast.specs.declared.expressions.Expr.{Expr}
use Rattle.vs_ast.specs.declared.items.GenerateArm.{GenerateArm}
use Rattle.vs_grammar.specs.Shapes.{Each, IsExpr}
use Rattle.vs_elaborated.specs.Constructs.{Label, label_of, labels_of}
use Rattle.vs_scope.specs.Cases.{AreLabels}
use Rattle.vs_scope.specs.Frames.{view_env}
use Rattle.vs_scope.proofs.Steps.{none_left}
use Rattle.vs_scope.proofs.CaseLabels.{AreLabelled, labelled_start, labelled_more, labelled_end, arm_shaped, arms_from}
use Rattle.vs_scope.proofs.cases.arm_labels.Goals as goal

pub list_labels-requires : goal.list_labels-requires
list_labels-requires c =
    subst (λ (x : List Expr). Each IsExpr (map view.expr x)) (sym c.as_slice.ensures.value) (arm_shaped c.args.arms.now c.loop-arm.arm-index c.arm-item.result c.loop-arm-test.true c.arm-item.is c.requires).0

pub loop-arm-init : goal.loop-arm-init
loop-arm-init c = labelled_start _ _ c.no_labels-all.ensures

pub loop-arm-preserved : goal.loop-arm-preserved
loop-arm-preserved c =
    let arms = c.args.arms.now in
    let env = view_env c.args.here.now in
    let g = λ (x : List GenerateArm). map (label_of env) (labels_of (view.generate_arms x)) in
    let i = c.loop-arm.arm-index in
    let ls = λ (x : List Expr). map (label_of env) (map view.expr x) in
    subst (λ (n : ℕ). AreLabelled c.together-all.result (g (drop n arms)) (g arms)) (sym (add-one i))
    (labelled_more c.loop-arm.all c.in_ok-some.some c.together-all.result (ls c.arm-item.result.labels.items) (g (drop (suc i) arms)) (g arms)
    (subst (λ (x : List Label). AreLabelled c.loop-arm.all x (g arms)) (arms_from env arms i c.arm-item.result c.loop-arm-test.true c.arm-item.is) c.loop-arm.invariant)
    (subst (λ (x : List Expr). AreLabels c.in_ok-some.some (ls x)) c.as_slice.ensures.value c.in_ok-some.ensures) c.together-all.ensures)

pub returns : goal.returns
returns c =
    let arms = c.args.arms.now in
    let g = λ (x : List GenerateArm). map (label_of (view_env c.args.here.now)) (labels_of (view.generate_arms x)) in
    labelled_end c.loop-arm.all (g arms) (subst (λ (x : List GenerateArm). AreLabelled c.loop-arm.all (g x) (g arms)) (none_left arms c.loop-arm.arm-index c.loop-arm-test.false) c.loop-arm.invariant)
