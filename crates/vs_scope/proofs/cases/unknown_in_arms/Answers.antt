use Rattle.std.proofs.Common.{◌≡◌, ℕ, suc, List, ◌++◌, map, flat_map, drop, sym, ap, ◌∙◌, subst, add-one}
use Rattle.std.proofs.lemmas.Grind.{flat_map-append}
use Rattle.vs_ast.specs.Views as view
use Rattle.vs_ast.specs.declared.expressions.Expr.{Expr}
use Rattle.vs_ast.specs.declared.items.GenerateArm.{GenerateArm}
use Rattle.vs_grammar.specs.Shapes.{Each}
use Rattle.vs_const.specs.declared.faults.Fault.{Fault}
use Rattle.vs_const.specs.Faults.{least}
use Rattle.vs_elaborated.specs.Constructs.{label_of, labels_of, unknown_in}
use Rattle.vs_scope.specs.Cases.{IsFit}
use Rattle.vs_scope.specs.Frames.{view_env}
use Rattle.vs_scope.specs.SoFar.{IsFirstSoFar}
use Rattle.vs_scope.proofs.Steps.{none_left}
use Rattle.vs_scope.proofs.CaseLabels.{arm_fit, arms_from}
use Rattle.vs_scope.proofs.SoFar.{so_far_start, so_far_more, so_far_end}
use Rattle.vs_scope.proofs.cases.unknown_in_arms.Goals as goal

pub unknown_labels-requires-clause-fit : goal.unknown_labels-requires-clause-fit
unknown_labels-requires-clause-fit c =
    subst (λ (x : List Expr). Each (IsFit c.args.width (view_env c.args.here.now)) (map view.expr x)) (sym c.as_slice.ensures.value)
    (arm_fit c.args.width (view_env c.args.here.now) c.args.arms.now c.loop-arm.arm-index c.arm-item.result c.loop-arm-test.true c.arm-item.is c.requires.fit)

pub loop-arm-init : goal.loop-arm-init
loop-arm-init c = so_far_start _

pub loop-arm-preserved : goal.loop-arm-preserved
loop-arm-preserved c =
    let arms = c.args.arms.now in
    let env = view_env c.args.here.now in
    let f = unknown_in c.args.width c.args.signed in
    let g = λ (x : List GenerateArm). flat_map f (map (label_of env) (labels_of (view.generate_arms x))) in
    let i = c.loop-arm.arm-index in
    let ls = λ (x : List Expr). map (label_of env) (map view.expr x) in
    let mine = ls c.arm-item.result.labels.items in
    let whole : g (drop i arms) ≡ flat_map f mine ++ g (drop (suc i) arms) =
    ap (flat_map f) (arms_from env arms i c.arm-item.result c.loop-arm-test.true c.arm-item.is) ∙ flat_map-append f mine (map (label_of env) (labels_of (view.generate_arms (drop (suc i) arms)))) in
    subst (λ (n : ℕ). IsFirstSoFar c.first_of-fault.result (g (drop n arms)) (g arms)) (sym (add-one i))
    (so_far_more (flat_map f mine) (g (drop (suc i) arms)) (g arms) c.loop-arm.fault c.in_ok-found.found c.first_of-fault.result
    (subst (λ (x : List Fault). IsFirstSoFar c.loop-arm.fault x (g arms)) whole c.loop-arm.invariant)
    (c.in_ok-found.ensures ∙ ap (λ (x : List Expr). least (flat_map f (ls x))) c.as_slice.ensures.value) c.first_of-fault.ensures)

pub returns : goal.returns
returns c =
    let arms = c.args.arms.now in
    let g = λ (x : List GenerateArm). flat_map (unknown_in c.args.width c.args.signed) (map (label_of (view_env c.args.here.now)) (labels_of (view.generate_arms x))) in
    so_far_end c.loop-arm.fault (g arms) (subst (λ (x : List GenerateArm). IsFirstSoFar c.loop-arm.fault (g x) (g arms)) (none_left arms c.loop-arm.arm-index c.loop-arm-test.false) c.loop-arm.invariant)
