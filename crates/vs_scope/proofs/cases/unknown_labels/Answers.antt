use Rattle.std.proofs.Common.{ℕ, suc, List, map, flat_map, drop, sym, subst, add-one}
use Rattle.vs_ast.specs.Views as view
use Rattle.vs_ast.specs.declared.expressions.Expr.{Expr}
use Rattle.vs_elaborated.specs.Constructs.{label_of, unknown_in}
use Rattle.vs_scope.specs.Cases.{IsFit}
use Rattle.vs_scope.specs.Frames.{view_env}
use Rattle.vs_scope.specs.SoFar.{IsFirstSoFar}
use Rattle.vs_scope.proofs.Steps.{from_place, none_left}
use Rattle.vs_scope.proofs.CaseLabels.{each_at}
use Rattle.vs_scope.proofs.SoFar.{so_far_start, so_far_more, so_far_end}
use Rattle.vs_scope.proofs.cases.unknown_labels.Goals as goal

pub unknown_label-requires-clause-fit : goal.unknown_label-requires-clause-fit
unknown_label-requires-clause-fit c = each_at (IsFit c.args.width (view_env c.args.here.now)) view.expr c.args.list.now c.loop-e.e-index c.e-item.result c.loop-e-test.true c.e-item.is c.requires.fit

pub loop-e-init : goal.loop-e-init
loop-e-init c = so_far_start _

pub loop-e-preserved : goal.loop-e-preserved
loop-e-preserved c =
    let list = c.args.list.now in
    let f = unknown_in c.args.width c.args.signed in
    let g = λ (x : List Expr). flat_map f (map (label_of (view_env c.args.here.now)) (map view.expr x)) in
    let i = c.loop-e.e-index in
    subst (λ (n : ℕ). IsFirstSoFar c.first_of-fault.result (g (drop n list)) (g list)) (sym (add-one i))
    (so_far_more (f (label_of (view_env c.args.here.now) (view.expr c.e-item.result))) (g (drop (suc i) list)) (g list) c.loop-e.fault c.in_ok-found.found c.first_of-fault.result
    (subst (λ (x : List Expr). IsFirstSoFar c.loop-e.fault (g x) (g list)) (from_place list i c.e-item.result c.loop-e-test.true c.e-item.is) c.loop-e.invariant)
    c.in_ok-found.ensures c.first_of-fault.ensures)

pub returns : goal.returns
returns c =
    let list = c.args.list.now in
    let g = λ (x : List Expr). flat_map (unknown_in c.args.width c.args.signed) (map (label_of (view_env c.args.here.now)) (map view.expr x)) in
    so_far_end c.loop-e.fault (g list) (subst (λ (x : List Expr). IsFirstSoFar c.loop-e.fault (g x) (g list)) (none_left list c.loop-e.e-index c.loop-e-test.false) c.loop-e.invariant)
