use Rattle.std.proofs.Common.{ℕ, suc, List, [], ◌∷◌, map, drop, sym, subst, add-one}
use Rattle.vs_ast.specs.Views as view
use Rattle.vs_ast.specs.declared.expressions.Expr.{Expr}
use Rattle.vs_grammar.specs.Shapes.{IsExpr}
use Rattle.vs_elaborated.specs.Constructs.{label_of}
use Rattle.vs_scope.specs.Frames.{view_env}
use Rattle.vs_scope.proofs.Steps.{from_place, none_left}
use Rattle.vs_scope.proofs.CaseLabels.{AreLabelled, labelled_start, labelled_more, labelled_end, each_at}
use Rattle.vs_scope.proofs.cases.list_labels.Goals as goal

pub label-requires : goal.label-requires
label-requires c = each_at IsExpr view.expr c.args.list.now c.loop-e.e-index c.e-item.result c.loop-e-test.true c.e-item.is c.requires

pub loop-e-init : goal.loop-e-init
loop-e-init c = labelled_start _ _ c.no_labels-all.ensures

pub loop-e-preserved : goal.loop-e-preserved
loop-e-preserved c =
    let list = c.args.list.now in
    let g = λ (x : List Expr). map (label_of (view_env c.args.here.now)) (map view.expr x) in
    let i = c.loop-e.e-index in
    subst (λ (n : ℕ). AreLabelled c.together-all.result (g (drop n list)) (g list)) (sym (add-one i))
    (labelled_more c.loop-e.all c.in_ok-one.one c.together-all.result (label_of (view_env c.args.here.now) (view.expr c.e-item.result) ∷ []) (g (drop (suc i) list)) (g list)
    (subst (λ (x : List Expr). AreLabelled c.loop-e.all (g x) (g list)) (from_place list i c.e-item.result c.loop-e-test.true c.e-item.is) c.loop-e.invariant)
    c.in_ok-one.ensures c.together-all.ensures)

pub returns : goal.returns
returns c =
    let list = c.args.list.now in
    let g = λ (x : List Expr). map (label_of (view_env c.args.here.now)) (map view.expr x) in
    labelled_end c.loop-e.all (g list) (subst (λ (x : List Expr). AreLabelled c.loop-e.all (g x) (g list)) (none_left list c.loop-e.e-index c.loop-e-test.false) c.loop-e.invariant)
