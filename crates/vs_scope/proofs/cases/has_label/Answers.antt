use Rattle.std.proofs.Common.{◌≡◌, ◌||◌, ℕ, Bool, suc, List, map, drop, sym, ap, ◌∙◌, subst, add-one}
use Rattle.vs_ast.specs.Views as view
use Rattle.vs_ast.specs.declared.expressions.Expr.{Expr}
use Rattle.vs_elaborated.specs.Constructs.{same_bits}
use Rattle.vs_scope.specs.Cases.{IsFit, has_value}
use Rattle.vs_scope.specs.Frames.{view_env}
use Rattle.vs_scope.proofs.Steps.{from_place, none_left}
use Rattle.vs_scope.proofs.CaseLabels.{each_at}
use Rattle.vs_scope.proofs.cases.has_label.Goals as goal

pub bits_in-requires-clause-fit : goal.bits_in-requires-clause-fit
bits_in-requires-clause-fit c = each_at (IsFit c.args.width (view_env c.args.here.now)) view.expr c.args.list.now c.loop-e.e-index c.e-item.result c.loop-e-test.true c.e-item.is c.requires.fit

pub loop-e-preserved : goal.loop-e-preserved
loop-e-preserved c =
    let list = c.args.list.now in
    let g = λ (x : List Expr). has_value (same_bits c.args.subject) c.args.width c.args.signed (view_env c.args.here.now) (map view.expr x) in
    let i = c.loop-e.e-index in
    subst (λ (n : ℕ). g (drop n list) ≡ g list) (sym (add-one i))
    (sym (ap (λ (b : Bool). b || g (drop (suc i) list)) (ap (same_bits c.args.subject) (sym c.in_ok-bits.ensures.value) ∙ sym c.are_same.ensures ∙ c.if-are_same.false))
    ∙ sym (ap g (from_place list i c.e-item.result c.loop-e-test.true c.e-item.is)) ∙ c.loop-e.invariant)

pub returns-then-are_same : goal.returns-then-are_same
returns-then-are_same c =
    let list = c.args.list.now in
    let g = λ (x : List Expr). has_value (same_bits c.args.subject) c.args.width c.args.signed (view_env c.args.here.now) (map view.expr x) in
    let i = c.loop-e.e-index in
    sym (ap (λ (b : Bool). b || g (drop (suc i) list)) (ap (same_bits c.args.subject) (sym c.in_ok-bits.ensures.value) ∙ sym c.are_same.ensures ∙ c.if-are_same.true))
    ∙ sym (ap g (from_place list i c.e-item.result c.loop-e-test.true c.e-item.is)) ∙ c.loop-e.invariant

pub returns : goal.returns
returns c =
    let list = c.args.list.now in
    let g = λ (x : List Expr). has_value (same_bits c.args.subject) c.args.width c.args.signed (view_env c.args.here.now) (map view.expr x) in
    sym (ap g (none_left list c.loop-e.e-index c.loop-e-test.false)) ∙ c.loop-e.invariant
