use Rattle.std.proofs.Common.{true, sym, subst}
use Rattle.vs_grammar.specs.Trees.{expr_place}
use Rattle.vs_ast.specs.Views as view
use Rattle.vs_const.specs.Meanings.{steady}
use Rattle.vs_const.specs.Expressions.{typed}
use Rattle.vs_const.specs.Selects.{slice_taken, first_names, first_needed}
use Rattle.vs_const.specs.Checks.{ChecksTaken}
use Rattle.vs_const.proofs.RangeArms.{between_taken}
use Rattle.vs_const.proofs.checks.check_slice.Goals as goal

pub returns-in_ok-m-in-Between : goal.returns-in_ok-m-in-Between
returns-in_ok-m-in-Between g c =
    let find = g.E.Env.names c.args.env.now in
    let left = view.expr c.args.left.now in
    let right = view.expr c.args.right.now in
    subst (λ k. ChecksTaken c.between.result (slice_taken c.args.declared c.args.bracket (view.slice_kind k) (expr_place left) (typed left (first_names (view.slice_kind k) find) (first_needed (view.slice_kind k) c.args.needed)) (expr_place right) (typed right (steady find) true))) (sym c.in-Between.is)
    (between_taken c.args.declared c.args.bracket (expr_place left) (expr_place right) c.place_of.result c.place_of-in-Between.result (typed left (steady find) true) (typed right (steady find) true)
    c.in_ok-m-in-Between.m c.in_ok-n.n c.range_of_bounds-bounds.result c.between.result c.place_of.ensures c.place_of-in-Between.ensures c.range_of_bounds-bounds.ensures.is c.in_ok-m-in-Between.ensures c.in_ok-n.ensures c.between.ensures)
