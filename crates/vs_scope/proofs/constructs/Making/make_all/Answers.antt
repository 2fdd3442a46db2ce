use Rattle.std.proofs.Common.{ℕ, suc, List, map, drop, sym, subst, add-one}
use Rattle.vs_ast.specs.Views as view
use Rattle.vs_ast.specs.declared.items.Item.{Item}
use Rattle.vs_scope.specs.Chosen.{IsConstruct, IsMaking}
use Rattle.vs_scope.specs.Frames.{view_env}
use Rattle.vs_scope.proofs.Steps.{from_place, none_left}
use Rattle.vs_scope.proofs.CaseLabels.{each_at}
use Rattle.vs_scope.proofs.constructs.Making.make_all.Goals as goal

pub make-requires-clause-shaped : goal.make-requires-clause-shaped
make-requires-clause-shaped c = each_at IsConstruct view.item c.args.items.now c.loop-item.item-index c.item-item.result c.loop-item-test.true c.item-item.is c.requires.shaped

pub loop-item-init : goal.loop-item-init
loop-item-init c = λ before all h. h

pub loop-item-preserved : goal.loop-item-preserved
loop-item-preserved c = λ before all h.
    let items = c.args.items.now in
    let env = view_env c.args.here.now in
    let i = c.loop-item.item-index in
    subst (λ (n : ℕ). IsMaking c.make.new.self env before (map view.item (drop n items)) all) (sym (add-one i))
    (c.in_ok-make.ensures before (map view.item (drop (suc i) items)) all
    (subst (λ (x : List Item). IsMaking c.loop-item.self env before (map view.item x) all) (from_place items i c.item-item.result c.loop-item-test.true c.item-item.is) (c.loop-item.invariant before all h)))

pub returns : goal.returns
returns c = λ before all h.
    let items = c.args.items.now in
    subst (λ (x : List Item). IsMaking c.loop-item.self (view_env c.args.here.now) before (map view.item x) all) (none_left items c.loop-item.item-index c.loop-item-test.false) (c.loop-item.invariant before all h)
