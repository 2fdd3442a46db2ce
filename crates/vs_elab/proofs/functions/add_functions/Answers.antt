use Rattle.std.proofs.Common.{◌+◌, List, drop, sym, subst}
use Rattle.std.specs.Borrow.{Bor}
use Rattle.std.proofs.lemmas.List.{drop_all}
use Rattle.vs_ast.specs.declared.items.Function.{Function}
use Rattle.vs_ast.specs.Views as view
use Rattle.vs_grammar.specs.Shapes.{Each, IsFunction}
use Rattle.vs_build.specs.Growth.{draft}
use Rattle.vs_scope.specs.Frames.{around_env}
use Rattle.vs_elab.proofs.BuiltFunctions.{IsBuilding, all_built, building_first, building_more, can_build, declarations, rest_is, shaped_at}
use Rattle.vs_elab.proofs.functions.add_functions.Goals as goal

pub loop-f-init : goal.loop-f-init
loop-f-init c =
    let outer = around_env c.args.around in
    let whole = c.args.whole.now in
    let old = draft c.args.builder.now in
    subst (λ (gs : List (Bor Function)). IsBuilding outer c.in_ok-names.names whole old old gs) (sym c.deref-f-items.ensures.value)
    (building_first outer whole c.in_ok-names.names old (c.in_ok-names.ensures outer) c.requires.idle c.requires.fine)

pub add_function-requires-clause-idle : goal.add_function-requires-clause-idle
add_function-requires-clause-idle c = c.loop-f.invariant.idle

pub add_function-requires-clause-shaped : goal.add_function-requires-clause-shaped
add_function-requires-clause-shaped c =
    let outer = around_env c.args.around in
    let whole = c.args.whole.now in
    let old = draft c.args.builder.now in
    let fs = c.deref-f-items.result.now in
    let i = c.loop-f.f-index in
    shaped_at fs i c.f-item.result c.loop-f-test.true c.f-item.is (subst (Each (λ (g : Bor Function). IsFunction (view.function g.now))) (sym c.deref-f-items.ensures.value) c.requires.shaped)

pub add_function-requires-clause-kept : goal.add_function-requires-clause-kept
add_function-requires-clause-kept c = c.loop-f.invariant.part.kept

pub add_function-requires-clause-fine : goal.add_function-requires-clause-fine
add_function-requires-clause-fine c =
    let outer = around_env c.args.around in
    let whole = c.args.whole.now in
    let old = draft c.args.builder.now in
    let fs = c.deref-f-items.result.now in
    let i = c.loop-f.f-index in
    let f = c.f-item.result in
    let is = rest_is fs i f c.loop-f-test.true c.f-item.is in
    let b = subst (λ (gs : List (Bor Function)). IsBuilding outer c.loop-f.names whole old (draft c.loop-f.builder) gs) is c.loop-f.invariant in
    can_build outer whole c.loop-f.names old (draft c.loop-f.builder) f (drop (i + 1) fs) b

pub loop-f-preserved : goal.loop-f-preserved
loop-f-preserved c =
    let outer = around_env c.args.around in
    let whole = c.args.whole.now in
    let old = draft c.args.builder.now in
    let fs = c.deref-f-items.result.now in
    let i = c.loop-f.f-index in
    let f = c.f-item.result in
    let is = rest_is fs i f c.loop-f-test.true c.f-item.is in
    let b = subst (λ (gs : List (Bor Function)). IsBuilding outer c.loop-f.names whole old (draft c.loop-f.builder) gs) is c.loop-f.invariant in
    building_more outer whole c.loop-f.names c.with_function.new.self old (draft c.loop-f.builder) (draft c.add_function.new.builder) f (drop (i + 1) fs) b (c.in_ok-with_function.ensures outer (declarations (drop (i + 1) fs)) c.requires.kept b.part) c.in_ok-add_function.ensures

pub returns : goal.returns
returns c =
    let outer = around_env c.args.around in
    let whole = c.args.whole.now in
    let old = draft c.args.builder.now in
    let fs = c.deref-f-items.result.now in
    let i = c.loop-f.f-index in
    all_built outer whole c.loop-f.names old (draft c.loop-f.builder)
    (subst (λ (gs : List (Bor Function)). IsBuilding outer c.loop-f.names whole old (draft c.loop-f.builder) gs) (drop_all i fs c.loop-f-test.false) c.loop-f.invariant)
