use Rattle.std.proofs.Common.{ap, ◌∙◌}
use Rattle.vs_ast.specs.Views as view
use Rattle.vs_elaborated.specs.Uses.{is_variable_in}
use Rattle.vs_scope.proofs.LocalLists.{variable_none, variable_more, variable_end}
use Rattle.vs_scope.proofs.locals.push_used_in.Goals as goal

pub loop-v-init : goal.loop-v-init
loop-v-init c = variable_none (is_variable_in (view.statement c.args.s.now)) c.args.all.now c.args.list.now.items

pub loop-v-preserved : goal.loop-v-preserved
loop-v-preserved c =
    let used = is_variable_in (view.statement c.args.s.now) in
    variable_more used c.args.all.now c.args.list.now.items c.loop-v.list.items c.push_variable.new.list.items c.loop-v.v-index c.v-item.result c.is_variable_in-used.result c.loop-v-test.true c.v-item.is (c.is_variable_in-used.ensures ∙ ap used c.as_slice.ensures) c.loop-v.invariant c.in_ok-push_variable.ensures

pub returns : goal.returns
returns c = variable_end (is_variable_in (view.statement c.args.s.now)) c.args.all.now c.args.list.now.items c.loop-v.list.items c.loop-v.v-index c.loop-v-test.false c.loop-v.invariant
