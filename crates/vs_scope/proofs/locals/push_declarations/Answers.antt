use Rattle.std.proofs.Common.{◌++◌, flat_map, map}
use Rattle.vs_ast.specs.Views as view
use Rattle.vs_elaborated.specs.Statements as statements
use Rattle.vs_scope.specs.Locals.{local}
use Rattle.vs_scope.proofs.Steps.{flat_more, flat_end}
use Rattle.vs_scope.proofs.locals.push_declarations.Goals as goal

pub loop-v-preserved : goal.loop-v-preserved
loop-v-preserved c =
    flat_more statements.locals_of view.variables c.args.all.now c.loop-v.v-index c.v-item.result (map local c.loop-v.list.items) (map local c.push_variables.new.list.items) (map local c.args.list.now.items ++ flat_map statements.locals_of (map view.variables c.args.all.now))
    c.loop-v-test.true c.v-item.is c.in_ok-push_variables.ensures c.loop-v.invariant

pub returns : goal.returns
returns c =
    flat_end statements.locals_of view.variables c.args.all.now c.loop-v.v-index (map local c.loop-v.list.items) (map local c.args.list.now.items ++ flat_map statements.locals_of (map view.variables c.args.all.now)) c.loop-v-test.false c.loop-v.invariant
