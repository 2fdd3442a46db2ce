use Rattle.std.proofs.Common.{◌+◌, arith}
use Rattle.vs_grammar.specs.Depths.{statement_depth}
use Rattle.vs_ast.specs.Views as view
use Rattle.vs_build.specs.Growth.{draft}
use Rattle.vs_build.specs.Executable.{begun, value_assignment}
use Rattle.vs_build.proofs.Awaiting.{still_outside, block_ends, few_initials}
use Rattle.vs_build.proofs.values.value.Goals as goal

pub initial-requires-clause-room : goal.initial-requires-clause-room
initial-requires-clause-room g c = few_initials (draft c.args.builder.now) (draft c.assigned.new.builder) (begun (value_assignment (view.name c.args.name.now) (view.expr c.args.e.now)) (g.E.Env.names c.args.env.now)) (1 + statement_depth (value_assignment (view.name c.args.name.now) (view.expr c.args.e.now))) c.in_ok-assigned.ensures c.requires.room

pub initial-requires-clause-outside : goal.initial-requires-clause-outside
initial-requires-clause-outside g c = still_outside (draft c.args.builder.now) (draft c.assigned.new.builder) (begun (value_assignment (view.name c.args.name.now) (view.expr c.args.e.now)) (g.E.Env.names c.args.env.now)) (1 + statement_depth (value_assignment (view.name c.args.name.now) (view.expr c.args.e.now))) c.in_ok-assigned.ensures c.requires.outside

pub initial-requires-clause-ends : goal.initial-requires-clause-ends
initial-requires-clause-ends g c = block_ends (draft c.args.builder.now) (draft c.assigned.new.builder) (begun (value_assignment (view.name c.args.name.now) (view.expr c.args.e.now)) (g.E.Env.names c.args.env.now)) (1 + statement_depth (value_assignment (view.name c.args.name.now) (view.expr c.args.e.now))) c.in_ok-assigned.ensures (omega (arith, c.requires.fine.shallow))

pub returns : goal.returns
returns g c = c.initial.ensures (draft c.args.builder.now) (begun (value_assignment (view.name c.args.name.now) (view.expr c.args.e.now)) (g.E.Env.names c.args.env.now)) (1 + statement_depth (value_assignment (view.name c.args.name.now) (view.expr c.args.e.now))) c.in_ok-assigned.ensures
