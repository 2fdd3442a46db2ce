use Rattle.std.proofs.Common.{◌+◌, arith}
use Rattle.vs_grammar.specs.Depths.{statement_depth}
use Rattle.vs_ast.specs.Views as view
use Rattle.vs_build.specs.Growth.{draft}
use Rattle.vs_build.specs.Executable.{begun}
use Rattle.vs_build.proofs.Awaiting.{still_outside, block_ends, few_initials}
use Rattle.vs_build.proofs.blocks.initial.Goals as goal

pub statement-requires : goal.statement-requires
statement-requires g c = c.requires.fine

pub initial-requires-clause-room : goal.initial-requires-clause-room
initial-requires-clause-room g c = few_initials (draft c.args.builder.now) (draft c.statement.new.builder) (begun (view.initial_block c.args.block.now).statement (g.E.Env.names c.args.env.now)) (1 + statement_depth (view.initial_block c.args.block.now).statement) c.in_ok-statement.ensures c.requires.room

pub initial-requires-clause-outside : goal.initial-requires-clause-outside
initial-requires-clause-outside g c = still_outside (draft c.args.builder.now) (draft c.statement.new.builder) (begun (view.initial_block c.args.block.now).statement (g.E.Env.names c.args.env.now)) (1 + statement_depth (view.initial_block c.args.block.now).statement) c.in_ok-statement.ensures c.requires.outside

pub initial-requires-clause-ends : goal.initial-requires-clause-ends
initial-requires-clause-ends g c = block_ends (draft c.args.builder.now) (draft c.statement.new.builder) (begun (view.initial_block c.args.block.now).statement (g.E.Env.names c.args.env.now)) (1 + statement_depth (view.initial_block c.args.block.now).statement) c.in_ok-statement.ensures (omega (arith, c.requires.fine.shallow))

pub returns : goal.returns
returns g c = c.initial.ensures (draft c.args.builder.now) (begun (view.initial_block c.args.block.now).statement (g.E.Env.names c.args.env.now)) (1 + statement_depth (view.initial_block c.args.block.now).statement) c.in_ok-statement.ensures
