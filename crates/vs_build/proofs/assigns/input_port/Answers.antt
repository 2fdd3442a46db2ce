use Rattle.std.proofs.Common.{false, ◌+◌}
use Rattle.vs_design.specs.Expressions as E
use Rattle.vs_grammar.specs.Depths.{expr_depth}
use Rattle.vs_ast.specs.Views as view
use Rattle.vs_const.specs.Expressions.{typed}
use Rattle.vs_flat.specs.Trees.{signal_at}
use Rattle.vs_build.specs.Growth.{draft}
use Rattle.vs_build.proofs.Arms.{stays_outside}
use Rattle.vs_build.proofs.AssignFacts.{there_outside, plain_outside, name_outside, value_after, room_after, input_ends}
use Rattle.vs_build.proofs.assigns.input_port.Goals as goal

pub name-requires-clause-there : goal.name-requires-clause-there
name-requires-clause-there g c = there_outside (draft c.args.builder.now) c.args.inner c.requires.outside c.requires.there

pub name-requires-clause-formed : goal.name-requires-clause-formed
name-requires-clause-formed g c = plain_outside (draft c.args.builder.now) c.args.inner c.requires.outside c.requires.signal

pub operand-requires : goal.operand-requires
operand-requires g c = value_after (draft c.args.builder.now) (draft c.name.new.self) (E.At c.args.place (E.Name (signal_at (draft c.args.builder.now).design.signals c.args.inner))) 1 (g.E.Env.names c.args.env.now) (view.expr c.args.e.now) (name_outside (draft c.args.builder.now) (draft c.name.new.self) c.args.inner c.args.place c.requires.outside c.in_ok-name.ensures) c.requires.fine

pub assign-requires-clause-room : goal.assign-requires-clause-room
assign-requires-clause-room g c = room_after (draft c.args.builder.now) (draft c.name.new.self) (draft c.operand.new.builder) (E.At c.args.place (E.Name (signal_at (draft c.args.builder.now).design.signals c.args.inner))) (typed (view.expr c.args.e.now) (g.E.Env.names c.args.env.now) false).expression 1 (1 + expr_depth (view.expr c.args.e.now)) (name_outside (draft c.args.builder.now) (draft c.name.new.self) c.args.inner c.args.place c.requires.outside c.in_ok-name.ensures) c.in_ok-operand.ensures c.requires.room

pub assign-requires-clause-outside : goal.assign-requires-clause-outside
assign-requires-clause-outside g c = stays_outside (draft c.name.new.self) (draft c.operand.new.builder) (typed (view.expr c.args.e.now) (g.E.Env.names c.args.env.now) false).expression (1 + expr_depth (view.expr c.args.e.now)) c.in_ok-operand.ensures (stays_outside (draft c.args.builder.now) (draft c.name.new.self) (E.At c.args.place (E.Name (signal_at (draft c.args.builder.now).design.signals c.args.inner))) 1 (name_outside (draft c.args.builder.now) (draft c.name.new.self) c.args.inner c.args.place c.requires.outside c.in_ok-name.ensures) c.requires.outside)

pub assign-requires-clause-ends : goal.assign-requires-clause-ends
assign-requires-clause-ends g c = input_ends (draft c.args.builder.now) (draft c.name.new.self) (draft c.operand.new.builder) c.args.place (signal_at (draft c.args.builder.now).design.signals c.args.inner) (typed (view.expr c.args.e.now) (g.E.Env.names c.args.env.now) false).expression 1 (1 + expr_depth (view.expr c.args.e.now)) (name_outside (draft c.args.builder.now) (draft c.name.new.self) c.args.inner c.args.place c.requires.outside c.in_ok-name.ensures) c.in_ok-operand.ensures

pub returns : goal.returns
returns g c = c.assign.ensures (draft c.args.builder.now) (draft c.name.new.self) (E.At c.args.place (E.Name (signal_at (draft c.args.builder.now).design.signals c.args.inner))) (typed (view.expr c.args.e.now) (g.E.Env.names c.args.env.now) false).expression 1 (1 + expr_depth (view.expr c.args.e.now)) (name_outside (draft c.args.builder.now) (draft c.name.new.self) c.args.inner c.args.place c.requires.outside c.in_ok-name.ensures) c.in_ok-operand.ensures
