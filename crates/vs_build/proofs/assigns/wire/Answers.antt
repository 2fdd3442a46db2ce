use Rattle.std.proofs.Common.{false, ◌+◌}
use Rattle.vs_grammar.specs.Depths.{expr_depth}
use Rattle.vs_ast.specs.Views as view
use Rattle.vs_const.specs.Expressions.{typed}
use Rattle.vs_build.specs.Drafts.{home}
use Rattle.vs_build.specs.Growth.{draft}
use Rattle.vs_build.specs.Writable.{target_expression, wire_assign}
use Rattle.vs_build.proofs.Arms.{stays_outside}
use Rattle.vs_build.proofs.AssignFacts.{assign_value, value_after, room_after, assign_ends, assign_is, ok_is, wire_name}
use Rattle.vs_build.proofs.assigns.wire.Goals as goal

pub name_alone-requires : goal.name_alone-requires
name_alone-requires g c = wire_name (home (draft c.args.builder.now)) (g.E.Env.names c.args.env.now) (view.name c.args.name.now) (view.expr c.args.e.now) c.requires.fine

pub operand-requires : goal.operand-requires
operand-requires g c = value_after (draft c.args.builder.now) (draft c.name_alone.new.builder) (target_expression (wire_assign (view.name c.args.name.now) (view.expr c.args.e.now)).target (g.E.Env.names c.args.env.now) false) 1 (g.E.Env.names c.args.env.now) (view.expr c.args.e.now) c.in_ok-name_alone.ensures (assign_value (home (draft c.args.builder.now)) (g.E.Env.names c.args.env.now) (wire_assign (view.name c.args.name.now) (view.expr c.args.e.now)) c.requires.fine)

pub assign-requires-clause-room : goal.assign-requires-clause-room
assign-requires-clause-room g c = room_after (draft c.args.builder.now) (draft c.name_alone.new.builder) (draft c.operand.new.builder) (target_expression (wire_assign (view.name c.args.name.now) (view.expr c.args.e.now)).target (g.E.Env.names c.args.env.now) false) (typed (view.expr c.args.e.now) (g.E.Env.names c.args.env.now) false).expression 1 (1 + expr_depth (view.expr c.args.e.now)) c.in_ok-name_alone.ensures c.in_ok-operand.ensures c.requires.room

pub assign-requires-clause-outside : goal.assign-requires-clause-outside
assign-requires-clause-outside g c = stays_outside (draft c.name_alone.new.builder) (draft c.operand.new.builder) (typed (view.expr c.args.e.now) (g.E.Env.names c.args.env.now) false).expression (1 + expr_depth (view.expr c.args.e.now)) c.in_ok-operand.ensures (stays_outside (draft c.args.builder.now) (draft c.name_alone.new.builder) (target_expression (wire_assign (view.name c.args.name.now) (view.expr c.args.e.now)).target (g.E.Env.names c.args.env.now) false) 1 c.in_ok-name_alone.ensures c.requires.outside)

pub assign-requires-clause-ends : goal.assign-requires-clause-ends
assign-requires-clause-ends g c = assign_ends (draft c.args.builder.now) (draft c.name_alone.new.builder) (draft c.operand.new.builder) (g.E.Env.names c.args.env.now) (wire_assign (view.name c.args.name.now) (view.expr c.args.e.now)) (typed (view.expr c.args.e.now) (g.E.Env.names c.args.env.now) false).expression 1 (1 + expr_depth (view.expr c.args.e.now)) c.requires.fine c.in_ok-name_alone.ensures c.in_ok-operand.ensures

pub returns : goal.returns
returns g c =
    ok_is c.assign.result (draft c.assign.new.self) _ _ (assign_is (draft c.args.builder.now) (g.E.Env.names c.args.env.now) c.args.place (wire_assign (view.name c.args.name.now) (view.expr c.args.e.now)) c.requires.fine) (c.assign.ensures (draft c.args.builder.now) (draft c.name_alone.new.builder) (target_expression (wire_assign (view.name c.args.name.now) (view.expr c.args.e.now)).target (g.E.Env.names c.args.env.now) false) (typed (view.expr c.args.e.now) (g.E.Env.names c.args.env.now) false).expression 1 (1 + expr_depth (view.expr c.args.e.now)) c.in_ok-name_alone.ensures c.in_ok-operand.ensures)
