use Rattle.std.proofs.Common.{true, ◌+◌, ◌<◌, ◌≡◌, length, ap, subst, sym}
use Rattle.vs_design.specs.Expressions as E
use Rattle.vs_design.specs.Designs.{Design}
use Rattle.vs_design.specs.Elaborated.{is_plain}
use Rattle.vs_grammar.specs.Depths.{target_depth}
use Rattle.vs_ast.specs.Views as view
use Rattle.vs_flat.specs.Trees.{signal_at}
use Rattle.vs_build.specs.Drafts.{AddsExpression}
use Rattle.vs_build.specs.Growth.{draft}
use Rattle.vs_build.specs.Outputs.{output_of, output_expression}
use Rattle.vs_build.proofs.Arms.{same_design, stays_outside}
use Rattle.vs_build.proofs.AssignFacts.{there_outside, plain_outside, name_outside, room_after, ok_is}
use Rattle.vs_build.proofs.OutputFacts.{output_ends, output_is}
use Rattle.vs_build.proofs.outputs.output_port.Goals as goal

pub name-requires-clause-there : goal.name-requires-clause-there
name-requires-clause-there g c = there_outside (draft c.output.new.builder) c.args.inner (stays_outside (draft c.args.builder.now) (draft c.output.new.builder) (output_expression (view.expr c.args.e.now) (g.E.Env.names c.args.env.now)) (1 + target_depth (output_of (view.expr c.args.e.now))) c.in_ok-output.ensures c.requires.outside) (subst (λ (d : Design). c.args.inner < length d.signals) (same_design (draft c.args.builder.now) (draft c.output.new.builder) (output_expression (view.expr c.args.e.now) (g.E.Env.names c.args.env.now)) (1 + target_depth (output_of (view.expr c.args.e.now))) c.in_ok-output.ensures) c.requires.there)

pub name-requires-clause-formed : goal.name-requires-clause-formed
name-requires-clause-formed g c = plain_outside (draft c.output.new.builder) c.args.inner (stays_outside (draft c.args.builder.now) (draft c.output.new.builder) (output_expression (view.expr c.args.e.now) (g.E.Env.names c.args.env.now)) (1 + target_depth (output_of (view.expr c.args.e.now))) c.in_ok-output.ensures c.requires.outside) (subst (λ (d : Design). is_plain d (signal_at d.signals c.args.inner) ≡ true) (same_design (draft c.args.builder.now) (draft c.output.new.builder) (output_expression (view.expr c.args.e.now) (g.E.Env.names c.args.env.now)) (1 + target_depth (output_of (view.expr c.args.e.now))) c.in_ok-output.ensures) c.requires.signal)

pub assign-requires-clause-room : goal.assign-requires-clause-room
assign-requires-clause-room g c = room_after (draft c.args.builder.now) (draft c.output.new.builder) (draft c.name.new.self) (output_expression (view.expr c.args.e.now) (g.E.Env.names c.args.env.now)) (E.At c.args.place (E.Name (signal_at (draft c.args.builder.now).design.signals c.args.inner))) (1 + target_depth (output_of (view.expr c.args.e.now))) 1 c.in_ok-output.ensures (subst (λ x. AddsExpression (draft c.output.new.builder) (draft c.name.new.self) (E.At c.args.place (E.Name x)) 1) (ap (λ (d : Design). signal_at d.signals c.args.inner) (sym (same_design (draft c.args.builder.now) (draft c.output.new.builder) (output_expression (view.expr c.args.e.now) (g.E.Env.names c.args.env.now)) (1 + target_depth (output_of (view.expr c.args.e.now))) c.in_ok-output.ensures))) (name_outside (draft c.output.new.builder) (draft c.name.new.self) c.args.inner c.args.place (stays_outside (draft c.args.builder.now) (draft c.output.new.builder) (output_expression (view.expr c.args.e.now) (g.E.Env.names c.args.env.now)) (1 + target_depth (output_of (view.expr c.args.e.now))) c.in_ok-output.ensures c.requires.outside) c.in_ok-name.ensures)) c.requires.room

pub assign-requires-clause-outside : goal.assign-requires-clause-outside
assign-requires-clause-outside g c = stays_outside (draft c.output.new.builder) (draft c.name.new.self) (E.At c.args.place (E.Name (signal_at (draft c.output.new.builder).design.signals c.args.inner))) 1 (name_outside (draft c.output.new.builder) (draft c.name.new.self) c.args.inner c.args.place (stays_outside (draft c.args.builder.now) (draft c.output.new.builder) (output_expression (view.expr c.args.e.now) (g.E.Env.names c.args.env.now)) (1 + target_depth (output_of (view.expr c.args.e.now))) c.in_ok-output.ensures c.requires.outside) c.in_ok-name.ensures) (stays_outside (draft c.args.builder.now) (draft c.output.new.builder) (output_expression (view.expr c.args.e.now) (g.E.Env.names c.args.env.now)) (1 + target_depth (output_of (view.expr c.args.e.now))) c.in_ok-output.ensures c.requires.outside)

pub assign-requires-clause-ends : goal.assign-requires-clause-ends
assign-requires-clause-ends g c = output_ends (draft c.args.builder.now) (draft c.output.new.builder) (draft c.name.new.self) (g.E.Env.names c.args.env.now) (view.expr c.args.e.now) (E.At c.args.place (E.Name (signal_at (draft c.args.builder.now).design.signals c.args.inner))) (1 + target_depth (output_of (view.expr c.args.e.now))) 1 c.requires.fine c.in_ok-output.ensures (subst (λ x. AddsExpression (draft c.output.new.builder) (draft c.name.new.self) (E.At c.args.place (E.Name x)) 1) (ap (λ (d : Design). signal_at d.signals c.args.inner) (sym (same_design (draft c.args.builder.now) (draft c.output.new.builder) (output_expression (view.expr c.args.e.now) (g.E.Env.names c.args.env.now)) (1 + target_depth (output_of (view.expr c.args.e.now))) c.in_ok-output.ensures))) (name_outside (draft c.output.new.builder) (draft c.name.new.self) c.args.inner c.args.place (stays_outside (draft c.args.builder.now) (draft c.output.new.builder) (output_expression (view.expr c.args.e.now) (g.E.Env.names c.args.env.now)) (1 + target_depth (output_of (view.expr c.args.e.now))) c.in_ok-output.ensures c.requires.outside) c.in_ok-name.ensures))

pub returns : goal.returns
returns g c =
    ok_is c.assign.result (draft c.assign.new.self) _ _ (output_is (draft c.args.builder.now) (g.E.Env.names c.args.env.now) c.args.place (signal_at (draft c.args.builder.now).design.signals c.args.inner) (view.expr c.args.e.now) c.requires.fine) (c.assign.ensures (draft c.args.builder.now) (draft c.output.new.builder) (output_expression (view.expr c.args.e.now) (g.E.Env.names c.args.env.now)) (E.At c.args.place (E.Name (signal_at (draft c.args.builder.now).design.signals c.args.inner))) (1 + target_depth (output_of (view.expr c.args.e.now))) 1 c.in_ok-output.ensures (subst (λ x. AddsExpression (draft c.output.new.builder) (draft c.name.new.self) (E.At c.args.place (E.Name x)) 1) (ap (λ (d : Design). signal_at d.signals c.args.inner) (sym (same_design (draft c.args.builder.now) (draft c.output.new.builder) (output_expression (view.expr c.args.e.now) (g.E.Env.names c.args.env.now)) (1 + target_depth (output_of (view.expr c.args.e.now))) c.in_ok-output.ensures))) (name_outside (draft c.output.new.builder) (draft c.name.new.self) c.args.inner c.args.place (stays_outside (draft c.args.builder.now) (draft c.output.new.builder) (output_expression (view.expr c.args.e.now) (g.E.Env.names c.args.env.now)) (1 + target_depth (output_of (view.expr c.args.e.now))) c.in_ok-output.ensures c.requires.outside) c.in_ok-name.ensures)))
