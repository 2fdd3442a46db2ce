use Rattle.std.proofs.Common.{List, map, ap, ◌∙◌}
use Rattle.std.proofs.lemmas.List.{take_all}
use Rattle.vs_elaborated.specs.Elaborated.{port_assign}
use Rattle.vs_elaborated.specs.Environments.{named}
use Rattle.vs_build.specs.Growth.{draft}
use Rattle.vs_scope.specs.Frames.{view_env}
use Rattle.vs_items.specs.declared.connections.Connection.{Connection}
use Rattle.vs_items.specs.Connections.{said}
use Rattle.vs_build.specs.Items.{and_processes}
use Rattle.vs_elab.specs.Wiring.{own_names}
use Rattle.vs_elab.proofs.PortWiring.{wired_nothing, wired_more, wirable_at, room_at}
use Rattle.vs_elab.proofs.wiring.wire_ports.Goals as goal

pub loop-c-init : goal.loop-c-init
loop-c-init c = wired_nothing (draft c.args.builder.now)

pub loop-c-preserved : goal.loop-c-preserved
loop-c-preserved c =
    wired_more (draft c.args.builder.now) (draft c.loop-c.builder) (draft c.wire_port.new.builder) c.args.place (view_env c.args.here.now) (own_names (view_env c.args.inside.now)) c.args.connections.now c.loop-c.c-index c.c-item.result
    c.loop-c-test.true c.c-item.is c.loop-c.invariant c.in_ok-wire_port.ensures

pub wire_port-requires-clause-room : goal.wire_port-requires-clause-room
wire_port-requires-clause-room c =
    room_at (draft c.args.builder.now) (draft c.loop-c.builder) c.args.place (view_env c.args.here.now) (own_names (view_env c.args.inside.now)) c.args.connections.now c.loop-c.c-index c.loop-c-test.true c.requires.room c.loop-c.invariant

pub wire_port-requires-clause-fine : goal.wire_port-requires-clause-fine
wire_port-requires-clause-fine c =
    wirable_at (draft c.args.builder.now) (draft c.loop-c.builder) (named (view_env c.args.here.now)) (own_names (view_env c.args.inside.now)) c.args.connections.now c.loop-c.c-index c.c-item.result _ c.loop-c-test.true c.c-item.is c.loop-c.invariant c.requires.fine

pub returns : goal.returns
returns c =
    c.loop-c.invariant
    ∙ ap (λ (xs : List Connection). and_processes (draft c.args.builder.now) (map (port_assign c.args.place (own_names (view_env c.args.inside.now))) (said (view_env c.args.here.now) xs))) (take_all c.loop-c.c-index c.args.connections.now c.loop-c-test.false)
