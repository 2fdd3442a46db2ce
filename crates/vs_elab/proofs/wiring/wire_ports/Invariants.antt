use Rattle.std.proofs.Common.{◌≡◌, map, take}
use Rattle.vs_elaborated.specs.Elaborated.{port_assign}
use Rattle.vs_build.specs.Growth.{draft}
use Rattle.vs_scope.specs.Frames.{view_env}
use Rattle.vs_items.specs.Connections.{said}
use Rattle.vs_build.specs.Items.{and_processes}
use Rattle.vs_elab.specs.Wiring.{own_names}
use Rattle.vs_elab.proofs.wiring.wire_ports.Given as goal

-- those before this one are built
abbrev pub invariant-loop-c : goal.invariant-loop-c
invariant-loop-c l = draft l.builder ≡ and_processes (draft l.fn.builder) (map (port_assign l.place (own_names (view_env l.inside))) (said (view_env l.here) (take l.c-index l.connections)))
