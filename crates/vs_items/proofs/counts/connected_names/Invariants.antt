use Rattle.std.proofs.Common.{List, map, take}
use Rattle.vs_ast.specs.Views as view
use Rattle.vs_elaborated.specs.Environments.{Env}
use Rattle.vs_elaborated.specs.Ports.{Port}
use Rattle.vs_elaborated.specs.Instances.{connected_by_name}
use Rattle.vs_maps.specs.MapViews.{pairs}
use Rattle.vs_items.specs.Counts.{HasNames}
use Rattle.vs_items.specs.PortTables.{ArePorts}
use Rattle.vs_items.proofs.counts.connected_names.Given as goal

-- those before this one are noted
abbrev pub invariant-loop-part : goal.invariant-loop-part
invariant-loop-part l = (ps : List Port) (env : Env) → ArePorts l.ports ps → HasNames (pairs l.names) (connected_by_name ps (map view.named_connection (take l.part-index l.parts)) env).connections
