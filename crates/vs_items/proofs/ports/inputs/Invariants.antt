use Rattle.std.proofs.Common.{map, take}
use Rattle.vs_maps.specs.MapViews.{pairs}
use Rattle.vs_items.specs.Noted.{AreFirst}
use Rattle.vs_items.specs.Ports.{named_port, port_of}
use Rattle.vs_items.proofs.ports.inputs.Given as goal

abbrev pub invariant-loop-port : goal.invariant-loop-port
invariant-loop-port l = AreFirst (pairs l.inputs) (map named_port (map port_of (take l.port-index l.list)))
