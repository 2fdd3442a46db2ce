-- What a table of ports has.
use Rattle.std.specs.Prelude.{◌≡◌, List, map}
use Rattle.vs_elaborated.specs.Ports as ports
use Rattle.vs_maps.specs.MapViews.{pairs}
use Rattle.vs_items.specs.declared.ports.Ports.{Ports}
use Rattle.vs_items.specs.Noted.{AreFirst}
use Rattle.vs_items.specs.Ports.{port_of, named_port}

-- these ports, in order and by their names
pub record ArePorts (p : Ports) (ps : List ports.Port) : Type 0 where
  pub list : map port_of p.list.items ≡ ps
  pub inputs : AreFirst (pairs p.inputs) (map named_port ps)
