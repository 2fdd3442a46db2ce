use Rattle.std.proofs.Common.{map, take}
use Rattle.vs_maps.specs.MapViews.{pairs}
use Rattle.vs_items.specs.Noted.{AreFirst}
use Rattle.vs_items.specs.Ports.{name_bytes, name_only}
use Rattle.vs_items.proofs.interfaces.name_set.Given as goal

abbrev pub invariant-loop-name : goal.invariant-loop-name
invariant-loop-name l = AreFirst (pairs l.names) (map name_only (map name_bytes (take l.name-index l.list)))
