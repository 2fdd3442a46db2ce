use Rattle.vs_shape.proofs.Sources.{name_room, name_range, local_range}
use Rattle.vs_shape.proofs.shapes.Shapes.push_source.Goals as goal

pub push_selected-requires-clause-room : goal.push_selected-requires-clause-room
push_selected-requires-clause-room c = name_room c.trees_law.ensures.signals c.trees_law.ensures.counts c.flat-flat.result.now c.flat-flat.ensures.lawful c.in-Name.signal c.signal-s.result.now c.signal-s.ensures

pub push_selected-requires-clause-range : goal.push_selected-requires-clause-range
push_selected-requires-clause-range c =
    name_range c.trees_law.ensures.signals c.args.self.now c.flat-flat.result.now c.args.of c.in-Name.signal c.node_of.result.now c.signal-s.result.now c.flat-flat.ensures.same c.node_of.ensures.tree c.in-Name.is c.signal-s.ensures c.args.range c.requires.fit.range

pub push_selected-requires-in-Local-clause-range : goal.push_selected-requires-in-Local-clause-range
push_selected-requires-in-Local-clause-range c =
    local_range c.args.self.now c.flat-flat.result.now c.args.of c.in-Local.function c.in-Local.signal c.node_of.result.now c.local_of-s.result.now c.flat-flat.ensures.same c.node_of.ensures.tree c.in-Local.is c.local_of-s.ensures.is
    c.args.range c.requires.fit.range
