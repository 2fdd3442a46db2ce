use Rattle.std.proofs.Common.{refl, ◌∙◌}
use Rattle.vs_flat.specs.Arena.{signal_length}
use Rattle.vs_build.proofs.Whole.{signal_either, signal_adds, signal_number, signal_room}
use Rattle.vs_build.proofs.Begun.{stays_open}
use Rattle.vs_build.proofs.builder.Builder.add_signal.Goals as goal

pub add_signal-requires-clause-bits : goal.add_signal-requires-clause-bits
add_signal-requires-clause-bits c = signal_room c.self.inside.flat c.self.inside.roots.items c.self.inside.bodies.items c.args.self.now (signal_length c.args.signal) c.self.view_is c.requires.bits

pub invariant_of-self : goal.invariant_of-self
invariant_of-self c = (signal_either c.add_signal.result c.self.inside.flat c.add_signal.new.self c.self.inside.roots.items c.self.inside.bodies.items c.args.signal c.self.invariant.0 c.add_signal.ensures.ok c.add_signal.ensures.err, c.self.invariant.1 ∙ stays_open c.add_signal.result c.self.inside.flat c.add_signal.new.self _ c.add_signal.ensures.ok c.add_signal.ensures.err refl)

pub returns-clause-number : goal.returns-clause-number
returns-clause-number c = signal_number c.add_signal.result c.self.inside.flat c.self.inside.roots.items c.self.inside.bodies.items c.args.self.now c.self.view_is c.add_signal.ensures.number

pub returns-clause-ok : goal.returns-clause-ok
returns-clause-ok c = signal_adds c.add_signal.result c.self.inside.flat c.add_signal.new.self c.self.inside.roots.items c.self.inside.bodies.items c.args.self.now c.args.signal c.self.invariant.0 c.self.view_is c.add_signal.ensures.ok
