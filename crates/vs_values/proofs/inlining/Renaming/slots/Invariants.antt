use Rattle.std.proofs.Common.{◌≡◌, map, take}
use Rattle.vs_values.specs.Templates.{renamed}
use Rattle.vs_values.proofs.inlining.Renaming.slots.Given as goal

abbrev pub invariant-loop-slot : goal.invariant-loop-slot
invariant-loop-slot l = l.to.items ≡ map (renamed l.self.names.items l.self.first) (take l.slot-index l.slots)
