use Rattle.std.proofs.Common.{◌≡◌, map, take}
use Rattle.vs_program.specs.Lowered.{home}
use Rattle.vs_lower.proofs.sleepers.homes_of.Given as goal

abbrev pub invariant-loop-n : goal.invariant-loop-n
invariant-loop-n l = l.to.items ≡ map home (take l.n l.bits)
