use Rattle.std.proofs.Common.{◌≡◌, take}
use Rattle.vs_queue.specs.Given.{given}
use Rattle.vs_queue.proofs.drive.update_of.Given as goal

abbrev pub invariant-loop-n : goal.invariant-loop-n
invariant-loop-n l = l.update ≡ given l.first (take l.n l.value)
