use Rattle.std.proofs.Common.{arith}
use Rattle.vs_stim.proofs.Marked.{view_length}
use Rattle.vs_stim.proofs.wanted.WantedDigits.wanted.Goals as goal

pub bits-requires : goal.bits-requires
bits-requires c = omega (arith, c.requires, view_length c.self.inside.bits c.self.inside.any c.args.self.now c.self.view_is)
