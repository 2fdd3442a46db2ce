use Rattle.std.proofs.Common.{arith}
use Rattle.vs_stim.proofs.Ahead.{planes_count}
use Rattle.vs_stim.proofs.digits.Digits.bits.Goals as goal

pub of_planes-requires-clause-some : goal.of_planes-requires-clause-some
of_planes-requires-clause-some c = omega (arith, c.requires, planes_count c.self.inside.len c.self.inside.value c.self.inside.unknown c.args.self.now c.self.view_is)
