use Rattle.vs_vcd.proofs.Linking.{AreShort}
use Rattle.vs_vcd.proofs.links.shorten.Given as goal

abbrev pub invariant-loop-n : goal.invariant-loop-n
invariant-loop-n l = AreShort l.fn.links l.links l.n
