use Rattle.vs_flat.specs.DesignOf.{design_of}
use Rattle.vs_accept.proofs.LeftOut.{AreLeft}
use Rattle.vs_accept.proofs.leaving.left_out.Given as goal

abbrev pub invariant-loop-p : goal.invariant-loop-p
invariant-loop-p l = AreLeft (design_of l.fn.flat) l.dead l.left l.p
