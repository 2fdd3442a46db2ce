use Rattle.vs_build.proofs.Cutting.{IsCutSoFar}
use Rattle.vs_build.proofs.builder.cut.Given as goal

abbrev pub invariant-loop-arm : goal.invariant-loop-arm
invariant-loop-arm l = IsCutSoFar l.arms l.labels l.statements l.arm-index l.next l.number l.made.items
