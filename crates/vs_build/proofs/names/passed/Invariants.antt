use Rattle.vs_build.specs.Growth.{draft}
use Rattle.vs_build.proofs.PassedSignals.{AreBuiltTo}
use Rattle.vs_build.proofs.names.passed.Given as goal

abbrev pub invariant-loop-n : goal.invariant-loop-n
invariant-loop-n g l = AreBuiltTo (draft l.fn.builder) (draft l.builder) (g.E.Env.names l.env l.name.text) l.name.place l.n
