use Rattle.std.proofs.Common.{drop}
use Rattle.vs_build.specs.Growth.{draft}
use Rattle.vs_scope.specs.Frames.{around_env}
use Rattle.vs_elab.proofs.BuiltFunctions.{IsBuilding}
use Rattle.vs_elab.proofs.functions.add_functions.Given as goal

-- those before this one are built
abbrev pub invariant-loop-f : goal.invariant-loop-f
invariant-loop-f l = IsBuilding (around_env l.around) l.names l.whole (draft l.fn.builder) (draft l.builder) (drop l.f-index l.f-items)
