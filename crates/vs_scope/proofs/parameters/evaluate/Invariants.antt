use Rattle.std.proofs.Common.{◌≡◌, map, drop}
use Rattle.vs_scope.specs.Complete.{IsStill}
use Rattle.vs_scope.specs.Declares.{named_list}
use Rattle.vs_scope.specs.Frames.{around_env}
use Rattle.vs_scope.specs.Overrides.{overrides_of}
use Rattle.vs_scope.specs.Views as scope
use Rattle.vs_scope.proofs.Evaluations.{IsEvaluated}
use Rattle.vs_scope.proofs.parameters.evaluate.Given as goal

abbrev pub invariant-loop-d : goal.invariant-loop-d
invariant-loop-d l =
    IsEvaluated (around_env l.around) (overrides_of l.around.frames.now l.overrides) (map scope.declaration (drop l.d-index l.declarations)) (map scope.declaration l.declarations) (scope.entries l.fn.names) (scope.entries l.names) l.fault
    × (named_list l.names ≡ named_list l.fn.names)
    × IsStill l.fn.names l.names
