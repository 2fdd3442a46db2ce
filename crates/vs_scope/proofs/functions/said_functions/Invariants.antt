use Rattle.std.proofs.Common.{map, drop}
use Rattle.std.proofs.Common.{◌≡◌}
use Rattle.vs_elaborated.specs.Functions.{said_functions}
use Rattle.vs_elaborated.specs.Limits.{the_limits}
use Rattle.vs_scope.specs.Counts.{counted}
use Rattle.vs_scope.specs.Frames.{around_env}
use Rattle.vs_scope.specs.Functions.{IsSaying, functions_in}
use Rattle.vs_scope.specs.Views.{declaration, entries}
use Rattle.vs_scope.proofs.functions.said_functions.Given as goal

abbrev pub invariant-loop-d : goal.invariant-loop-d
invariant-loop-d l =
    IsSaying (around_env l.around) l.names l.said (map declaration (drop l.d-index l.declarations)) (said_functions the_limits l.fn.names.scope (around_env l.around) (counted l.fn.names.counts) (map declaration l.declarations) (entries l.fn.names))
    (functions_in (map declaration l.declarations))
    × (entries l.names ≡ entries l.fn.names)
    × (l.names.scope ≡ l.fn.names.scope)
    × (l.names.counts ≡ l.fn.names.counts)
