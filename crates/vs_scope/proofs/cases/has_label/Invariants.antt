use Rattle.std.proofs.Common.{◌≡◌, map, drop}
use Rattle.vs_ast.specs.Views as view
use Rattle.vs_elaborated.specs.Constructs.{same_bits}
use Rattle.vs_scope.specs.Cases.{has_value}
use Rattle.vs_scope.specs.Frames.{view_env}
use Rattle.vs_scope.proofs.cases.has_label.Given as goal

abbrev pub invariant-loop-e : goal.invariant-loop-e
invariant-loop-e l =
    has_value (same_bits l.subject) l.width l.signed (view_env l.here) (map view.expr (drop l.e-index l.list)) ≡ has_value (same_bits l.subject) l.width l.signed (view_env l.here) (map view.expr l.list)
