use Rattle.std.proofs.Common.{◌≡◌, drop}
use Rattle.vs_ast.specs.Views as view
use Rattle.vs_elaborated.specs.Constructs.{arm_of, same_bits}
use Rattle.vs_scope.specs.Frames.{view_env}
use Rattle.vs_scope.proofs.CaseLabels.{shifted}
use Rattle.vs_scope.proofs.cases.arm_of.Given as goal

abbrev pub invariant-loop-k : goal.invariant-loop-k
invariant-loop-k l =
    arm_of (same_bits l.subject) l.width l.signed (view_env l.here) (view.generate_arms l.arms) ≡ shifted l.k (arm_of (same_bits l.subject) l.width l.signed (view_env l.here) (view.generate_arms (drop l.k l.arms)))
