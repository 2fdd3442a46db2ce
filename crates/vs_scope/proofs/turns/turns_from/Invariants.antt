use Rattle.std.proofs.Common.{length}
use Rattle.vs_ast.specs.Views as view
use Rattle.vs_scope.specs.Frames.{view_env}
use Rattle.vs_scope.proofs.TurnSteps.{IsTurning, whole, turns_left}
use Rattle.vs_scope.proofs.turns.turns_from.Given as goal

abbrev pub invariant-loop-next : goal.invariant-loop-next
invariant-loop-next l =
    IsTurning (view.loop_head l.head) l.is_same l.genvar (view_env l.here) (whole (view.loop_head l.head) l.is_same l.genvar (view_env l.here) l.fn.total l.fn.first) l.values.items l.seen.keys l.fault l.count l.next

abbrev pub decreases-loop-next : goal.decreases-loop-next
decreases-loop-next l = turns_left (length l.values.items) l.next
