use Rattle.std.proofs.Common.{◌<◌, ◌≤◌, length, drop}
use Rattle.vs_ast.specs.Views as view
use Rattle.vs_const.specs.Found.{Finds}
use Rattle.vs_const.specs.Checks.{ChecksArguments}
use Rattle.vs_const.specs.Needs.{is_needed, names_for}
use Rattle.vs_const.specs.Expressions.{typed_parts, typed_arguments}
use Rattle.vs_const.proofs.checks.+evaluation.Given as goal

abbrev pub decreases-find_parts-loop-i : goal.decreases-find_parts-loop-i
decreases-find_parts-loop-i g l = l.i

abbrev pub invariant-find_parts-loop-i : goal.invariant-find_parts-loop-i
invariant-find_parts-loop-i g l = (l.i < length l.parts) × Finds (is_needed l.need) l.whole (typed_parts (view.exprs (drop l.i l.parts)) (names_for l.need (g.E.Env.names l.env)) (is_needed l.need))

abbrev pub decreases-find_arguments-loop-i : goal.decreases-find_arguments-loop-i
decreases-find_arguments-loop-i g l = l.i

abbrev pub invariant-find_arguments-loop-i : goal.invariant-find_arguments-loop-i
invariant-find_arguments-loop-i g l = (l.i ≤ length l.arguments) × ChecksArguments l.said (typed_arguments (view.exprs (drop l.i l.arguments)) (names_for l.need (g.E.Env.names l.env)) (is_needed l.need))
