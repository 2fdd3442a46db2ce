-- Each goes to earlier statements, or to fewer of them; a list has fewer than 2^65.
use Rattle.std.proofs.Common.{◌+◌, ◌*◌, length, drop}
use Rattle.vs_sets.specs.Nodes.{tree_of}
use Rattle.vs_sets.specs.StatementParts.{statement_of}
use Rattle.vs_sets.proofs.TwiceSteps.{ArmsLeft}
use Rattle.vs_sets.proofs.twice.+counting.Given as goal

abbrev pub decreases-push_twice : goal.decreases-push_twice
decreases-push_twice l = 36893488147419103232 * l.s + 36893488147419103231

abbrev pub decreases-push_branch : goal.decreases-push_branch
decreases-push_branch l = 36893488147419103232 * l.s

abbrev pub decreases-push_arms : goal.decreases-push_arms
decreases-push_arms l = 36893488147419103232 * l.s + 1

abbrev pub decreases-push_all : goal.decreases-push_all
decreases-push_all l = 36893488147419103232 * l.s + length l.parts.now

abbrev pub invariant-push_arms-loop-arm : goal.invariant-push_arms-loop-arm
invariant-push_arms-loop-arm l = ArmsLeft (tree_of l.shapes) (statement_of l.shapes) l.other (drop l.arm-index l.arms) l.arms l.out.items l.initial.out.items
