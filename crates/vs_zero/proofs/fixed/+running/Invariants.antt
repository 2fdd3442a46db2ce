-- Each goes to earlier statements; a list has fewer than 2^65.
use Rattle.std.proofs.Common.{◌≡◌, ◌+◌, ◌*◌, drop, map}
use Rattle.vs_flat.specs.Trees.{sequence}
use Rattle.vs_sets.specs.StatementParts.{statement_of}
use Rattle.vs_zero.specs.Constants.{given}
use Rattle.vs_zero.specs.States.{state_of}
use Rattle.vs_zero.proofs.fixed.+running.Given as goal

abbrev pub decreases-run_part : goal.decreases-run_part
decreases-run_part l = 2 * l.s + 1

abbrev pub decreases-run_all : goal.decreases-run_all
decreases-run_all l = 2 * l.s

abbrev pub decreases-run_branch : goal.decreases-run_branch
decreases-run_branch l = 2 * l.s

abbrev pub invariant-run_all-loop-part : goal.invariant-run_all-loop-part
invariant-run_all-loop-part l =
    given l.at_once (sequence (map (statement_of l.shapes) (drop l.part-index l.parts))) (state_of l.state) ≡ given l.at_once (sequence (map (statement_of l.shapes) l.parts)) (state_of l.initial.state)
