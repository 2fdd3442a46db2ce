-- Each goes to earlier expressions.
use Rattle.std.proofs.Common.{◌≡◌, ◌≤◌, ◌+◌, ◌*◌, map, drop}
use Rattle.vs_shape.specs.Nodes.{tree_of}
use Rattle.vs_flat.specs.Trees.{signals_from}
use Rattle.vs_typed.specs.Weights.{call_inputs, capped, own_weights}
use Rattle.vs_typed.proofs.weights.+weighing.Given as goal

abbrev pub decreases-add_weight : goal.decreases-add_weight
decreases-add_weight l = 4 * l.e + 2

abbrev pub decreases-add_select : goal.decreases-add_select
decreases-add_select l = 4 * l.e

abbrev pub decreases-add_word : goal.decreases-add_word
decreases-add_word l = 4 * l.e

abbrev pub decreases-add_own : goal.decreases-add_own
decreases-add_own l = 4 * l.e + 3

abbrev pub decreases-add_parts : goal.decreases-add_parts
decreases-add_parts l = 4 * l.e

abbrev pub invariant-add_parts-loop-part : goal.invariant-add_parts-loop-part
invariant-add_parts-loop-part l = (capped (l.sum + own_weights (map (tree_of l.shapes) (drop l.part-index l.parts))) ≡ capped (l.initial.sum + own_weights (map (tree_of l.shapes) l.parts))) × (l.sum ≤ 18446744073709551615)

abbrev pub decreases-add_arguments : goal.decreases-add_arguments
decreases-add_arguments l = 4 * l.e + 1

abbrev pub decreases-add_argument : goal.decreases-add_argument
decreases-add_argument l = 4 * l.e

abbrev pub invariant-add_arguments-loop-k : goal.invariant-add_arguments-loop-k
invariant-add_arguments-loop-k l =
    (capped (l.sum + call_inputs (map (tree_of l.shapes) (drop l.k l.arguments)) (drop l.k (signals_from 0 l.inputs))) ≡ capped (l.initial.sum + call_inputs (map (tree_of l.shapes) l.arguments) (signals_from 0 l.inputs))) × (l.sum ≤ 18446744073709551615)
