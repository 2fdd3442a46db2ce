use Rattle.std.proofs.Common.{◌+◌, ◌*◌, max, map, take, length}
use Rattle.vs_design.specs.Expressions.{items_of}
use Rattle.vs_flat.specs.DesignOf.{arena_trees}
use Rattle.vs_flat.specs.Trees.{tree_at}
use Rattle.vs_values.specs.Calling.{AddsArguments}
use Rattle.vs_values.specs.Templates.{function_at}
use Rattle.vs_values.proofs.expressions.+expressions.Given as goal

abbrev pub decreases-lower : goal.decreases-lower
decreases-lower l = 128 * l.e + 127

abbrev pub decreases-binary : goal.decreases-binary
decreases-binary l = 128 * max l.a l.b + 128

abbrev pub decreases-unary : goal.decreases-unary
decreases-unary l = 128 * l.a + 128

abbrev pub decreases-choice : goal.decreases-choice
decreases-choice l = 128 * max l.c (max l.p l.q) + 128

abbrev pub decreases-concatenated : goal.decreases-concatenated
decreases-concatenated l = 128 * l.e + length l.parts.now

abbrev pub decreases-replication : goal.decreases-replication
decreases-replication l = 128 * l.e + 126

abbrev pub decreases-select : goal.decreases-select
decreases-select l = 128 * l.index + 128

abbrev pub decreases-word : goal.decreases-word
decreases-word l = 128 * l.index + 128

abbrev pub decreases-word_part : goal.decreases-word_part
decreases-word_part l = 128 * max l.address l.index + 128

abbrev pub decreases-argument : goal.decreases-argument
decreases-argument l = 128 * l.e + 128

abbrev pub decreases-inputs : goal.decreases-inputs
decreases-inputs l = 128 * l.e + 125

abbrev pub decreases-call : goal.decreases-call
decreases-call l = 128 * l.e + 126

abbrev pub invariant-inputs-loop-n : goal.invariant-inputs-loop-n
invariant-inputs-loop-n l =
    AddsArguments l.env l.initial.code l.code (items_of (map (tree_at (arena_trees l.templates.arena)) (take l.n l.arguments))) (take l.n (function_at l.templates.arena l.function).header.inputs) l.to.items
