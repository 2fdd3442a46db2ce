use Rattle.std.proofs.Common.{◌+◌, ◌-◌, ◌*◌, length}
use Rattle.vs_ast.specs.Views as view
use Rattle.vs_statements.specs.Levels.{rank_of, Chain}
use Rattle.vs_statements.specs.Reading.{Gathering}
use Rattle.vs_statements.proofs.expressions.+expressions.Given as goal

abbrev pub decreases-expression : goal.decreases-expression
decreases-expression l = 32 * (201 - l.depth.value) + 20

abbrev pub decreases-choice : goal.decreases-choice
decreases-choice l = 32 * (201 - l.depth.value) + 21

abbrev pub decreases-operations : goal.decreases-operations
decreases-operations l = 32 * (201 - l.depth.value) + (4 + rank_of l.level)

abbrev pub decreases-unary : goal.decreases-unary
decreases-unary l = 32 * (201 - l.depth.value) + 3

abbrev pub decreases-primary : goal.decreases-primary
decreases-primary l = 32 * (201 - l.depth.value) + 2

abbrev pub decreases-named : goal.decreases-named
decreases-named l = 32 * (201 - l.depth.value) + 1

abbrev pub decreases-arguments : goal.decreases-arguments
decreases-arguments l = 32 * (201 - l.depth.value) + 0

abbrev pub decreases-select : goal.decreases-select
decreases-select l = 32 * (201 - l.depth.value) + 0

abbrev pub decreases-behind_index : goal.decreases-behind_index
decreases-behind_index l = 32 * (201 - l.depth.value) + 1

abbrev pub decreases-word_part : goal.decreases-word_part
decreases-word_part l = 32 * (201 - l.depth.value) + 0

abbrev pub decreases-brackets : goal.decreases-brackets
decreases-brackets l = 32 * (201 - l.depth.value) + 1

abbrev pub decreases-braces : goal.decreases-braces
decreases-braces l = 32 * (201 - l.depth.value) + 1

abbrev pub decreases-repeated : goal.decreases-repeated
decreases-repeated l = 32 * (201 - l.depth.value) + 22

abbrev pub decreases-call : goal.decreases-call
decreases-call l = 32 * (201 - l.depth.value) + 1

abbrev pub decreases-more_expressions : goal.decreases-more_expressions
decreases-more_expressions l = 32 * (201 - l.depth.value) + 21

abbrev pub invariant-operations-loop-op : goal.invariant-operations-loop-op
invariant-operations-loop-op l = Chain l.input l.level l.fn.depth.value l.fn.at (view.expr l.left.value) l.left.to l.left.height

abbrev pub decreases-operations-loop-op : goal.decreases-operations-loop-op
decreases-operations-loop-op l = length l.input.tokens.now - l.left.to

abbrev pub invariant-more_expressions-loop-depth : goal.invariant-more_expressions-loop-depth
invariant-more_expressions-loop-depth l = Gathering l.input l.fn.first.items l.fn.first_height l.fn.depth.value l.fn.at l.list.items l.to l.height

abbrev pub decreases-more_expressions-loop-depth : goal.decreases-more_expressions-loop-depth
decreases-more_expressions-loop-depth l = length l.input.tokens.now - l.to
