use Rattle.std.proofs.Common.{◌+◌, ◌-◌, ◌*◌, length}
use Rattle.vs_grammar.specs.Verilog.{Rule as rule, r}
use Rattle.vs_grammar.specs.Meaning as meaning
use Rattle.vs_ast.specs.Views as view
use Rattle.vs_parser.specs.Parts as part
use Rattle.vs_statements.specs.Reading.{Listing}
use Rattle.vs_parser.proofs.items.+items.Given as goal

abbrev pub invariant-generate_arms-loop-depth : goal.invariant-generate_arms-loop-depth
invariant-generate_arms-loop-depth l = Listing l.input (r rule.GenerateCaseItem) part.generate_arm_of part.generate_arm_view l.fn.depth.value l.fn.before.items l.fn.at l.list.items l.to

abbrev pub decreases-generate_arms-loop-depth : goal.decreases-generate_arms-loop-depth
decreases-generate_arms-loop-depth l = length l.input.tokens.now - l.to

abbrev pub invariant-generate_items-loop-depth : goal.invariant-generate_items-loop-depth
invariant-generate_items-loop-depth l = Listing l.input (r rule.GenerateItem) meaning.item_of view.item l.fn.depth.value l.fn.before.items l.fn.at l.list.items l.to

abbrev pub decreases-generate_items-loop-depth : goal.decreases-generate_items-loop-depth
decreases-generate_items-loop-depth l = length l.input.tokens.now - l.to

abbrev pub decreases-block : goal.decreases-block
decreases-block l = 16 * (201 - l.depth.value) + 1

abbrev pub decreases-enclosed : goal.decreases-enclosed
decreases-enclosed l = 16 * (201 - l.depth.value) + 8

abbrev pub decreases-generate_items : goal.decreases-generate_items
decreases-generate_items l = 16 * (201 - l.depth.value) + 7

abbrev pub decreases-generate_item : goal.decreases-generate_item
decreases-generate_item l = 16 * (201 - l.depth.value) + 6

abbrev pub decreases-generate_for : goal.decreases-generate_for
decreases-generate_for l = 16 * (201 - l.depth.value) + 5

abbrev pub decreases-generate_if : goal.decreases-generate_if
decreases-generate_if l = 16 * (201 - l.depth.value) + 5

abbrev pub decreases-other_block : goal.decreases-other_block
decreases-other_block l = 16 * (201 - l.depth.value) + 2

abbrev pub decreases-generate_case : goal.decreases-generate_case
decreases-generate_case l = 16 * (201 - l.depth.value) + 5

abbrev pub decreases-generate_cases : goal.decreases-generate_cases
decreases-generate_cases l = 16 * (201 - l.depth.value) + 4

abbrev pub decreases-generate_arms : goal.decreases-generate_arms
decreases-generate_arms l = 16 * (201 - l.depth.value) + 3

abbrev pub decreases-generate_arm : goal.decreases-generate_arm
decreases-generate_arm l = 16 * (201 - l.depth.value) + 2

abbrev pub decreases-generate_default : goal.decreases-generate_default
decreases-generate_default l = 16 * (201 - l.depth.value) + 2
