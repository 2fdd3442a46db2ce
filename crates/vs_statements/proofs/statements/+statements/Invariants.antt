use Rattle.std.proofs.Common.{◌+◌, ◌-◌, ◌*◌, length, []}
use Rattle.vs_grammar.specs.Verilog.{Rule as rule, r}
use Rattle.vs_grammar.specs.Meaning as meaning
use Rattle.vs_ast.specs.Views as view
use Rattle.vs_statements.specs.Parts as part
use Rattle.vs_statements.specs.Reading.{Listing}
use Rattle.vs_statements.proofs.statements.+statements.Given as goal

abbrev pub invariant-statements-loop-depth : goal.invariant-statements-loop-depth
invariant-statements-loop-depth l = Listing l.input (r rule.Statement) meaning.statement_of view.statement l.fn.depth.value [] l.fn.at l.list.items l.to

abbrev pub decreases-statements-loop-depth : goal.decreases-statements-loop-depth
decreases-statements-loop-depth l = length l.input.tokens.now - l.to

abbrev pub invariant-case_arms-loop-depth : goal.invariant-case_arms-loop-depth
invariant-case_arms-loop-depth l = Listing l.input (r rule.CaseItem) part.arm_of part.arm_view l.fn.depth.value l.fn.before.items l.fn.at l.list.items l.to

abbrev pub decreases-case_arms-loop-depth : goal.decreases-case_arms-loop-depth
decreases-case_arms-loop-depth l = length l.input.tokens.now - l.to

abbrev pub decreases-statement : goal.decreases-statement
decreases-statement l = 16 * (201 - l.depth.value) + 1

abbrev pub decreases-conditional : goal.decreases-conditional
decreases-conditional l = 16 * (201 - l.depth.value) + 8

abbrev pub decreases-alternative : goal.decreases-alternative
decreases-alternative l = 16 * (201 - l.depth.value) + 2

abbrev pub decreases-sequence : goal.decreases-sequence
decreases-sequence l = 16 * (201 - l.depth.value) + 8

abbrev pub decreases-loop_statement : goal.decreases-loop_statement
decreases-loop_statement l = 16 * (201 - l.depth.value) + 8

abbrev pub decreases-statements : goal.decreases-statements
decreases-statements l = 16 * (201 - l.depth.value) + 2

abbrev pub decreases-case : goal.decreases-case
decreases-case l = 16 * (201 - l.depth.value) + 8

abbrev pub decreases-cases : goal.decreases-cases
decreases-cases l = 16 * (201 - l.depth.value) + 7

abbrev pub decreases-case_arms : goal.decreases-case_arms
decreases-case_arms l = 16 * (201 - l.depth.value) + 6

abbrev pub decreases-case_arm : goal.decreases-case_arm
decreases-case_arm l = 16 * (201 - l.depth.value) + 5

abbrev pub decreases-case_default : goal.decreases-case_default
decreases-case_default l = 16 * (201 - l.depth.value) + 5
