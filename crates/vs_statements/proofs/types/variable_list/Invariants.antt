use Rattle.std.proofs.Common.{◌-◌, length, []}
use Rattle.vs_grammar.specs.Verilog.{Rule as rule, r}
use Rattle.vs_grammar.specs.Meaning as meaning
use Rattle.vs_ast.specs.Views as view
use Rattle.vs_statements.specs.Reading.{Listing}
use Rattle.vs_statements.proofs.types.variable_list.Given as goal

abbrev pub invariant-loop-depth : goal.invariant-loop-depth
invariant-loop-depth l = Listing l.input (r rule.Variables) meaning.variables_of view.variables l.fn.depth.value [] l.fn.at l.list.items l.to

abbrev pub decreases-loop-depth : goal.decreases-loop-depth
decreases-loop-depth l = length l.input.tokens.now - l.to
