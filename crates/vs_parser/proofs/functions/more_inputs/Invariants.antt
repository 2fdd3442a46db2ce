use Rattle.std.proofs.Common.{◌-◌, length, map}
use Rattle.vs_ast.specs.Views as view
use Rattle.vs_parser.specs.Functions.{InputsGrown}
use Rattle.vs_parser.proofs.functions.more_inputs.Given as goal

abbrev pub invariant-loop-depth : goal.invariant-loop-depth
invariant-loop-depth l = InputsGrown l.input (view.variables l.fn.first) l.fn.depth.value l.fn.at (map view.variables l.state.list.items) (view.variables l.state.last) l.state.to

abbrev pub decreases-loop-depth : goal.decreases-loop-depth
decreases-loop-depth l = length l.input.tokens.now - l.state.to
