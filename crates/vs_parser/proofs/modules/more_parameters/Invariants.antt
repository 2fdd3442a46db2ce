use Rattle.std.proofs.Common.{◌-◌, length, map}
use Rattle.vs_ast.specs.Views as view
use Rattle.vs_parser.specs.Headings.{ParametersGrown}
use Rattle.vs_parser.proofs.modules.more_parameters.Given as goal

abbrev pub invariant-loop-depth : goal.invariant-loop-depth
invariant-loop-depth l = ParametersGrown l.input (view.parameters l.fn.first) l.fn.depth.value l.fn.at (map view.parameters l.state.list.items) (view.parameters l.state.last) l.state.to

abbrev pub decreases-loop-depth : goal.decreases-loop-depth
decreases-loop-depth l = length l.input.tokens.now - l.state.to
