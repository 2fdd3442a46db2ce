use Rattle.std.proofs.Common.{◌-◌, length, map}
use Rattle.vs_ast.specs.Views as view
use Rattle.vs_parser.specs.Headings.{PortsGrown}
use Rattle.vs_parser.proofs.modules.more_ports.Given as goal

abbrev pub invariant-loop-depth : goal.invariant-loop-depth
invariant-loop-depth l = PortsGrown l.input (view.signals l.fn.first) l.fn.depth.value l.fn.at (map view.signals l.state.list.items) (view.signals l.state.last) l.state.to

abbrev pub decreases-loop-depth : goal.decreases-loop-depth
decreases-loop-depth l = length l.input.tokens.now - l.state.to
