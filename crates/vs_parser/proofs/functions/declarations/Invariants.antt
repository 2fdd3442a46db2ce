use Rattle.std.proofs.Common.{◌-◌, length}
use Rattle.vs_parser.specs.Functions.{parts_view, DeclarationsGrown}
use Rattle.vs_parser.proofs.functions.declarations.Given as goal

abbrev pub invariant-loop-depth : goal.invariant-loop-depth
invariant-loop-depth l = DeclarationsGrown l.input l.fn.depth.value l.fn.at (parts_view l.parts) l.to

abbrev pub decreases-loop-depth : goal.decreases-loop-depth
decreases-loop-depth l = length l.input.tokens.now - l.to
