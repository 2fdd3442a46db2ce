use Rattle.std.proofs.Common.{◌-◌, length}
use Rattle.vs_parser.specs.ItemLists.{ItemsGrown}
use Rattle.vs_parser.proofs.items.items.Given as goal

abbrev pub invariant-loop-depth : goal.invariant-loop-depth
invariant-loop-depth l = ItemsGrown l.input l.fn.depth.value l.fn.at l.list.items l.to

abbrev pub decreases-loop-depth : goal.decreases-loop-depth
decreases-loop-depth l = length l.input.tokens.now - l.to
