use Rattle.std.proofs.Common.{◌+◌, ◌*◌}
use Rattle.vs_grammar.specs.Depths.{item_depth}
use Rattle.vs_ast.specs.Views as view
use Rattle.vs_scope.specs.Chosen.{block_now}
use Rattle.vs_scope.proofs.ChosenBlocks.{depth_of}
use Rattle.vs_scope.proofs.constructs.+constructs.Given as goal

abbrev pub decreases-construct : goal.decreases-construct
decreases-construct l = 2 * item_depth (view.item l.item.now) + 1

abbrev pub decreases-branch : goal.decreases-branch
decreases-branch l = 2 * depth_of (block_now l.c.body)
