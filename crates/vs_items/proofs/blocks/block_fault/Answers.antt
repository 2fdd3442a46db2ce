use Rattle.std.proofs.Common.{List, map, ap, ◌∙◌}
use Rattle.vs_const.specs.Faults.{least}
use Rattle.vs_ast.specs.Views as view
use Rattle.vs_elaborated.specs.Environments.{named}
use Rattle.vs_elaborated.specs.Heads.{shared_heads}
use Rattle.vs_elaborated.specs.Limits.{the_limits}
use Rattle.vs_elaborated.specs.NamedBlocks.{named_blocks}
use Rattle.vs_elaborated.specs.Statements.{typed_control}
use Rattle.vs_elaborated.specs.Surveys.{block_heads}
use Rattle.vs_scope.specs.Frames.{view_env}
use Rattle.vs_items.specs.declared.loops.Head.{Head}
use Rattle.vs_items.specs.Blocks.{faults_by}
use Rattle.vs_items.specs.Loops.{head}
use Rattle.vs_items.proofs.BlockSteps.{first_of_three}
use Rattle.vs_items.proofs.blocks.block_fault.Goals as goal

pub returns-clause-fault : goal.returns-clause-fault
returns-clause-fault c =
    let b = view.always_block c.args.b.now in
    let env = view_env c.args.here.now in
    let before = c.args.loops.now in
    first_of_three c.check_control-waits.result c.in_ok-found.found.fault c.shared_fault-shared.result c.first_of.result c.first_of-2.result
    (typed_control b.control (named env)).faults (faults_by (named_blocks b.statement) the_limits env before b) (shared_heads before.headed (block_heads env b))
    c.first_of-2.ensures c.first_of.ensures c.check_control-waits.ensures c.in_ok-found.ensures.fault
    (c.shared_fault-shared.ensures ∙ ap (λ (hs : List Head). least (shared_heads before.headed (map head hs))) c.as_slice.ensures.value ∙ ap (λ hs. least (shared_heads before.headed hs)) c.in_ok-heads.ensures)
