use Rattle.vs_scope.proofs.ChosenBlocks.{arm_got, arm_missing}
use Rattle.vs_scope.proofs.constructs.arm_at.Goals as goal

pub returns-then-k-arms : goal.returns-then-k-arms
returns-then-k-arms c = arm_got c.args.arms.now c.args.k c.index-arms-k.result c.if-k-arms.true

pub returns-else-k-arms : goal.returns-else-k-arms
returns-else-k-arms c = arm_missing c.args.arms.now c.args.k c.if-k-arms.false
