use Rattle.std.proofs.Common.{sym}
use Rattle.vs_explanation.proofs.Lines.{one_passed}
use Rattle.vs_explanation.proofs.stimuli.behind_newlines.Goals as goal

pub loop-left-preserved : goal.loop-left-preserved
loop-left-preserved c = one_passed c.loop-left.left c.loop-left.rest.now c.in_ok-rest.rest.now _ c.loop-left-test.true (sym c.in_ok-rest.ensures) c.loop-left.invariant
