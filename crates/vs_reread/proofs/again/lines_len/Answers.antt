use Rattle.std.proofs.Common.{◌∙◌, arith}
use Rattle.vs_reread.proofs.Lines.{one_further}
use Rattle.vs_reread.proofs.again.lines_len.Goals as goal

pub loop-end-preserved : goal.loop-end-preserved
loop-end-preserved c = record {
  within = omega (arith, c.loop-end-test.true);
  lines = one_further c.args.text.now c.loop-end.end c.loop-end.left c.lines_behind-left.result c.loop-end-test.true c.if-left-gt0.true c.lines_behind-left.ensures ∙ c.loop-end.invariant.lines;
}
