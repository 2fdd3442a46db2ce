use Rattle.std.proofs.Common.{Some}
use Rattle.vs_scope.specs.Frames.{env_at, envs}
use Rattle.vs_elab.proofs.OpenedSteps.{part_pending, parts_left}
use Rattle.vs_elab.proofs.PendingStacks.{part_moved}
use Rattle.vs_elab.proofs.stack.push_parts.Goals as goal

pub loop-part-preserved : goal.loop-part-preserved
loop-part-preserved c = record {
  pieces = λ source frames.
      part_moved source frames c.args.frame c.args.depth c.args.left c.loop-part.parts.items c.pop.new.self.items c.pop.result c.in-Some.part c.loop-part.stack.items c.push.new.self.items _ c.pop.ensures.items c.in-Some.is c.in_ok-push.ensures.items
      (c.loop-part.invariant.pieces source frames);
  left = λ source frames fine. parts_left source (env_at (envs frames) (Some c.args.frame)) c.loop-part.parts.items c.pop.new.self.items c.pop.result c.pop.ensures.items (c.loop-part.invariant.left source frames fine);
  pending = λ source frames before within few fine.
      part_pending source frames c.args.frame c.args.depth c.args.left c.loop-part.parts.items c.pop.new.self.items c.pop.result c.in-Some.part c.loop-part.stack.items c.push.new.self.items c.pop.ensures.items c.in-Some.is c.in_ok-push.ensures.items within few
      (c.loop-part.invariant.left source frames fine) (c.loop-part.invariant.pending source frames before within few fine);
}
