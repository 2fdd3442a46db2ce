use Rattle.vs_elab.specs.Scoped.{AreMoreFrames}
use Rattle.vs_elab.proofs.scoped.push_frames.Given as goal

abbrev pub invariant-loop : goal.invariant-loop
invariant-loop l = AreMoreFrames l.fn.frames.items l.frames.items l.counter
