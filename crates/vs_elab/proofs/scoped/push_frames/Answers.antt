use Rattle.std.proofs.Common.{◌≡◌, refl, subst, arith}
use Rattle.vs_elab.specs.Scoped.{AreMoreFrames}
use Rattle.vs_elab.proofs.ScopedParts.{frames_none, frames_more}
use Rattle.vs_elab.proofs.scoped.push_frames.Goals as goal

pub loop-init : goal.loop-init
loop-init c = frames_none c.args.frames.now.items

pub loop-preserved : goal.loop-preserved
loop-preserved c =
    frames_more c.args.frames.now.items c.loop.frames.items c.push.new.self.items c.loop.counter _ c.loop.invariant (record { entries = c.none.ensures.entries; incomplete = c.none.ensures.incomplete; parent = refl; turn = refl }) c.in_ok-push.ensures.items

pub returns : goal.returns
returns c =
    let all : c.loop.counter ≡ c.args.count = omega (arith, c.loop.auto.counter-end, c.loop-test.false) in
    subst (AreMoreFrames c.args.frames.now.items c.loop.frames.items) all c.loop.invariant
