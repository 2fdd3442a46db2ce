use Rattle.std.proofs.Common.{arith}
use Rattle.vs_full.proofs.Growing.{grown_kept, grown_longer, grown_sound, nothing_kept}
use Rattle.vs_full.proofs.cases.Cases.reach.Goals as goal

pub loop-n-init : goal.loop-n-init
loop-n-init c = record { sound = c.requires.sound; kept = nothing_kept c.args.shapes.now c.args.self.now; room = omega (arith, c.room-n.ensures) }

pub loop-n-preserved : goal.loop-n-preserved
loop-n-preserved c =
    let a = c.args.shapes.now in
    record {
      sound = grown_sound a c.loop-n.self c.grow.new.self c.in_ok-grow.ensures c.loop-n.invariant.sound;
      kept = grown_kept a c.args.self.now c.loop-n.self c.grow.new.self c.in_ok-grow.ensures c.loop-n.invariant.kept;
      room = grown_longer c.loop-n.self c.grow.new.self c.loop-n._n c.in_ok-grow.ensures c.loop-n.invariant.room;
    }

pub returns : goal.returns
returns c = record { sound = c.loop-n.invariant.sound; kept = c.loop-n.invariant.kept; noted = omega (arith, c.loop-n-test.false, c.loop-n.invariant.room) }
