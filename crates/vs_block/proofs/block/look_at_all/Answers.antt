use Rattle.std.proofs.Common.{length, ap, subst, arith}
use Rattle.vs_flat.specs.Arena.{Arena}
use Rattle.vs_full.specs.Found.{AreSound}
use Rattle.vs_block.proofs.Looking.{looked_more}
use Rattle.vs_block.proofs.block.look_at_all.Goals as goal

pub loop-p-init : goal.loop-p-init
loop-p-init c = record { sound = subst (λ (x : Arena). AreSound x c.in_ok-cases.cases) c.shapes.ensures c.in_ok-cases.ensures.sound; looked = λ q h. absurd (omega (arith, h)) }

pub look_at-requires-clause-process : goal.look_at-requires-clause-process
look_at-requires-clause-process c = omega (arith, c.loop-p-test.true, c.process_count-p-end.ensures.count, ap (λ (x : Arena). length x.processes) c.flat.ensures.same)

pub loop-p-preserved : goal.loop-p-preserved
loop-p-preserved c = let l = c.in_ok-look_at.ensures in record { sound = l.sound; looked = looked_more c.args.typed.now c.loop-p.cases c.look_at.new.cases c.loop-p.p l c.loop-p.invariant.looked }

pub returns : goal.returns
returns c = record {
  sound = c.loop-p.invariant.sound;
  each = λ q h. c.loop-p.invariant.looked q (omega (arith, h, c.loop-p-test.false, c.loop-p.auto.p-end, c.process_count-p-end.ensures.count, ap (λ (x : Arena). length x.processes) c.flat.ensures.same));
}
