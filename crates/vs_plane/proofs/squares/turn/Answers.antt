use Rattle.std.proofs.Common.{◌+◌, ◌*◌, get_or, refl, arith}
use Rattle.std.proofs.lemmas.List.{length-set}
use Rattle.vs_plane.proofs.SquareTurns.{two_more, two_fit, zeros_fit, first_fits, second_fits}
use Rattle.vs_plane.proofs.squares.turn.Goals as goal

pub loop-i-init : goal.loop-i-init
loop-i-init c = record {
  long = refl;
  fits = λ r. zeros_fit 64 r;
  done = λ r column h l. absurd (let e : ⊥ = omega arith in e);
}

pub loop-i-preserved : goal.loop-i-preserved
loop-i-preserved c = record {
  long = simp length-set c.loop-i.invariant.long;
  fits = λ r. two_fit c.loop-i.turned (2 * c.loop-i.i) (2 * c.loop-i.i + 1) _ _ r (c.loop-i.invariant.fits r)
      (first_fits c.args.shift c.args.mask (get_or c.args.rows.now c.loop-i.i 0) (get_or c.args.rows.now (c.loop-i.i + 32) 0) (omega arith))
      (second_fits c.args.shift c.args.mask (get_or c.args.rows.now c.loop-i.i 0) (get_or c.args.rows.now (c.loop-i.i + 32) 0) (omega arith));
  done = two_more c.args.shift c.args.mask c.loop-i.i c.args.rows.now c.loop-i.turned c.loop-i.invariant.long (omega arith) (omega arith) c.requires.some c.requires.mask c.loop-i.invariant.done;
}

pub returns-clause-turned : goal.returns-clause-turned
returns-clause-turned c = record { bits = λ r column hr hc. c.loop-i.invariant.done r column (omega arith) hc }
