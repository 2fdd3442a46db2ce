use Rattle.std.proofs.Common.{eqb-true, arith}
use Rattle.vs_plane.proofs.SquareTurns.{no_more}
use Rattle.vs_plane.proofs.squares.are_zero.Goals as goal

pub loop-i-init : goal.loop-i-init
loop-i-init c = λ r h. absurd (let e : ⊥ = omega arith in e)

pub loop-i-preserved : goal.loop-i-preserved
loop-i-preserved c = no_more c.args.rows.now c.loop-i.i c.loop-i.bits c.loop-i.invariant

pub returns : goal.returns
returns c = λ zero r h. omega (arith, c.loop-i.invariant r (omega arith), eqb-true c.loop-i.bits 0 zero)
