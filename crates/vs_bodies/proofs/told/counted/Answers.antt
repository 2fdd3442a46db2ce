use Rattle.vs_bodies.proofs.Joins.{counted_outside, counted_inside}
use Rattle.vs_bodies.proofs.told.counted.Goals as goal

pub returns-then-not-in_loop-clause-told : goal.returns-then-not-in_loop-clause-told
returns-then-not-in_loop-clause-told c = counted_outside c.args.in_loop c.args.said c.if-not-in_loop.true c.requires

pub returns-clause-told : goal.returns-clause-told
returns-clause-told c = counted_inside c.args.in_loop c.args.said c.if-not-in_loop.false c.requires
