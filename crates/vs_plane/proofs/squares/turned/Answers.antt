use Rattle.std.proofs.Common.{refl}
use Rattle.vs_plane.proofs.SquareTurns.{mask_32, mask_16, mask_8, mask_4, mask_2, mask_1, six_turns}
use Rattle.vs_plane.proofs.squares.turned.Goals as goal

pub turn-first-requires-clause-mask : goal.turn-first-requires-clause-mask
turn-first-requires-clause-mask c = mask_32

pub turn-second-requires-clause-mask : goal.turn-second-requires-clause-mask
turn-second-requires-clause-mask c = mask_16

pub turn-third-requires-clause-mask : goal.turn-third-requires-clause-mask
turn-third-requires-clause-mask c = mask_8

pub turn-fourth-requires-clause-mask : goal.turn-fourth-requires-clause-mask
turn-fourth-requires-clause-mask c = mask_4

pub turn-fifth-requires-clause-mask : goal.turn-fifth-requires-clause-mask
turn-fifth-requires-clause-mask c = mask_2

pub turn-requires-clause-mask : goal.turn-requires-clause-mask
turn-requires-clause-mask c = mask_1

pub returns-clause-columns : goal.returns-clause-columns
returns-clause-columns c = six_turns c.args.rows.now c.turn.result (c.turn-fifth.result, c.turn.ensures.turned, (c.turn-fourth.result, c.turn-fifth.ensures.turned, (c.turn-third.result, c.turn-fourth.ensures.turned, (c.turn-second.result, c.turn-third.ensures.turned, (c.turn-first.result, c.turn-second.ensures.turned, (c.args.rows.now, c.turn-first.ensures.turned, refl))))))
