use Rattle.vs_plane.proofs.SquareTurns.{zeros_fit, zero_columns}
use Rattle.vs_plane.proofs.squares.columns.Goals as goal

pub returns-then-are_zero-clause-columns : goal.returns-then-are_zero-clause-columns
returns-then-are_zero-clause-columns c = zero_columns c.args.rows.now (c.are_zero.ensures c.if-are_zero.true)

pub returns-then-are_zero-clause-fits : goal.returns-then-are_zero-clause-fits
returns-then-are_zero-clause-fits c = λ r. zeros_fit 64 r
